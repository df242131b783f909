-- Four equal bits in a row, in octets two by two.
use Rattle.std.proofs.Common.{◌≡◌, ◌∙◌, ◌<◌, ◌≤◌, ◌+◌, ◌||◌, ◌&&◌, ◌-◌, ℕ, zero, suc, Bool, true, false, List, [], ◌∷◌, ◌++◌, length, take}
use Rattle.std.proofs.Common.{get_or, nat_lt, not, refl, sym, ap, ap₂, arith, append-nil, w8}
use Rattle.std.specs.List.{flat_map}
use Rattle.std.specs.Int.{reverse_bits, reverse_bits_onto}
use Rattle.std.specs.Str.{bytes_eq}
use Rattle.std.proofs.lemmas.Bool.{agree_below_at, lt-ltb}
use Rattle.std.proofs.lemmas.List.{append_assoc, length-append, take_all}
use Rattle.std.proofs.lemmas.Slice.Eq.{bytes_eq-Decides}
use Rattle.std.proofs.Math.Bool.{or-false, or_assoc}
use Rattle.aes3_files.specs.Packed.{are_equal, has_long_run, bits_down, bits_up}
use Rattle.aes3_files.specs.Packed.{are_packed, are_reversed, highest_first, lowest_first}

or-map : (p q r : Bool) → (q ≡ true → r ≡ true) → (p || q) ≡ true → (p || r) ≡ true
or-map true q r f h = refl
or-map false q r f h = f h

-- the four bits at the front
abbrev front : ℕ → List ℕ → Bool
front x [] = false
front x (a ∷ []) = false
front x (a ∷ b ∷ []) = false
front x (a ∷ b ∷ c ∷ l) = are_equal x a b c

at-front : (x : ℕ) (l : List ℕ) → has_long_run (x ∷ l) ≡ (front x l || has_long_run l)
at-front x [] = refl
at-front x (a ∷ []) = refl
at-front x (a ∷ b ∷ []) = refl
at-front x (a ∷ b ∷ c ∷ l) = refl

front-append : (x : ℕ) (l m : List ℕ) → 3 ≤ length l → front x (l ++ m) ≡ front x l
front-append x [] m h = absurd (omega (arith, h))
front-append x (a ∷ []) m h = absurd (omega (arith, h))
front-append x (a ∷ b ∷ []) m h = absurd (omega (arith, h))
front-append x (a ∷ b ∷ c ∷ l) m h = refl

-- bits with a run have it with more behind them
run-append : (l m : List ℕ) → has_long_run l ≡ true → has_long_run (l ++ m) ≡ true
run-append [] m h = absurd cc
run-append (a ∷ []) m h = absurd cc
run-append (a ∷ b ∷ []) m h = absurd cc
run-append (a ∷ b ∷ c ∷ []) m h = absurd cc
run-append (a ∷ b ∷ c ∷ d ∷ l) m h =
    or-map (are_equal a b c d) (has_long_run (b ∷ c ∷ d ∷ l)) (has_long_run ((b ∷ c ∷ d ∷ l) ++ m))
    (run-append (b ∷ c ∷ d ∷ l) m) h

absorbed : (p q : Bool) → (p ≡ true → q ≡ true) → q ≡ (p || q)
absorbed true q f = f refl
absorbed false q f = refl

-- a run in three parts is in the first two or the last two, as the second is long
join : (xs ys zs : List ℕ) → 3 ≤ length ys
    → has_long_run (xs ++ (ys ++ zs)) ≡ (has_long_run (xs ++ ys) || has_long_run (ys ++ zs))
join [] ys zs h = absorbed (has_long_run ys) (has_long_run (ys ++ zs)) (run-append ys zs)
join (x ∷ xs) ys zs h =
    let n = length-append xs ys in
    at-front x (xs ++ (ys ++ zs))
    ∙ ap₂ ◌||◌
    (sym (ap (front x) (append_assoc xs ys zs)) ∙ front-append x (xs ++ ys) zs (omega arith))
    (join xs ys zs h)
    ∙ sym (or_assoc (front x (xs ++ ys)) (has_long_run (xs ++ ys)) (has_long_run (ys ++ zs)))
    ∙ ap (λ p. p || has_long_run (ys ++ zs)) (sym (at-front x (xs ++ ys)))

-- whether some two neighbours have a run, with the bits that f gives of an octet
abbrev pub in_pairs : (ℕ → List ℕ) → List ℕ → Bool
in_pairs f [] = false
in_pairs f (x ∷ []) = false
in_pairs f (x ∷ y ∷ l) = has_long_run (flat_map f (x ∷ y ∷ [])) || in_pairs f (y ∷ l)

pub all-in-pairs : (f : ℕ → List ℕ) (l : List ℕ) → ((x : ℕ) → length (f x) ≡ 8) → 1 < length l
    → has_long_run (flat_map f l) ≡ in_pairs f l
all-in-pairs f [] e h = absurd (omega (arith, h))
all-in-pairs f (x ∷ []) e h = absurd (omega (arith, h))
all-in-pairs f (x ∷ y ∷ []) e h = sym (or-false (has_long_run (flat_map f (x ∷ y ∷ []))))
all-in-pairs f (x ∷ y ∷ z ∷ l) e h =
    join (f x) (f y) (flat_map f (z ∷ l)) (omega (arith, e y))
    ∙ ap₂ ◌||◌ (ap (λ m. has_long_run (f x ++ m)) (sym (append-nil (f y)))) (all-in-pairs f (y ∷ z ∷ l) e (omega arith))

-- one more octet
pub pairs-more : (f : ℕ → List ℕ) (l : List ℕ) (k : ℕ) → suc k < length l
    → in_pairs f (take (suc (suc k)) l)
    ≡ (in_pairs f (take (suc k) l) || has_long_run (flat_map f (get_or l k 0 ∷ get_or l (suc k) 0 ∷ [])))
pairs-more f [] k h = absurd (omega (arith, h))
pairs-more f (x ∷ []) k h = absurd (omega (arith, h))
pairs-more f (x ∷ y ∷ l) zero h = or-false (has_long_run (flat_map f (x ∷ y ∷ [])))
pairs-more f (x ∷ y ∷ l) (suc k) h =
    ap (λ p. has_long_run (flat_map f (x ∷ y ∷ [])) || p) (pairs-more f (y ∷ l) k (omega arith))
    ∙ sym (or_assoc (has_long_run (flat_map f (x ∷ y ∷ []))) (in_pairs f (take (suc k) (y ∷ l)))
    (has_long_run (flat_map f (get_or (y ∷ l) k 0 ∷ get_or (y ∷ l) (suc k) 0 ∷ []))))

pub pairs-front : (f : ℕ → List ℕ) (l : List ℕ) (n : ℕ) → in_pairs f (take n l) ≡ true → in_pairs f l ≡ true
pairs-front f [] zero h = absurd cc
pairs-front f [] (suc n) h = absurd cc
pairs-front f (x ∷ l) zero h = absurd cc
pairs-front f (x ∷ []) (suc zero) h = absurd cc
pairs-front f (x ∷ []) (suc (suc n)) h = absurd cc
pairs-front f (x ∷ y ∷ l) (suc zero) h = absurd cc
pairs-front f (x ∷ y ∷ l) (suc (suc n)) h =
    or-map (has_long_run (flat_map f (x ∷ y ∷ []))) (in_pairs f (take (suc n) (y ∷ l))) (in_pairs f (y ∷ l))
    (pairs-front f (y ∷ l) (suc n)) h

pub pairs-next : (f : ℕ → List ℕ) (l : List ℕ) (at : ℕ) → 1 ≤ at → at < length l → in_pairs f (take (at + 1) l)
    ≡ (in_pairs f (take at l) || has_long_run (flat_map f (get_or l (at - 1) 0 ∷ get_or l at 0 ∷ [])))
pairs-next f l zero g h = absurd (omega (arith, g))
pairs-next f l (suc k) g h =
    let n : suc k + 1 ≡ suc (suc k) = omega arith in
    let m : k ≡ suc k - 1 = omega arith in
    ap (λ i. in_pairs f (take i l)) n ∙ pairs-more f l k h
    ∙ ap (λ i. in_pairs f (take (suc k) l) || has_long_run (flat_map f (get_or l i 0 ∷ get_or l (suc k) 0 ∷ []))) m

-- octets of which no two neighbours have a run, or some have
are-packed : (l : List ℕ) (p : Bool) → in_pairs bits_down l ≡ p → 1 < length l → are_packed l ≡ not p
unfolding are_packed
are-packed l p e h =
    ap₂ (λ some p. some && not p) (lt-ltb 1 (length l) h) (all-in-pairs bits_down l (λ x. refl) h ∙ e)

pub packed-not : (l : List ℕ) (n : ℕ) → 1 < length l → in_pairs bits_down (take n l) ≡ true → false ≡ are_packed l
packed-not l n h e = sym (are-packed l true (pairs-front bits_down l n e) h)

pub packed-are : (l : List ℕ) (n : ℕ) → length l ≤ n → in_pairs bits_down (take n l) ≡ false
    → nat_lt 1 (length l) ≡ are_packed l
unfolding are_packed
packed-are [] n h e = refl
packed-are (x ∷ []) n h e = refl
packed-are (x ∷ y ∷ l) n h e =
    lt-ltb 1 (length (x ∷ y ∷ l)) (omega arith)
    ∙ sym (are-packed (x ∷ y ∷ l) false (sym (ap (in_pairs bits_down) (take_all n (x ∷ y ∷ l) h)) ∙ e) (omega arith))

by-pairs : (l : List ℕ) → are_reversed l ≡ (in_pairs bits_down l && not (in_pairs bits_up l))
unfolding are_reversed
by-pairs [] = refl
by-pairs (x ∷ []) = refl
by-pairs (x ∷ y ∷ l) =
    let h : 1 < length (x ∷ y ∷ l) = omega arith in
    ap (λ some. some && has_long_run (highest_first (x ∷ y ∷ l)) && not (has_long_run (lowest_first (x ∷ y ∷ l))))
    (lt-ltb 1 (length (x ∷ y ∷ l)) h)
    ∙ ap₂ (λ p q. p && not q) (all-in-pairs bits_down (x ∷ y ∷ l) (λ x. refl) h)
    (all-in-pairs bits_up (x ∷ y ∷ l) (λ x. refl) h)

pub reversed-are : (l : List ℕ) (n : ℕ) (down up : Bool) → length l ≤ n → down ≡ in_pairs bits_down (take n l)
    → up ≡ in_pairs bits_up (take n l) → (down && not up) ≡ are_reversed l
reversed-are l n down up h d u =
    let e = take_all n l h in
    ap₂ (λ p q. p && not q) (d ∙ ap (in_pairs bits_down) e) (u ∙ ap (in_pairs bits_up) e) ∙ sym (by-pairs l)

-- the bits of reversed octets
octet-reversed : (n : ℕ) → n < 256 → bits_down (reverse_bits w8 n) ≡ bits_up n
unfolding reverse_bits_onto
octet-reversed n h =
    (bytes_eq-Decides (bits_down (reverse_bits w8 n)) (bits_up n)).0
    (agree_below_at (λ n. bytes_eq (bits_down (reverse_bits w8 n)) (bits_up n)) (λ _. true) 256 n refl h)

pub pair-reversed : (a b x y : ℕ) → a < 256 → b < 256 → x ≡ reverse_bits w8 a → y ≡ reverse_bits w8 b
    → has_long_run (highest_first (x ∷ y ∷ [])) ≡ has_long_run (lowest_first (a ∷ b ∷ []))
pair-reversed a b x y g h d e =
    ap₂ (λ z w. has_long_run (z ++ (w ++ []))) (ap bits_down d ∙ octet-reversed a g) (ap bits_down e ∙ octet-reversed b h)
