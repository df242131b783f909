-- The places at which cells differ from two lists that themselves differ at some places, and those that leave a block.
use Rattle.std.proofs.Common.{◌≡◌, ℕ, zero, suc, ◌+◌, ◌<◌, ◌⊎◌, inl, inr, List, [], ◌∷◌, Bool, true, false, not, ◌&&◌}
use Rattle.std.proofs.Common.{◌||◌, ◌==◌, cond, refl, length, ap, ◌∙◌, sym, arith, eq-eqb, ne_eqb}
use Rattle.std.proofs.lemmas.Bool.{cases_eq, cases_Bool, and_parts, eqb-true}
use Rattle.std.specs.List.{Contains, filter, list_any}
use Rattle.aes3_level.specs.declared.level.Level.{Level}
use Rattle.aes3_slot.specs.Reading.{differs}
use Rattle.aes3_slot.specs.Rules.{at}
use Rattle.aes3_lock.specs.Damage.{between_slots, exchanged, places_apart}
use Rattle.aes3_lock.specs.Remains.{left_of}
use Rattle.aes3_lock.proofs.Apart.{other-of, differs-true, differs-false}
use Rattle.aes3_lock.proofs.Exchanged.{Between, true-between}
use Rattle.aes3_lock.proofs.PlacesApart.{Has}

-- members of a list of places, in both words, and the test
pub contains-has : (xs : List ℕ) (x : ℕ) → Contains xs x → Has x xs
contains-has [] x (k, l, e) = absurd (omega arith)
contains-has (y ∷ xs) x (zero, l, e) = inl (sym e)
contains-has (y ∷ xs) x (suc k, l, e) = inr (contains-has xs x (k, omega arith, e))

pub has-contains : (xs : List ℕ) (x : ℕ) → Has x xs → Contains xs x
has-contains [] x h = absurd h
has-contains (y ∷ xs) x (inl e) = (0, omega arith, sym e)
has-contains (y ∷ xs) x (inr h) = let r = has-contains xs x h in let l = r.1 in (suc r.0, omega arith, r.2)

pub any-has : (xs : List ℕ) (x : ℕ) → list_any (λ y. y == x) xs ≡ true → Has x xs
any-has [] x t = cc
any-has (y ∷ xs) x t = go (cases_eq y x) (λ q. any-has xs x q)
  where
    go : (y ≡ x) ⊎ (y ≡ x → ⊥) → (list_any (λ y. y == x) xs ≡ true → Has x xs) → (x ≡ y) ⊎ Has x xs
    go (inl e) next = inl (sym e)
    go (inr n) next = let q = ne_eqb y x n in inr (next (rw q at t))

pub has-any : (xs : List ℕ) (x : ℕ) → Has x xs → list_any (λ y. y == x) xs ≡ true
has-any [] x h = absurd h
has-any (y ∷ xs) x (inl e) = let q = eq-eqb y x (sym e) in rw q refl
has-any (y ∷ xs) x (inr h) = let q = has-any xs x h in either (y == x) q
  where
    either : (b : Bool) → list_any (λ y. y == x) xs ≡ true → (b || list_any (λ y. y == x) xs) ≡ true
    either true q = refl
    either false q = q

-- where d differs from c just at some places, and so does e, the others are those at which e differs from d
pub places-but : (some : ℕ → Bool) (n : ℕ) (c d e : List Level) → length c ≡ length d → length c ≡ length e
    → ((x : ℕ) → x < length c → some (n + x) ≡ true → (at c x ≡ at d x → ⊥) × (at c x ≡ at e x → ⊥))
    → ((x : ℕ) → x < length c → some (n + x) ≡ false → at c x ≡ at d x)
    → places_apart n d e ≡ filter (λ x. not (some x)) (places_apart n c e)
places-but some n [] [] e l m o k = refl
places-but some n [] (v ∷ d) e l m o k = absurd (omega arith)
places-but some n (u ∷ c) [] e l m o k = absurd (omega arith)
places-but some n (u ∷ c) (v ∷ d) [] l m o k = absurd (omega arith)
places-but some n (u ∷ c) (v ∷ d) (w ∷ e) l m o k =
    go (cases_Bool (some n))
    (places-but some (suc n) c d e (omega arith) (omega arith)
    (λ x i t. let q : n + suc x ≡ suc n + x = omega arith in o (suc x) (omega arith) (ap some q ∙ t))
    (λ x i t. let q : n + suc x ≡ suc n + x = omega arith in k (suc x) (omega arith) (ap some q ∙ t)))
  where
    here : n + 0 ≡ n
    here = omega arith

    go : (some n ≡ true) ⊎ (some n ≡ false)
        → places_apart (suc n) d e ≡ filter (λ x. not (some x)) (places_apart (suc n) c e)
        → cond (differs v w) (n ∷ places_apart (suc n) d e) (places_apart (suc n) d e)
        ≡ filter (λ x. not (some x)) (cond (differs u w) (n ∷ places_apart (suc n) c e) (places_apart (suc n) c e))
    go (inl t) rest =
        let a = o 0 (omega arith) (ap some here ∙ t) in
        let f = differs-true u w a.1 in
        let g = differs-false v w (sym (other-of u v a.0) ∙ other-of u w a.1) in
        rw (f, g, t) rest
    go (inr t) rest = next (cases_Bool (differs u w))
      where
        alike : differs v w ≡ differs u w
        alike = ap (λ z. differs z w) (sym (k 0 (omega arith) (ap some here ∙ t)))

        next : (differs u w ≡ true) ⊎ (differs u w ≡ false)
            → cond (differs v w) (n ∷ places_apart (suc n) d e) (places_apart (suc n) d e)
            ≡ filter (λ x. not (some x)) (cond (differs u w) (n ∷ places_apart (suc n) c e) (places_apart (suc n) c e))
        next (inl f) = let g = alike ∙ f in rw (f, g, t) (ap (λ xs. n ∷ xs) rest)
        next (inr f) = let g = alike ∙ f in rw (f, g) rest

-- each of the places that leave a block is one of a pair
pub in-pairs : (ys : List ℕ) (b d : List (List Bool)) → left_of ys b ≡ d ∷ [] → (z : ℕ) → Has z ys → Between z
    ⊎ ((w : ℕ) × (z ≡ suc w) × Between w)
in-pairs [] b d e z m = absurd m
in-pairs (x ∷ []) b d e z m = let r : [] ≡ d ∷ [] = e in cc
in-pairs (x ∷ y ∷ ys) b d e z m =
    go (cases_Bool (y == suc x && between_slots x)) m (λ q k. in-pairs ys (exchanged x b) d q z k)
  where
    go : ((y == suc x && between_slots x) ≡ true) ⊎ ((y == suc x && between_slots x) ≡ false) → (z ≡ x)
        ⊎ ((z ≡ y) ⊎ Has z ys)
        → (left_of ys (exchanged x b) ≡ d ∷ [] → Has z ys → Between z ⊎ ((w : ℕ) × (z ≡ suc w) × Between w))
        → Between z ⊎ ((w : ℕ) × (z ≡ suc w) × Between w)
    go (inr t) k next = let r : [] ≡ d ∷ [] = sym (ap (λ u. cond u (left_of ys (exchanged x b)) []) t) ∙ e in cc
    go (inl t) k next = by k
      where
        a : ((y == suc x) ≡ true) × (between_slots x ≡ true)
        a = and_parts (y == suc x) (between_slots x) t

        by : (z ≡ x) ⊎ ((z ≡ y) ⊎ Has z ys) → Between z ⊎ ((w : ℕ) × (z ≡ suc w) × Between w)
        by (inl q) = inl (rw q (true-between x a.1))
        by (inr (inl q)) = inr (x, q ∙ eqb-true y (suc x) a.0, true-between x a.1)
        by (inr (inr k)) = next (sym (ap (λ u. cond u (left_of ys (exchanged x b)) []) t) ∙ e) k
