-- Four equal bits in a row, in the bits of a number.
use Rattle.std.proofs.Common.{◌≡◌, ◌∙◌, ◌<◌, ◌≤◌, ◌+◌, ◌-◌, ◌*◌, ◌/◌, ◌%◌, ◌^◌, ◌||◌, ℕ, zero, suc, Bool, true, false}
use Rattle.std.proofs.Common.{List, [], ◌∷◌, ◌++◌, refl, sym, ap, ap₂, arith, bit_or}
use Rattle.std.specs.Int.{bit_at}
use Rattle.std.proofs.lemmas.Nat.{or_shifted, shr-shr}
use Rattle.std.proofs.lemmas.Nat.Bits.{bit_at_cat_high, bit_at_cat_low}
use Rattle.aes3_files.specs.Packed.{are_equal, has_long_run, highest_first}

-- whether the four lowest bits of a number are equal
abbrev pub has_equal : ℕ → Bool
has_equal n = are_equal (bit_at n 3) (bit_at n 2) (bit_at n 1) (bit_at n 0)

-- the lowest k bits of a number, the highest first
abbrev pub low : ℕ → ℕ → List ℕ
low zero n = []
low (suc k) n = bit_at n k ∷ low k n

-- of two octets
low-low : (k a b : ℕ) → k ≤ 8 → low k (a * 2 ^ 8 + b) ≡ low k b
low-low zero a b h = refl
low-low (suc k) a b h = ap₂ ◌∷◌ (bit_at_cat_low a 8 b k (omega arith)) (low-low k a b (omega arith))

low-high : (k a b : ℕ) → b < 2 ^ 8 → low (k + 8) (a * 2 ^ 8 + b) ≡ low k a ++ low 8 b
low-high zero a b h = low-low 8 a b (omega arith)
low-high (suc k) a b h =
    let e : k + 8 - 8 ≡ k = omega arith in
    let s : suc k + 8 ≡ suc (k + 8) = omega arith in
    ap (λ j. low j (a * 2 ^ 8 + b)) s
    ∙ ap₂ ◌∷◌ (bit_at_cat_high a 8 b (k + 8) h (omega arith) ∙ ap (bit_at a) e) (low-high k a b h)

pub octets-low : (a b x y : ℕ) → a < 256 → b < 256 → x ≡ a → y ≡ b
    → low 16 (bit_or (x * 2 ^ 8 % 2 ^ 16) y) ≡ highest_first (a ∷ b ∷ [])
octets-low a b x y g h d f =
    let e : x * 2 ^ 8 % 2 ^ 16 ≡ a * 2 ^ 8 = omega arith in
    ap₂ (λ z w. low 16 (bit_or z w)) e f ∙ ap (low 16) (or_shifted a 8 b h) ∙ low-high 8 a b h

-- four bits further up
bits-up : (n k : ℕ) → has_equal (n / 2 ^ k)
    ≡ are_equal (bit_at n (suc (suc (suc k)))) (bit_at n (suc (suc k))) (bit_at n (suc k)) (bit_at n k)
bits-up n k =
    let up : (j i : ℕ) → k + j ≡ i → bit_at (n / 2 ^ k) j ≡ bit_at n i =
    λ j i e. ap (λ x. x % 2) (shr-shr n k j) ∙ ap (bit_at n) e in
    ap₂ (λ x y. are_equal x y (bit_at (n / 2 ^ k) 1) (bit_at (n / 2 ^ k) 0))
    (up 3 (suc (suc (suc k))) (omega arith)) (up 2 (suc (suc k)) (omega arith))
    ∙ ap₂ (are_equal (bit_at n (suc (suc (suc k)))) (bit_at n (suc (suc k))))
    (up 1 (suc k) (omega arith)) (up 0 k (omega arith))

one-more : (n k : ℕ) → has_long_run (low (suc (suc (suc (suc k)))) n)
    ≡ (has_equal (n / 2 ^ k) || has_long_run (low (suc (suc (suc k))) n))
one-more n k = ap (λ b. b || has_long_run (low (suc (suc (suc k))) n)) (sym (bits-up n k))

pub run-next : (n k : ℕ) → has_long_run (low (k + 3) n) ≡ false → has_equal (n / 2 ^ k) ≡ false
    → has_long_run (low (k + 1 + 3) n) ≡ false
run-next n k none here =
    let e : k + 1 + 3 ≡ suc (suc (suc (suc k))) = omega arith in
    let f : suc (suc (suc k)) ≡ k + 3 = omega arith in
    ap (λ j. has_long_run (low j n)) e ∙ one-more n k
    ∙ ap₂ ◌||◌ here (ap (λ j. has_long_run (low j n)) f ∙ none)

-- a run in the rest is one
pub run-cons : (x : ℕ) (l : List ℕ) → has_long_run l ≡ true → has_long_run (x ∷ l) ≡ true
run-cons x [] h = absurd cc
run-cons x (a ∷ []) h = absurd cc
run-cons x (a ∷ b ∷ []) h = absurd cc
run-cons x (a ∷ b ∷ c ∷ l) h = ap (λ p. are_equal x a b c || p) h ∙ or-true (are_equal x a b c)
  where
    or-true : (p : Bool) → (p || true) ≡ true
    or-true true = refl
    or-true false = refl

run-among : (j k n : ℕ) → has_long_run (low k n) ≡ true → has_long_run (low (j + k) n) ≡ true
run-among zero k n h =
    let e : 0 + k ≡ k = omega arith in
    ap (λ i. has_long_run (low i n)) e ∙ h
run-among (suc j) k n h =
    let e : suc j + k ≡ suc (j + k) = omega arith in
    ap (λ i. has_long_run (low i n)) e ∙ run-cons (bit_at n (j + k)) (low (j + k) n) (run-among j k n h)

pub run-found : (n k : ℕ) → k < 13 → has_equal (n / 2 ^ k) ≡ true → has_long_run (low 16 n) ≡ true
run-found n k h here =
    let e : 12 - k + suc (suc (suc (suc k))) ≡ 16 = omega arith in
    sym (ap (λ j. has_long_run (low j n)) e)
    ∙ run-among (12 - k) (suc (suc (suc (suc k)))) n
    (one-more n k ∙ ap (λ b. b || has_long_run (low (suc (suc (suc k))) n)) here)
