-- The runs of one subframe by their numbers: their cells, and the places at which they begin.
use Rattle.std.proofs.Common.{◌≡◌, ℕ, zero, suc, ◌+◌, ◌*◌, ◌%◌, ◌<◌, ◌≤◌, List, [], ◌∷◌, ◌++◌, Bool, true, false}
use Rattle.std.proofs.Common.{not, refl, length, get_or, ap, ◌∙◌, arith}
use Rattle.aes3_capture.specs.Captures.{sum_to}
use Rattle.aes3_slot.specs.declared.mark.Mark.{Mark}
use Rattle.aes3_slot.specs.declared.mark.Mark.TheVariants.{X, Y, Z}
use Rattle.aes3_bits.specs.Bits.{odd_ones}
use Rattle.aes3_slot.specs.Slots.{bits_runs, slot_runs}

-- the bits of a subframe: 28, with an even number of ones
pub record IsSubframe (bits : List Bool) : Type 0 where
  pub count : length bits ≡ 28
  pub even : odd_ones bits ≡ false

-- how many bits are 1
abbrev pub ones_of : List Bool → ℕ
ones_of [] = 0
ones_of (false ∷ bits) = ones_of bits
ones_of (true ∷ bits) = 1 + ones_of bits

pub ones-few : (bits : List Bool) → ones_of bits ≤ length bits
ones-few [] = omega arith
ones-few (false ∷ bits) = let h = ones-few bits in omega arith
ones-few (true ∷ bits) = let h = ones-few bits in omega arith

-- what the parity says
abbrev one_if : Bool → ℕ
one_if true = 1
one_if false = 0

ones-parity : (bits : List Bool) → ones_of bits % 2 ≡ one_if (odd_ones bits)
ones-parity [] = refl
ones-parity (false ∷ bits) = ones-parity bits
ones-parity (true ∷ bits) = go (odd_ones bits) (ones-parity bits)
  where
    go : (b : Bool) → ones_of bits % 2 ≡ one_if b → (1 + ones_of bits) % 2 ≡ one_if (not b)
    go true h = omega (arith, h)
    go false h = omega (arith, h)

-- a bit 1 is one run more
pub length-bits : (bits : List Bool) → length (bits_runs bits) ≡ length bits + ones_of bits
length-bits [] = refl
length-bits (false ∷ bits) = let h = length-bits bits in omega (arith, h)
length-bits (true ∷ bits) = let h = length-bits bits in omega (arith, h)

pub length-marks : (m : Mark) (bits : List Bool) → length (slot_runs m bits) ≡ 4 + length (bits_runs bits)
length-marks X bits = omega arith
length-marks Y bits = omega arith
length-marks Z bits = omega arith

-- a subframe has 32 to 60 runs, an even number
pub record IsLong (n : ℕ) : Type 0 where
  pub least : 32 ≤ n
  pub most : n ≤ 60
  pub even : n % 2 ≡ 0

pub long-subframe : (m : Mark) (bits : List Bool) → IsSubframe bits → IsLong (length (slot_runs m bits))
long-subframe m bits is =
    let a = length-marks m bits in
    let b = length-bits bits in
    let c = ones-few bits in
    let n = is.count in
    let p : ones_of bits % 2 ≡ 0 = ones-parity bits ∙ ap one_if is.even in
    record { least = omega (arith, a, b, c, n); most = omega (arith, a, b, c, n); even = omega (arith, a, b, c, n, p) }

-- a bit's run has one or two cells, and ends within the cells of the bits
record IsBitRun (all place cells : ℕ) : Type 0 where
  some : 1 ≤ cells
  few : cells ≤ 2
  within : place + cells ≤ all

bit-run : (bits : List Bool) (i : ℕ) → i < length (bits_runs bits)
    → IsBitRun (2 * length bits) (sum_to (bits_runs bits) i) (get_or (bits_runs bits) i 0)
bit-run [] i h = absurd (omega (arith, h))
bit-run (false ∷ bits) zero h = record { some = omega arith; few = omega arith; within = omega arith }
bit-run (true ∷ bits) zero h = record { some = omega arith; few = omega arith; within = omega arith }
bit-run (true ∷ bits) (suc zero) h = record { some = omega arith; few = omega arith; within = omega arith }
bit-run (false ∷ bits) (suc i) h =
    let r = bit-run bits i (omega (arith, h)) in
    let w = r.within in
    record { some = r.some; few = r.few; within = omega (arith, w) }
bit-run (true ∷ bits) (suc (suc i)) h =
    let r = bit-run bits i (omega (arith, h)) in
    let w = r.within in
    record { some = r.some; few = r.few; within = omega (arith, w) }

-- Run `i` of a subframe has so many cells, and begins `place` cells after the subframe.
pub record IsRunOf (i place cells : ℕ) : Type 0 where
  pub some : 1 ≤ cells
  pub few : cells ≤ 3
  pub within : place + cells ≤ 64
  pub first : i ≡ 0 → (cells ≡ 3) × (place ≡ 0)
  pub begins : place ≡ 0 → i ≡ 0
  pub third : i ≡ 2 → cells ≡ 1
  pub three : cells ≡ 3 → i % 2 ≡ 0 → i ≡ 0
  pub last : place + cells ≡ 64 → cells ≤ 2
  pub preamble : 4 ≤ i → (cells ≤ 2) × (8 ≤ place)

slot-run : (bits : List Bool) → IsSubframe bits → (i j place : ℕ) → i < length (bits_runs bits) → j ≡ 4 + i
    → place ≡ 8 + sum_to (bits_runs bits) i → IsRunOf j place (get_or (bits_runs bits) i 0)
slot-run bits is i j place h e p =
    let r = bit-run bits i h in
    let s = r.some in
    let f = r.few in
    let w = r.within in
    let n = is.count in
    record {
      some = s;
      few = omega (arith, f);
      within = omega (arith, w, n, p);
      first = λ x. absurd (omega (arith, e, x));
      begins = λ x. absurd (omega (arith, p, x));
      third = λ x. absurd (omega (arith, e, x));
      three = λ x o. absurd (omega (arith, x, f));
      last = λ x. f;
      preamble = λ x. (f, omega (arith, p));
    }

eight : (a b c d n : ℕ) → a + b + c + d ≡ 8 → a + (b + (c + (d + n))) ≡ 8 + n
eight a b c d n e = omega (arith, e)

four : (i : ℕ) → suc (suc (suc (suc i))) ≡ 4 + i
four i = omega arith

in-preamble : (i place cells : ℕ) → 1 ≤ cells → cells ≤ 3 → place + cells ≤ 8 → (i ≡ 0 → (cells ≡ 3) × (place ≡ 0)) → (place ≡ 0 → i ≡ 0)
    → (cells ≡ 3 → i % 2 ≡ 0 → i ≡ 0) → i < 4 → (i ≡ 2 → cells ≡ 1) → IsRunOf i place cells
in-preamble i place cells a b c d e f g third = record {
  third = third;
  some = a;
  few = b;
  within = omega (arith, c);
  first = d;
  begins = e;
  three = f;
  last = λ h. absurd (omega (arith, c, h));
  preamble = λ h. absurd (omega (arith, g, h));
}

pub run-of : (m : Mark) (bits : List Bool) → IsSubframe bits → (i : ℕ) → i < length (slot_runs m bits)
    → IsRunOf i (sum_to (slot_runs m bits) i) (get_or (slot_runs m bits) i 0)
run-of m bits is (suc (suc (suc (suc i)))) h = go m h
  where
    go : (m : Mark) → suc (suc (suc (suc i))) < length (slot_runs m bits)
        → IsRunOf (suc (suc (suc (suc i)))) (sum_to (slot_runs m bits) (suc (suc (suc (suc i)))))
        (get_or (slot_runs m bits) (suc (suc (suc (suc i)))) 0)
    go X h = slot-run bits is i (suc (suc (suc (suc i)))) _ (omega (arith, h)) (four i) (eight 3 3 1 1 (sum_to (bits_runs bits) i) refl)
    go Y h = slot-run bits is i (suc (suc (suc (suc i)))) _ (omega (arith, h)) (four i) (eight 3 2 1 2 (sum_to (bits_runs bits) i) refl)
    go Z h = slot-run bits is i (suc (suc (suc (suc i)))) _ (omega (arith, h)) (four i) (eight 3 1 1 3 (sum_to (bits_runs bits) i) refl)
run-of X bits is zero h = in-preamble 0 0 3 (omega arith) (omega arith) (omega arith) (λ e. (refl, refl)) (λ e. refl) (λ e o. refl) (omega arith) (λ e. absurd (omega (arith, e)))
run-of Y bits is zero h = in-preamble 0 0 3 (omega arith) (omega arith) (omega arith) (λ e. (refl, refl)) (λ e. refl) (λ e o. refl) (omega arith) (λ e. absurd (omega (arith, e)))
run-of Z bits is zero h = in-preamble 0 0 3 (omega arith) (omega arith) (omega arith) (λ e. (refl, refl)) (λ e. refl) (λ e o. refl) (omega arith) (λ e. absurd (omega (arith, e)))
run-of X bits is (suc zero) h = in-preamble 1 3 3 (omega arith) (omega arith) (omega arith) (λ e. absurd (omega (arith, e))) (λ e. absurd (omega (arith, e))) (λ e o. absurd (omega (arith, o))) (omega arith) (λ e. absurd (omega (arith, e)))
run-of Y bits is (suc zero) h = in-preamble 1 3 2 (omega arith) (omega arith) (omega arith) (λ e. absurd (omega (arith, e))) (λ e. absurd (omega (arith, e))) (λ e o. absurd (omega (arith, o))) (omega arith) (λ e. absurd (omega (arith, e)))
run-of Z bits is (suc zero) h = in-preamble 1 3 1 (omega arith) (omega arith) (omega arith) (λ e. absurd (omega (arith, e))) (λ e. absurd (omega (arith, e))) (λ e o. absurd (omega (arith, o))) (omega arith) (λ e. absurd (omega (arith, e)))
run-of X bits is (suc (suc zero)) h = in-preamble 2 6 1 (omega arith) (omega arith) (omega arith) (λ e. absurd (omega (arith, e))) (λ e. absurd (omega (arith, e))) (λ e o. absurd (omega (arith, e))) (omega arith) (λ e. refl)
run-of Y bits is (suc (suc zero)) h = in-preamble 2 5 1 (omega arith) (omega arith) (omega arith) (λ e. absurd (omega (arith, e))) (λ e. absurd (omega (arith, e))) (λ e o. absurd (omega (arith, e))) (omega arith) (λ e. refl)
run-of Z bits is (suc (suc zero)) h = in-preamble 2 4 1 (omega arith) (omega arith) (omega arith) (λ e. absurd (omega (arith, e))) (λ e. absurd (omega (arith, e))) (λ e o. absurd (omega (arith, e))) (omega arith) (λ e. refl)
run-of X bits is (suc (suc (suc zero))) h = in-preamble 3 7 1 (omega arith) (omega arith) (omega arith) (λ e. absurd (omega (arith, e))) (λ e. absurd (omega (arith, e))) (λ e o. absurd (omega (arith, e))) (omega arith) (λ e. absurd (omega (arith, e)))
run-of Y bits is (suc (suc (suc zero))) h = in-preamble 3 6 2 (omega arith) (omega arith) (omega arith) (λ e. absurd (omega (arith, e))) (λ e. absurd (omega (arith, e))) (λ e o. absurd (omega (arith, e))) (omega arith) (λ e. absurd (omega (arith, e)))
run-of Z bits is (suc (suc (suc zero))) h = in-preamble 3 5 3 (omega arith) (omega arith) (omega arith) (λ e. absurd (omega (arith, e))) (λ e. absurd (omega (arith, e))) (λ e o. absurd (omega (arith, o))) (omega arith) (λ e. absurd (omega (arith, e)))

-- the sums of joined lists
pub sum-append_left : (a b : List ℕ) (i : ℕ) → i ≤ length a → sum_to (a ++ b) i ≡ sum_to a i
sum-append_left a b zero h = refl
sum-append_left [] b (suc i) h = absurd (omega (arith, h))
sum-append_left (x ∷ a) b (suc i) h = ap (λ s. x + s) (sum-append_left a b i (omega (arith, h)))

pub sum-append_right : (a b : List ℕ) (n i : ℕ) → n ≡ length a + i → sum_to (a ++ b) n ≡ sum_to a (length a) + sum_to b i
sum-append_right [] b n i e = let f : n ≡ i = omega (arith, e) in rw f (let g : sum_to b i ≡ 0 + sum_to b i = omega arith in g)
sum-append_right (x ∷ a) b zero i e = absurd (omega (arith, e))
sum-append_right (x ∷ a) b (suc n) i e = let h = sum-append_right a b n i (omega (arith, e)) in omega (arith, h)

sum-bits : (bits : List Bool) → sum_to (bits_runs bits) (length (bits_runs bits)) ≡ 2 * length bits
sum-bits [] = refl
sum-bits (false ∷ bits) = let h = sum-bits bits in omega (arith, h)
sum-bits (true ∷ bits) = let h = sum-bits bits in omega (arith, h)

-- a subframe has 64 cells
pub sum-subframe : (m : Mark) (bits : List Bool) → IsSubframe bits → sum_to (slot_runs m bits) (length (slot_runs m bits)) ≡ 64
sum-subframe X bits is = let h = sum-bits bits in let n = is.count in omega (arith, h, n)
sum-subframe Y bits is = let h = sum-bits bits in let n = is.count in omega (arith, h, n)
sum-subframe Z bits is = let h = sum-bits bits in let n = is.count in omega (arith, h, n)
