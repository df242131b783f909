-- The bits that the cells of a word carry.
use Rattle.std.proofs.Common.{◌≡◌, ℕ, zero, suc, ◌+◌, ◌*◌, ◌/◌, ◌%◌, ◌^◌, ◌<◌, ◌∷◌, eqb, drop, refl, ap, ap₂, ◌∙◌, sym}
use Rattle.std.proofs.Common.{arith}
use Rattle.std.specs.Prelude.{bit_xor}
use Rattle.std.specs.Int.{bit_at}
use Rattle.std.proofs.lemmas.Nat.{shr_le, xor_lt}
use Rattle.std.proofs.lemmas.Nat.Bits.{bit_at_xor, bit_at-suc, bit_at_lowest, bit_at_above}
use Rattle.aes3_level.specs.Words.{level_of, low_cells}
use Rattle.aes3_level.proofs.WordCells.{drop-low_cells}
use Rattle.aes3_bits.specs.Bits.{low_bits}
use Rattle.aes3_slot.specs.Reading.{differs, read_bits}
use Rattle.aes3_bits.proofs.Bits.{lt-from-bits}
use Rattle.aes3_level.proofs.Moves.{bit_at-shr}

-- a slot carries a one where its cells differ
pub read_bits-word : (k w v : ℕ) → ((i : ℕ) → i < k → bit_at v i ≡ (bit_at w (2 * i) + bit_at w (suc (2 * i))) % 2)
    → low_bits k v ≡ read_bits (low_cells (2 * k) w)
read_bits-word zero w v h = refl
read_bits-word (suc k) w v h =
    let n : 2 * suc k ≡ suc (suc (2 * k)) = omega arith in
    let x = bit_at_lowest w in
    let y = bit_at-suc w 0 ∙ bit_at_lowest (w / 2) in
    let z = bit_at_lowest v in
    let e = h 0 (omega arith) in
    ap₂ (λ b c. b ∷ c) (first (w % 2) (w / 2 % 2) (v % 2) (omega arith) (omega arith) (omega (arith, x, y, z, e)))
    (read_bits-word k (w / 2 / 2) (v / 2) (λ i g.
    let m : 2 * suc i ≡ suc (suc (2 * i)) = omega arith in
    sym (bit_at-suc v i) ∙ h (suc i) (omega arith)
    ∙ ap (λ j. (bit_at w j + bit_at w (suc j)) % 2) m
    ∙ ap₂ (λ a b. (a + b) % 2) (twice w (2 * i)) (twice w (suc (2 * i)))))
    ∙ ap (λ j. read_bits (low_cells j w)) (sym n)
  where
    twice : (w i : ℕ) → bit_at w (suc (suc i)) ≡ bit_at (w / 2 / 2) i
    twice w i = bit_at-suc w (suc i) ∙ bit_at-suc (w / 2) i

    first : (x y z : ℕ) → x < 2 → y < 2 → z ≡ (x + y) % 2 → eqb z 1 ≡ differs (level_of x) (level_of y)
    first zero zero z h g e = ap (λ b. eqb b 1) e
    first zero (suc zero) z h g e = ap (λ b. eqb b 1) e
    first (suc zero) zero z h g e = ap (λ b. eqb b 1) e
    first (suc zero) (suc zero) z h g e = ap (λ b. eqb b 1) e
    first x (suc (suc y)) z h g e = absurd (omega arith)
    first (suc (suc x)) y z h g e = absurd (omega arith)

-- each cell against the one behind it, from the first slot on
xor-next : (w i : ℕ)
    → bit_at (bit_xor w (w / 2 ^ 1) / 2 ^ 8) i ≡ (bit_at (w / 2 ^ 8) i + bit_at (w / 2 ^ 8) (suc i)) % 2
xor-next w i =
    let k : 1 + (8 + i) ≡ 8 + suc i = omega arith in
    bit_at-shr (bit_xor w (w / 2 ^ 1)) 8 i ∙ bit_at_xor w (w / 2 ^ 1) (8 + i)
    ∙ ap₂ (λ a b. (a + b) % 2) (sym (bit_at-shr w 8 i)) (bit_at-shr w 1 (8 + i) ∙ ap (bit_at w) k
    ∙ sym (bit_at-shr w 8 (suc i)))

pub slots-read : (w v : ℕ) → ((i : ℕ) → i < 32 → bit_at v i ≡ bit_at (bit_xor w (w / 2 ^ 1) / 2 ^ 8) (2 * i))
    → low_bits 28 v ≡ read_bits (drop 8 (low_cells 64 w))
slots-read w v h =
    read_bits-word 28 (w / 2 ^ 8) v (λ i g. h i (omega arith) ∙ xor-next w (2 * i))
    ∙ ap read_bits (sym (drop-low_cells 8 56 w))

pub slots-lt : (w v : ℕ) → w < 2 ^ 64 → v < 2 ^ 32
    → ((i : ℕ) → i < 32 → bit_at v i ≡ bit_at (bit_xor w (w / 2 ^ 1) / 2 ^ 8) (2 * i)) → v < 2 ^ 28
slots-lt w v l b h = lt-from-bits 28 32 v b (λ i g k.
    h i k ∙ bit_at-shr (bit_xor w (w / 2 ^ 1)) 8 (2 * i)
    ∙ bit_at_above (bit_xor w (w / 2 ^ 1)) 64 (8 + 2 * i)
    (xor_lt 64 w (w / 2 ^ 1) l (let s = shr_le w 1 in omega arith)) (omega arith))
