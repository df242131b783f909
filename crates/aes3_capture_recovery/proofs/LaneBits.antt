-- One bit of each of 64 octets, and of samples of two.
use Rattle.std.proofs.Common.{◌≡◌, ℕ, zero, suc, ◌+◌, ◌-◌, ◌*◌, ◌%◌, ◌^◌, ◌<◌, ◌≤◌, cond, eqb, false, List, map}
use Rattle.std.proofs.Common.{length, get_or, replicate, sym, ap, ap₂, w8, ◌∙◌, arith, eq-eqb, ne_eqb}
use Rattle.std.specs.Prelude.{bit_and}
use Rattle.std.specs.Int.{bit_at}
use Rattle.std.specs.Simd.Lanes.{mask_l, zip2, top}
use Rattle.std.proofs.lemmas.List.{get_or-map, length-map}
use Rattle.std.proofs.lemmas.Nat.{pow_pos}
use Rattle.std.proofs.lemmas.Nat.Bits.{and_pow, bit_at-lt, bit_at_cat_low, bit_at_cat_high}
use Rattle.std.proofs.lemmas.Simd.{bitmask_splat, bit_mask_l, zip2_splat}

small : (t p : ℕ) → t < 2 → 0 < p → cond (eqb (t * p) p) 1 0 ≡ t
small zero p h some = ap (λ t. cond t 1 0) (ne_eqb (0 * p) p (λ e. absurd (omega (arith, e, some))))
small (suc zero) p h some = ap (λ t. cond t 1 0) (eq-eqb (1 * p) p (omega arith))
small (suc (suc t)) p h some = absurd (omega arith)

one-bit : (x b y : ℕ) → y ≡ 2 ^ b → cond (eqb (bit_and x y) y) 1 0 ≡ bit_at x b
one-bit x b y is =
    ap₂ (λ u v. cond (eqb u v) 1 0) (ap (bit_and x) is ∙ and_pow x b) is
    ∙ small (bit_at x b) (2 ^ b) (bit_at-lt x b) (pow_pos b)

pub lane-bits : (xs : List ℕ) (b y i : ℕ) → length xs ≡ 64 → y ≡ 2 ^ b → i < 64
    → bit_at (mask_l (map (top 7)
    (zip2 (λ a b. cond (eqb a b) 255 0) (zip2 bit_and xs (replicate 64 y)) (replicate 64 y))) % 2 ^ 64) i
    ≡ bit_at (get_or xs i 0) b
lane-bits xs b y i long is h =
    let zs = map (λ x. bit_and x y) xs in
    let many : length zs ≡ 64 = length-map xs (λ x. bit_and x y) ∙ long in
    ap (λ v. bit_at (mask_l (map (top 7) (zip2 (λ a b. cond (eqb a b) 255 0) v (replicate 64 y))) % 2 ^ 64) i)
    (zip2_splat bit_and xs 64 y long)
    ∙ ap (λ m. bit_at m i) (bitmask_splat w8 eqb zs 64 y many (omega arith))
    ∙ bit_mask_l (map (λ x. eqb x y) zs) i
    ∙ ap (λ t. cond t 1 0) (get_or-map (λ x. eqb x y) zs i 0 false (omega (arith, many, h))
    ∙ ap (λ x. eqb x y) (get_or-map (λ x. bit_and x y) xs i 0 0 (omega (arith, long, h))))
    ∙ one-bit (get_or xs i 0) b y is

pub low-bit : (a b k : ℕ) → k < 8 → bit_at a (k % 8) ≡ bit_at (a + 256 * b) k
low-bit a b k h =
    let e : a + 256 * b ≡ b * 2 ^ 8 + a = omega arith in
    let same : k % 8 ≡ k = omega (arith, h) in
    ap (bit_at a) same ∙ sym (ap (λ v. bit_at v k) e ∙ bit_at_cat_low b 8 a k h)

pub high-bit : (a b k : ℕ) → a < 256 → 8 ≤ k → k < 16 → bit_at b (k % 8) ≡ bit_at (a + 256 * b) k
high-bit a b k few from to =
    let e : a + 256 * b ≡ b * 2 ^ 8 + a = omega arith in
    let same : k % 8 ≡ k - 8 = omega (arith, from, to) in
    ap (bit_at b) same ∙ sym (ap (λ v. bit_at v k) e ∙ bit_at_cat_high b 8 a k few from)
