-- The bytes of numbers, lowest first.
use Rattle.std.proofs.Common.{◌≡◌, ℕ, zero, suc, ◌+◌, ◌*◌, ◌/◌, ◌%◌, ◌^◌, ◌<◌, ◌≤◌, [], ◌∷◌, ◌++◌, length, refl, ap}
use Rattle.std.proofs.Common.{ap₂, ◌∙◌, arith, add-one, pow-add}
use Rattle.std.specs.Prelude.{bit_or}
use Rattle.std.specs.Int.Bits.{or_shifted_r}
use Rattle.std.proofs.lemmas.Nat.{shl_whole}
use Rattle.std.proofs.Math.Nat.{mul-le-mul_left, mul_comm}
use Rattle.aes3_frame.specs.Files.{bytes_number, low_bytes}

pub length-low_bytes : (n w : ℕ) → length (low_bytes n w) ≡ n
length-low_bytes zero w = refl
length-low_bytes (suc n) w = ap suc (length-low_bytes n (w / 256))

byte-up : (n : ℕ) → 2 ^ (8 * suc n) ≡ 256 * 2 ^ (8 * n)
byte-up n = ap (λ k. 2 ^ k) (let e : 8 * suc n ≡ 8 + 8 * n = omega arith in e) ∙ pow-add 2 8 (8 * n)

-- a byte put above n bytes
pub low_bytes-above : (n w x : ℕ) → w < 2 ^ (8 * n) → x < 256
    → low_bytes (suc n) (w + x * 2 ^ (8 * n)) ≡ low_bytes n w ++ x ∷ []
low_bytes-above zero w x h g =
    ap (λ b. b ∷ []) (let e : w < 1 = h in let f : (w + x * 1) % 256 ≡ x = omega arith in f)
low_bytes-above (suc n) w x h g =
    let p = byte-up n in
    let y = x * 2 ^ (8 * n) in
    let q : x * 2 ^ (8 * suc n) ≡ 256 * y = ap (λ k. x * k) p ∙ omega arith in
    let a : (w + x * 2 ^ (8 * suc n)) % 256 ≡ w % 256 = omega arith in
    let b : (w + x * 2 ^ (8 * suc n)) / 256 ≡ w / 256 + x * 2 ^ (8 * n) = omega arith in
    ap₂ (λ u v. u ∷ v) a (ap (low_bytes (suc n)) b ∙ low_bytes-above n (w / 256) x (omega arith) g)

pub bytes-with_byte : (n w x : ℕ) → n < 4 → w < 2 ^ (8 * n) → x < 256
    → low_bytes (n + 1) (bit_or w (x * 2 ^ (8 * n) % 2 ^ 32)) ≡ low_bytes n w ++ x ∷ []
bytes-with_byte n w x l h g =
    let e : bit_or w (x * 2 ^ (8 * n) % 2 ^ 32) ≡ w + x * 2 ^ (8 * n) =
    ap (bit_or w) (shl_whole x 8 (8 * n) 32 g (omega arith)) ∙ or_shifted_r x (8 * n) w h ∙ omega arith in
    ap₂ low_bytes (add-one n) e ∙ low_bytes-above n w x h g

pub with_byte-lt : (n w x : ℕ) → n < 4 → w < 2 ^ (8 * n) → x < 256
    → bit_or w (x * 2 ^ (8 * n) % 2 ^ 32) < 2 ^ (8 * (n + 1))
with_byte-lt n w x l h g =
    let e : bit_or w (x * 2 ^ (8 * n) % 2 ^ 32) ≡ x * 2 ^ (8 * n) + w =
    ap (bit_or w) (shl_whole x 8 (8 * n) 32 g (omega arith)) ∙ or_shifted_r x (8 * n) w h in
    let p : 2 ^ (8 * (n + 1)) ≡ 256 * 2 ^ (8 * n) = ap (λ k. 2 ^ (8 * k)) (add-one n) ∙ byte-up n in
    below (2 ^ (8 * n)) e p h
  where
    below : (k : ℕ) → bit_or w (x * k % 2 ^ 32) ≡ x * k + w → 2 ^ (8 * (n + 1)) ≡ 256 * k → w < k
        → bit_or w (x * k % 2 ^ 32) < 2 ^ (8 * (n + 1))
    below k e p h =
        let m = mul-le-mul_left k (let y : x ≤ 255 = omega arith in y) in
        let c = mul_comm k x in
        omega arith

-- a number of four bytes
pub bytes_number-low_bytes : (w : ℕ) → w < 2 ^ 32 → bytes_number (low_bytes 4 w) ≡ w
bytes_number-low_bytes w h = omega arith
