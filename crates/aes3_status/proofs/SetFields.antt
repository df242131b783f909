-- Bits of a byte, and with it of a status, replaced.
use Rattle.std.proofs.Common.{◌≡◌, ℕ, zero, suc, ◌+◌, ◌-◌, ◌*◌, ◌/◌, ◌%◌, ◌^◌, ◌<◌, ◌≤◌, Bool, List, []}
use Rattle.std.proofs.Common.{◌∷◌, ◌++◌, length, take, drop, get_or, set, refl, ap, ap₂, ◌∙◌, sym, arith, append_assoc}
use Rattle.std.proofs.Common.{length-append, length-drop}
use Rattle.std.proofs.Math.Nat.{mod-eq_of_lt, mul_assoc, mul_comm, mul-add, pow-le-pow_right}
use Rattle.std.proofs.Math.Seq.{take-append-add, drop-append-add}
use Rattle.std.proofs.lemmas.List.{take-append-le, drop-append-le, drop-drop, drop-take, length-take-le}
use Rattle.std.proofs.lemmas.List.{take-append-drop}
use Rattle.std.proofs.lemmas.Nat.{pow-add}
use Rattle.aes3_bits.specs.Bits.{low_bits, number}
use Rattle.aes3_status.specs.Bits.{byte_bits, status_bits, with_part}
use Rattle.aes3_status.specs.Settings.{with_bits}
use Rattle.aes3_bits.proofs.Bits.{length-low_bits, low_bits-number, number-append, number-drop, number-low, number-lt}
use Rattle.aes3_bits.proofs.Bits.{number-take}
use Rattle.aes3_status.proofs.BitFields.{length-byte_bits}

-- ---- a byte
pub length-with_part : {T : Type 0} (at : ℕ) (new items : List T) → at + length new ≤ length items
    → length (with_part at new items) ≡ length items
length-with_part at new items h =
    length-append (take at items) (new ++ drop (at + length new) items)
    ∙ omega (
      arith,
      length-take-le at items (omega arith),
      length-append new (drop (at + length new) items),
      length-drop
          (at + length new) items,
    )

regrouped : (p q a d : ℕ) → p * (a + q * d) ≡ a * p + d * (p * q)
regrouped p q a d = mul-add p a (q * d) ∙ ap₂ ◌+◌ (mul_comm p a) (sym (mul_assoc p q d) ∙ mul_comm (p * q) d)

-- a byte with bits replaced, as a number
replaced-number : (n first count code : ℕ) → n < 256 → first + count ≤ 8
    → number (with_bits first (low_bits count code) (byte_bits n))
    ≡ n % 2 ^ first + (code % 2 ^ count * 2 ^ first + n / 2 ^ (first + count) * 2 ^ (first + count))
unfolding byte_bits
replaced-number n first count code h g =
    let l = length-low_bits count code in
    let low = length-take-le first (low_bits 8 n) (omega (arith, length-low_bits 8 n)) in
    number-append (take first (low_bits 8 n))
    (low_bits count code ++ drop (first + length (low_bits count code)) (low_bits 8 n))
    ∙ ap₂ (λ a b. a + b) (number-take first 8 n (omega arith))
    (ap₂ (λ k m. 2 ^ k * m) low
    (number-append (low_bits count code) (drop (first + length (low_bits count code)) (low_bits 8 n))
    ∙ ap₂ (λ a b. a + b) (number-low count code)
    (ap (λ k. 2 ^ k * number (drop (first + k) (low_bits 8 n))) l
    ∙ ap (λ m. 2 ^ count * m) (number-drop (first + count) 8 n h g)))
    ∙ regrouped (2 ^ first) (2 ^ count) (code % 2 ^ count) (n / 2 ^ (first + count))
    ∙ ap (λ r. code % 2 ^ count * 2 ^ first + n / 2 ^ (first + count) * r) (sym (pow-add 2 first count)))

length-replaced : (n first count code : ℕ) → first + count ≤ 8
    → length (with_bits first (low_bits count code) (byte_bits n)) ≡ 8
length-replaced n first count code g =
    length-with_part first (low_bits count code) (byte_bits n)
    (omega (arith, length-low_bits count code, length-byte_bits n)) ∙ length-byte_bits n

replaced-fits : (n first count code : ℕ) → first + count ≤ 8
    → number (with_bits first (low_bits count code) (byte_bits n)) < 256
replaced-fits n first count code g =
    let w = with_bits first (low_bits count code) (byte_bits n) in
    let e : 2 ^ length w ≡ 256 = ap (λ k. 2 ^ k) (length-replaced n first count code g) in
    omega (arith, number-lt w)

pub few-codes : (k : ℕ) → k ≤ 8 → 2 ^ k ≤ 256
few-codes k h = pow-le-pow_right {n = 2} (omega arith) {i = k} {j = 8} h

pub small : (k : ℕ) → k ≤ 8 → 1 * 2 ^ k % 4294967296 ≡ 2 ^ k
small k h =
    let e : 1 * 2 ^ k ≡ 2 ^ k = omega arith in
    let b = few-codes k h in
    ap (λ x. x % 4294967296) e ∙ mod-eq_of_lt (omega arith)

-- the same as the program adds it up
pub replaced-sum : (n first count code : ℕ) → n < 256 → first + count ≤ 8
    → n % (1 * 2 ^ first % 4294967296) + code % (1 * 2 ^ count % 4294967296) * 2 ^ first % 4294967296 + n / 2 ^
    (first + count) * 2 ^ (first + count) % 4294967296
    ≡ number (with_bits first (low_bits count code) (byte_bits n))
replaced-sum n first count code h g =
    let e = replaced-number n first count code h g in
    let f = replaced-fits n first count code g in
    let x : code % 2 ^ count * 2 ^ first % 4294967296 ≡ code % 2 ^ count * 2 ^ first = mod-eq_of_lt (omega arith) in
    let y : n / 2 ^ (first + count) * 2 ^ (first + count) % 4294967296 ≡ n / 2 ^ (first + count) * 2 ^ (first + count) =
    mod-eq_of_lt (omega arith) in
    rw (small first (omega arith), small count (omega arith), x, y) (omega arith)

pub replaced-byte : (n first count code : ℕ) → n < 256 → first + count ≤ 8
    → n % (1 * 2 ^ first % 4294967296) + code % (1 * 2 ^ count % 4294967296) * 2 ^ first % 4294967296 + n / 2 ^
    (first + count) * 2 ^ (first + count) % 4294967296 < 256
replaced-byte n first count code h g =
    omega (arith, replaced-sum n first count code h g, replaced-fits n first count code g)

-- ---- a status
byte-bits-of : (bits : List Bool) → length bits ≡ 8 → byte_bits (number bits) ≡ bits
unfolding byte_bits
byte-bits-of bits e = ap (λ k. low_bits k (number bits)) (sym e) ∙ low_bits-number bits

pub status-set : (bytes : List ℕ) (byte first : ℕ) (new : List Bool) → byte < length bytes → first + length new ≤ 8
    → status_bits (set bytes byte (number (with_bits first new (byte_bits (get_or bytes byte 0))))) ≡ with_bits
    (8 * byte + first) new (status_bits bytes)
status-set [] byte first new h g = absurd (omega arith)
status-set (x ∷ bytes) zero first new h g =
    let l = length-byte_bits x in
    let e : 8 * zero + first ≡ first = omega arith in
    ap (λ b. b ++ status_bits bytes)
    (byte-bits-of (with_bits first new (byte_bits x)) (length-with_part first new (byte_bits x) (omega arith) ∙ l))
    ∙ append_assoc (take first (byte_bits x)) (new ++ drop (first + length new) (byte_bits x)) (status_bits bytes)
    ∙ ap₂ (λ a b. a ++ b) (sym (take-append-le first (byte_bits x) (status_bits bytes) (omega arith)))
    (append_assoc new (drop (first + length new) (byte_bits x)) (status_bits bytes)
    ∙ ap (λ b. new ++ b) (sym (drop-append-le (first + length new) (byte_bits x) (status_bits bytes) (omega arith))))
    ∙ ap (λ k. with_bits k new (byte_bits x ++ status_bits bytes)) (sym e)
status-set (x ∷ bytes) (suc byte) first new h g =
    let l = length-byte_bits x in
    let at = 8 * byte + first in
    let e : 8 * suc byte + first ≡ length (byte_bits x) + at = omega arith in
    let d : length (byte_bits x) + at + length new ≡ length (byte_bits x) + (at + length new) = omega arith in
    ap (λ b. byte_bits x ++ b) (status-set bytes byte first new (omega arith) g)
    ∙ sym (append_assoc (byte_bits x) (take at (status_bits bytes)) (new ++ drop (at + length new) (status_bits bytes)))
    ∙ ap₂ (λ a b. a ++ (new ++ b)) (sym (take-append-add (byte_bits x) (status_bits bytes) at))
    (sym (drop-append-add (byte_bits x) (status_bits bytes) (at + length new))
    ∙ ap (λ k. drop k (byte_bits x ++ status_bits bytes)) (sym d))
    ∙ ap (λ k. with_bits k new (byte_bits x ++ status_bits bytes)) (sym e)

-- ---- what stands at another place
pub new-back : {T : Type 0} (at : ℕ) (new items : List T) → at + length new ≤ length items
    → take (length new) (drop at (with_part at new items)) ≡ new
new-back at new items h =
    let l = length-take-le at items (omega arith) in
    let e : at ≡ length (take at items) + 0 = omega arith in
    let k : length new ≡ length new + 0 = omega arith in
    ap (take (length new)) (ap (λ n. drop n (with_part at new items)) e
    ∙ drop-append-add (take at items) (new ++ drop (at + length new) items) 0)
    ∙ ap (λ n. take n (new ++ drop (at + length new) items)) k
    ∙ take-append-add new (drop (at + length new) items) 0
    ∙ simp append-nil-take
  where
    append-nil-take : {X : Type 0} (xs ys : List X) → xs ++ take 0 ys ≡ xs
    append-nil-take [] ys = refl
    append-nil-take (x ∷ xs) ys = ap (λ zs. x ∷ zs) (append-nil-take xs ys)

pub before-stays : {T : Type 0} (at from count : ℕ) (new items : List T) → at + length new ≤ length items
    → from + count ≤ at → take count (drop from (with_part at new items)) ≡ take count (drop from items)
before-stays at from count new items h g =
    sym (drop-take from count (with_part at new items))
    ∙ ap (drop from)
    (take-append-le (from + count) (take at items) (new ++ drop (at + length new) items)
    (omega (arith, length-take-le at items (omega arith)))
    ∙ sym (take-append-le (from + count) (take at items) (drop at items)
    (omega (arith, length-take-le at items (omega arith))))
    ∙ ap (take (from + count)) (take-append-drop at items))
    ∙ drop-take from count items

pub behind-stays : {T : Type 0} (at from : ℕ) (new items : List T) → at + length new ≤ length items
    → at + length new ≤ from → drop from (with_part at new items) ≡ drop from items
behind-stays at from new items h g =
    let l = length-take-le at items (omega arith) in
    let e : from ≡ length (take at items) + (length new + (from - (at + length new))) = omega arith in
    let d : at + length new + (from - (at + length new)) ≡ from = omega arith in
    ap (λ n. drop n (with_part at new items)) e
    ∙ drop-append-add (take at items) (new ++ drop (at + length new) items) (length new + (from - (at + length new)))
    ∙ drop-append-add new (drop (at + length new) items) (from - (at + length new))
    ∙ drop-drop (from - (at + length new)) (at + length new) items
    ∙ ap (λ n. drop n items) d
