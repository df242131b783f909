-- The number of a field's bits, from the bytes that hold them.
use Rattle.std.proofs.Common.{◌≡◌, ℕ, zero, suc, ◌+◌, ◌-◌, ◌*◌, ◌/◌, ◌%◌, ◌^◌, ◌<◌, ◌≤◌, Bool, false, List, [], ◌∷◌}
use Rattle.std.proofs.Common.{◌++◌}
use Rattle.std.proofs.Common.{length, take, drop, get_or, eqb, refl, ap, ap₂, ◌∙◌, sym, arith}
use Rattle.std.specs.Prelude.{bit_and}
use Rattle.std.proofs.Math.Pow.{pow_mono}
use Rattle.std.proofs.Math.Seq.{take-append-add}
use Rattle.std.proofs.lemmas.List.{drop-append-le, take-append-le, drop_at, drop-drop, length-drop}
use Rattle.std.proofs.lemmas.List.{length-take, take_more}
use Rattle.std.proofs.lemmas.Nat.{and_mask}
use Rattle.std.proofs.lemmas.Nat.Bits.{ones_shr}
use Rattle.aes3_bits.specs.Bits.{low_bits, number}
use Rattle.aes3_bits.proofs.Bits.{length-low_bits, low_bits-at, number-append, number-low_bits, number-lt}
use Rattle.aes3_bits.proofs.Bits.{number-middle}
use Rattle.aes3_status.specs.Bits.{byte_bits, status_bits, field, bytes_field}

pub length-byte_bits : (n : ℕ) → length (byte_bits n) ≡ 8
unfolding byte_bits
length-byte_bits n = length-low_bits 8 n

-- the bits behind the first byte
drop-first : (x : ℕ) (bytes : List ℕ) (byte bit : ℕ)
    → drop (8 * suc byte + bit) (status_bits (x ∷ bytes)) ≡ drop (8 * byte + bit) (status_bits bytes)
drop-first x bytes byte bit =
    ap (λ n. drop n (byte_bits x ++ status_bits bytes)) (let e : 8 * suc byte + bit ≡ 8 + (8 * byte + bit) =
    omega arith in e)
    ∙ sym (drop-drop (8 * byte + bit) 8 (byte_bits x ++ status_bits bytes))
    ∙ ap (drop (8 * byte + bit)) (drop_at (byte_bits x) (status_bits bytes) 8 (length-byte_bits x))

-- the bits of a status from within a byte on
pub drop-bytes : (bytes : List ℕ) (byte bit : ℕ) → byte < length bytes → bit ≤ 8
    → drop (8 * byte + bit) (status_bits bytes) ≡ drop bit (byte_bits (get_or bytes byte 0)) ++ status_bits
    (drop (suc byte) bytes)
drop-bytes [] byte bit h g = absurd (omega arith)
drop-bytes (x ∷ bytes) zero bit h g =
    ap (λ n. drop n (byte_bits x ++ status_bits bytes)) (omega arith)
    ∙ drop-append-le bit (byte_bits x) (status_bits bytes) (omega (arith, length-byte_bits x))
drop-bytes (x ∷ bytes) (suc byte) bit h g = drop-first x bytes byte bit ∙ drop-bytes bytes byte bit (omega arith) g

-- a field within one byte
pub field-in_byte : (bytes : List ℕ) (byte bit count : ℕ) → byte < length bytes → bit + count ≤ 8
    → field byte bit count bytes ≡ get_or bytes byte 0 / 2 ^ bit % 2 ^ count
unfolding field byte_bits
field-in_byte bytes byte bit count h g =
    ap (λ bits. number (take count bits)) (drop-bytes bytes byte bit h (omega arith))
    ∙ ap number (take-append-le count (drop bit (byte_bits (get_or bytes byte 0))) (status_bits (drop (suc byte) bytes))
    (omega (arith, length-drop bit (byte_bits (get_or bytes byte 0)), length-byte_bits (get_or bytes byte 0))))
    ∙ number-middle bit count 8 (get_or bytes byte 0) g

-- the lowest bits of a byte, by a mask
pub byte-mask : (n count : ℕ) → count ≤ 8 → bit_and n (255 / 2 ^ (8 - count)) ≡ n % 2 ^ count
byte-mask n count h =
    ap (bit_and n) (ones_shr 8 (8 - count) (omega arith)
    ∙ ap (λ k. 2 ^ k - 1) (let e : 8 - (8 - count) ≡ count = omega arith in e))
    ∙ and_mask n count

-- four bytes in a row
pub take-four : (bytes : List ℕ) (byte : ℕ) → byte + 4 ≤ length bytes
    → get_or bytes byte 0 ∷ get_or bytes (byte + 1) 0 ∷ get_or bytes (byte + 2) 0 ∷ get_or bytes
    (byte + 3) 0 ∷ [] ≡ bytes_field byte 4 bytes
unfolding bytes_field
take-four [] byte h = absurd (omega arith)
take-four (a ∷ []) zero h = absurd (omega arith)
take-four (a ∷ b ∷ []) zero h = absurd (omega arith)
take-four (a ∷ b ∷ c ∷ []) zero h = absurd (omega arith)
take-four (a ∷ b ∷ c ∷ d ∷ bytes) zero h = refl
take-four (x ∷ bytes) (suc byte) h =
    let second : suc byte + 1 ≡ suc (byte + 1) = omega arith in
    let third : suc byte + 2 ≡ suc (byte + 2) = omega arith in
    let fourth : suc byte + 3 ≡ suc (byte + 3) = omega arith in
    rw (second, third, fourth) (take-four bytes byte (omega arith))

-- one more of a byte's bits, by a shift and a mask
pub take-bits : (byte k : ℕ) → k < 8
    → take (k + 1) (byte_bits byte) ≡ take k (byte_bits byte) ++ eqb (bit_and (byte / 2 ^ k) 1) 1 ∷ []
unfolding byte_bits
take-bits byte k h =
    take_more (low_bits 8 byte) k false (omega (arith, length-low_bits 8 byte))
    ∙ ap (λ bit. take k (low_bits 8 byte) ++ bit ∷ []) (low_bits-at 8 byte k h
    ∙ ap (λ n. eqb n 1) (sym (and_mask (byte / 2 ^ k) 1)))

number-byte : (x : ℕ) → x < 256 → number (byte_bits x) ≡ x
unfolding byte_bits
number-byte x h = number-low_bits 8 x h

-- a byte is the lowest eight bits of a number that begins with it
number-first : (x n : ℕ) (bits : List Bool) → x < 256
    → number (take (8 + n) (byte_bits x ++ bits)) ≡ x + 256 * number (take n bits)
number-first x n bits h =
    ap (λ k. number (take (k + n) (byte_bits x ++ bits))) (sym (length-byte_bits x))
    ∙ ap number (take-append-add (byte_bits x) bits n)
    ∙ number-append (byte_bits x) (take n bits)
    ∙ ap₂ (λ a k. a + 2 ^ k * number (take n bits)) (number-byte x h) (length-byte_bits x)

pub four-bytes : (bytes : List ℕ) (byte : ℕ) → byte + 4 ≤ length bytes → ((i : ℕ) → get_or bytes i 0 < 256)
    → field byte 0 32 bytes ≡ get_or bytes byte 0 + get_or bytes (byte + 1) 0 * 256 + get_or bytes
    (byte + 2) 0 * 65536 + get_or bytes (byte + 3) 0 * 16777216
unfolding field
four-bytes [] byte h f = absurd (omega arith)
four-bytes (a ∷ []) zero h f = absurd (omega arith)
four-bytes (a ∷ b ∷ []) zero h f = absurd (omega arith)
four-bytes (a ∷ b ∷ c ∷ []) zero h f = absurd (omega arith)
four-bytes (a ∷ b ∷ c ∷ d ∷ bytes) zero h f =
    let first = number-first a 24 (status_bits (b ∷ c ∷ d ∷ bytes)) (f 0) in
    let second = number-first b 16 (status_bits (c ∷ d ∷ bytes)) (f 1) in
    let third = number-first c 8 (status_bits (d ∷ bytes)) (f 2) in
    let fourth = number-first d 0 (status_bits bytes) (f 3) in
    first ∙ ap (λ n. a + 256 * n) (second ∙ ap (λ n. b + 256 * n) (third ∙ ap (λ n. c + 256 * n) fourth)) ∙ omega arith
four-bytes (x ∷ bytes) (suc byte) h f =
    let second : suc byte + 1 ≡ suc (byte + 1) = omega arith in
    let third : suc byte + 2 ≡ suc (byte + 2) = omega arith in
    let fourth : suc byte + 3 ≡ suc (byte + 3) = omega arith in
    rw (second, third, fourth) (ap (λ bits. number (take 32 bits)) (drop-first x bytes byte 0)
    ∙ four-bytes bytes byte (omega arith) (λ i. f (suc i)))

-- a field of so many bits
pub field-fits : (byte bit count : ℕ) (bytes : List ℕ) → field byte bit count bytes < 2 ^ count
unfolding field
field-fits byte bit count bytes =
    let bits = take count (drop (8 * byte + bit) (status_bits bytes)) in
    let l = length-take count (drop (8 * byte + bit) (status_bits bytes)) in
    let few : 2 ^ length bits ≤ 2 ^ count = pow_mono {i = length bits} {j = count} (omega arith) in
    omega (arith, number-lt bits)
