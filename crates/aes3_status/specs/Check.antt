-- The check byte (CRCC) of professional channel status (AES3-2).
-- A polynomial is a number whose bit k is the coefficient of x^k.
use Rattle.std.specs.Prelude.{ℕ, zero, suc, List, [], ◌∷◌, Bool, true, ◌≡◌, ◌+◌, ◌-◌, ◌*◌, ◌^◌, ◌==◌, nat_lt, bit_xor}
use Rattle.std.specs.Prelude.{replicate, reverse, slice_index, if◌then◌else◌}
use Rattle.aes3_status.specs.declared.check.Check.{Check}
use Rattle.aes3_status.specs.declared.check.Check.TheVariants.{Good, Absent, Bad}
use Rattle.aes3_bits.specs.Bits.{low_bits, number}
use Rattle.aes3_status.specs.Bits.{status_bits}

-- x^8 + x^4 + x^3 + x^2 + 1
abbrev pub generator : ℕ
generator = 2 ^ 8 + 2 ^ 4 + 2 ^ 3 + 2 ^ 2 + 1

-- x times a polynomial of degree below 8, modulo the generator
unfoldable pub times_x : ℕ → ℕ
times_x p = if nat_lt p (2 ^ 7) then 2 * p else bit_xor (2 * p) generator

-- x^n modulo the generator
abbrev pub power_of_x : ℕ → ℕ
power_of_x zero = 1
power_of_x (suc n) = times_x (power_of_x n)

-- the bits of a channel status are numbered 0 to 191 in order of transmission
unfoldable pub last_bit : ℕ
last_bit = 191

-- the weight of bit i: 1 for the last bit, and for each other x times the weight of the next
unfoldable pub weight : ℕ → ℕ
weight i = power_of_x (last_bit - i)

-- the xor of the weights of the bits that are set, where the first is bit i
abbrev pub weights : ℕ → List Bool → ℕ
weights i [] = 0
weights i (bit ∷ bits) = bit_xor (if bit then weight i else 0) (weights (suc i) bits)

-- the register is preset to ones: the weights of bits 0 to 7
unfoldable pub preset : ℕ
preset = weights 0 (replicate 8 true)

-- what the check finds in the bits of a channel status, or in its first bits
unfoldable pub remainder : List Bool → ℕ
remainder bits = bit_xor (weights 0 bits) preset

abbrev pub CheckHolds : List Bool → Type 0
CheckHolds bits = remainder bits ≡ 0

-- the check byte of bytes 0 to 22: their remainder, the coefficient of x^7 in bit 0
unfoldable pub check_byte_of : List ℕ → ℕ
check_byte_of front = number (reverse (low_bits 8 (remainder (status_bits front))))

-- good where the check holds, else absent where byte 23 is zero
abbrev pub check_state_of : List ℕ → Check
check_state_of bytes =
    if remainder (status_bits bytes) == 0 then Good
    else (if slice_index bytes 23 == 0 then Absent else Bad)
