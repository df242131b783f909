-- The check as a shift register: the polynomial in it, one bit of the channel status after the other.
use Rattle.std.specs.Prelude.{ℕ, List, [], ◌∷◌, Bool, ◌^◌, bit_xor, if◌then◌else◌}
use Rattle.aes3_status.specs.Bits.{byte_bits}
use Rattle.aes3_status.specs.Check.{times_x, weights}

-- the polynomial that a register holds, as byte 23 would add it to the sum: bit 0 is the coefficient of x^7
unfoldable pub polynomial : ℕ → ℕ
polynomial register = weights 184 (byte_bits register)

abbrev pub after_bit : ℕ → Bool → ℕ
after_bit p bit = times_x (bit_xor p (if bit then 2 ^ 7 else 0))

abbrev pub after_bits : ℕ → List Bool → ℕ
after_bits p [] = p
after_bits p (bit ∷ bits) = after_bits (after_bit p bit) bits
