-- Bits and numbers determine each other.
use Rattle.std.specs.Prelude.{ℕ, List, Bool, length, ◌≡◌, ◌<◌, ◌^◌}
use Rattle.aes3_bits.specs.Bits.{low_bits, number}

-- the lowest bits of a number that fits into them have this number
abbrev pub NumberOfItsBits : Type 0
NumberOfItsBits = (count n : ℕ) → n < 2 ^ count → number (low_bits count n) ≡ n

-- as many of the lowest bits of the number of bits are these
abbrev pub BitsOfTheirNumber : Type 0
BitsOfTheirNumber = (bits : List Bool) → low_bits (length bits) (number bits) ≡ bits
