use Rattle.aes3_bits.proofs.Bits.{low_bits-number, number-low_bits}
use Rattle.aes3_bits.proofs.bits_and_numbers.Goals as goal

pub returns-clause-number : goal.returns-clause-number
returns-clause-number c = number-low_bits

pub returns-clause-bits : goal.returns-clause-bits
returns-clause-bits c = low_bits-number
