use Rattle.std.proofs.Common.{◌*◌, ◌%◌, ◌^◌}
use Rattle.std.specs.Prelude.{bit_xor}
use Rattle.aes3_slot.proofs.FourSubframes.{with-shifted}
use Rattle.aes3_slot.proofs.four.invert_from_below.Goals as goal

pub returns : goal.returns
returns c = with-shifted bit_xor (λ x s. x * 2 ^ s % 2 ^ 32) c.args.distance 4 c.args.words c.fits-words.0
