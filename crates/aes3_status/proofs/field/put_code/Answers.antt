use Rattle.std.proofs.Common.{ap, set}
use Rattle.aes3_status.specs.Settings.{with_field}
use Rattle.aes3_status.proofs.field.put_code.Goals as goal

pub returns : goal.returns
unfolding with_field
returns c = ap (set c.args.bytes.now c.args.place.byte) c.replace_bits.ensures
