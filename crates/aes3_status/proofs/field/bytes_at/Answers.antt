use Rattle.std.proofs.Common.{arith}
use Rattle.aes3_status.proofs.BitFields.{take-four}
use Rattle.aes3_status.proofs.field.bytes_at.Goals as goal

pub returns : goal.returns
returns c = take-four c.args.bytes.now c.args.byte (omega arith)
