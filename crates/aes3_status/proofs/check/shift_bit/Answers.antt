use Rattle.std.proofs.Common.{arith}
use Rattle.aes3_status.proofs.ShiftRegister.{shift-one, shift-zero}
use Rattle.aes3_status.proofs.check.shift_bit.Goals as goal

pub returns-then-feedback : goal.returns-then-feedback
returns-then-feedback c = shift-one c.args.bit c.args.register (omega arith) c.if-feedback.true

pub returns-else-feedback : goal.returns-else-feedback
returns-else-feedback c = shift-zero c.args.bit c.args.register (omega arith) c.if-feedback.false
