use Rattle.std.proofs.Common.{arith}
use Rattle.aes3_capture_recovery.proofs.Ahead.{level-even, level-odd}
use Rattle.aes3_capture_recovery.proofs.recovery.block.level_behind.Goals as goal

pub returns-then-count-eq1 : goal.returns-then-count-eq1
returns-then-count-eq1 c = λ before runs long is. level-odd before runs c.args.high (let odd = c.if-count-eq1.true in omega (arith, long, odd)) is

pub returns-else-count-eq1 : goal.returns-else-count-eq1
returns-else-count-eq1 c = λ before runs long is. level-even before runs c.args.high (let odd = c.if-count-eq1.false in omega (arith, long, odd)) is
