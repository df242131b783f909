use Rattle.std.proofs.Common.{arith}
use Rattle.aes3_engine.proofs.FillSteps.{nearest}
use Rattle.aes3_c.proofs.frame_calls.frames_before.Goals as goal

pub returns-clause-count : goal.returns-clause-count
returns-clause-count c = omega (arith, nearest c.args.first c.args.at c.saturating_sub-cells.result (omega arith))
