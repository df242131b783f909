use Rattle.aes3_program.proofs.PackedOutputs.{can-be-reversed}
use Rattle.aes3_program.proofs.line_run.outputs_can_be_reversed.Goals as goal

pub returns : goal.returns
returns c = can-be-reversed
