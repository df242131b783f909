use Rattle.aes3_lock.specs.Reports.{reports}
use Rattle.aes3_input.specs.Inputs.{cells_of}
use Rattle.aes3_engine.specs.Filling.{placed}
use Rattle.aes3_engine.proofs.RewritingExactly.{rising-of}
use Rattle.aes3_engine.proofs.rewriting_exactly.answer.Goals as goal

pub returns : goal.returns
returns c = λ form b n h.
    (n, c.first_refused.ensures (placed (reports (cells_of form b))) (rising-of (cells_of form b)) h)
