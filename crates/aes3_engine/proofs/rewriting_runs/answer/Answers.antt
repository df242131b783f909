use Rattle.std.proofs.Common.{arith, rules}
use Rattle.aes3_frame.specs.declared.block.Channel.TheVariants.{First, Second}
use Rattle.aes3_lock.specs.Reports.{blocks}
use Rattle.aes3_input.specs.Inputs.{cells_of}
use Rattle.aes3_engine.proofs.RewritingRuns.{answer-is, blocks-count, met-blocks}
use Rattle.aes3_engine.proofs.rewriting_runs.answer.Goals as goal

pub returns : goal.returns
returns c = λ form b n h.
    let count = blocks-count form b n in
    let met = met-blocks (cells_of form b) h in
    answer-is form c.args.change.now b (search (rules, n))
    (search (rules, c.taken_in.ensures First (blocks (cells_of form b)) (omega (arith, count)) met.first))
    (search (rules, c.taken_in-2.ensures Second (blocks (cells_of form b)) (omega (arith, count)) met.second))
