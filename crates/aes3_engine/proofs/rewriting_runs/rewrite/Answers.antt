use Rattle.std.proofs.Common.{Ok}
use Rattle.std.proofs.lemmas.Result.{err_from_is_err_and}
use Rattle.aes3_input.proofs.InputRuns.{run-wrote}
use Rattle.aes3_engine.proofs.RewritingRuns.{rewrite-ok, rewrite-err}
use Rattle.aes3_engine.proofs.rewriting_runs.rewrite.Goals as goal

pub run_reports-requires-clause-start : goal.run_reports-requires-clause-start
run_reports-requires-clause-start g c = c.new-blocks.ensures.met

pub returns-clause-run : goal.returns-clause-run
returns-clause-run g c =
    rewrite-ok c.args.input c.new-blocks.ensures.output c.new-blocks.ensures.change
    (λ b n h. c.answer.ensures c.args.input b n h) c.in_ok-counts.ensures

pub returns-in_err-counts-clause-run : goal.returns-in_err-counts-clause-run
returns-in_err-counts-clause-run g c =
    let error = err_from_is_err_and c.from_residual.result c.from_residual.ensures.1 in
    rw (error.1, error.2) (rewrite-err c.args.input c.new-blocks.ensures.output c.new-blocks.ensures.change
    c.in_err-counts.ensures)

pub returns-clause-rewritten : goal.returns-clause-rewritten
returns-clause-rewritten g c = run-wrote (Ok _) (returns-clause-run g c)
