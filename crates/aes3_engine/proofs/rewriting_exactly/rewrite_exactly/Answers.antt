use Rattle.std.proofs.Common.{Ok}
use Rattle.std.proofs.lemmas.Result.{err_from_is_err_and}
use Rattle.aes3_engine.proofs.RewritingExactly.{exactly-all, exactly-err, exactly-ok}
use Rattle.aes3_engine.proofs.rewriting_exactly.rewrite_exactly.Goals as goal

pub run_reports-requires-clause-start : goal.run_reports-requires-clause-start
run_reports-requires-clause-start g c = (c.new-blocks.ensures.met, c.new-blocks.ensures.refused)

pub returns-clause-run : goal.returns-clause-run
returns-clause-run g c =
    exactly-ok c.args.input c.new-blocks.ensures.output c.new-blocks.ensures.change
    (λ b n h. c.answer.ensures c.args.input b n h) c.in_ok-counts.ensures

pub returns-in_err-counts-clause-run : goal.returns-in_err-counts-clause-run
returns-in_err-counts-clause-run g c =
    let error = err_from_is_err_and c.from_residual.result c.from_residual.ensures.1 in
    rw (error.1, error.2) (exactly-err c.args.input c.new-blocks.ensures.output c.new-blocks.ensures.change
    c.in_err-counts.ensures)

pub returns-clause-all : goal.returns-clause-all
returns-clause-all g c =
    exactly-all c.args.input c.args.output c.args.change.now (Ok c.answer.result) (returns-clause-run g c)
