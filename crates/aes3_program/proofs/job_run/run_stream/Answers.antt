use Rattle.aes3_program.specs.Outcomes.{of_counts}
use Rattle.aes3_program.proofs.Flushes.{stream-of, told-ran}
use Rattle.aes3_program.proofs.job_run.run_stream.Goals as goal

pub returns-in-Normal : goal.returns-in-Normal
returns-in-Normal g c =
    stream-of c.args.input c.args.output c.in-Normal.is
    (told-ran of_counts c.plain.ensures c.normalise.ensures.run)

pub returns-in-Cut : goal.returns-in-Cut
returns-in-Cut g c =
    stream-of c.args.input c.args.output c.in-Cut.is
    (told-ran of_counts c.plain-in-Cut.ensures c.cut.ensures.run)

pub returns-in-Rewrite : goal.returns-in-Rewrite
returns-in-Rewrite g c =
    stream-of c.args.input c.args.output c.in-Rewrite.is c.run_change.ensures
