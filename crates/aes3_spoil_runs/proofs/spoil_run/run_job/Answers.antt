use Rattle.std.proofs.Common.{arith, refl}
use Rattle.aes3_spoil_runs.proofs.Reported.{done, done_exactly, passed-on, refused-flushed}
use Rattle.aes3_spoil_runs.proofs.spoil_run.run_job.Goals as goal

pub returns-in-Ok-clause-ran : goal.returns-in-Ok-clause-ran
returns-in-Ok-clause-ran g c = done c.args.job.now c.in-Ok.ensures.run (omega arith) refl refl

pub returns-in-Err-clause-ran : goal.returns-in-Err-clause-ran
returns-in-Err-clause-ran g c =
    refused-flushed c.args.job.now c.in-Err.ensures.run c.flush_after.ensures.last (omega (arith, c.refuse.ensures.status))
    c.refuse.ensures.line

pub returns-in-Ok-clause-done : goal.returns-in-Ok-clause-done
returns-in-Ok-clause-done g c = done_exactly c.args.job.now (returns-in-Ok-clause-ran g c)

pub returns-in-Err-clause-done : goal.returns-in-Err-clause-done
returns-in-Err-clause-done g c = done_exactly c.args.job.now (returns-in-Err-clause-ran g c)

pub returns-in-Err-clause-passed_on : goal.returns-in-Err-clause-passed_on
returns-in-Err-clause-passed_on g c =
    passed-on c.args.job.now c.in-Err.ensures.run c.flush_after.ensures.last c.flush_after.ensures.passed_on
