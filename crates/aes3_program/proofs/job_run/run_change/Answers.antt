use Rattle.std.proofs.Common.{Bool, ap}
use Rattle.aes3_cli_jobs.specs.declared.work.StreamWork.TheVariants.{Rewrite}
use Rattle.aes3_program.specs.Outcomes.{of_exact, of_rewritten}
use Rattle.aes3_program.proofs.Flushes.{stream-of, told-ran}
use Rattle.aes3_program.proofs.job_run.run_change.Goals as goal

pub returns-then-exactly : goal.returns-then-exactly
returns-then-exactly g c =
    stream-of c.args.input c.args.output (ap (λ (v : Bool). Rewrite c.args.change.now v) c.if-exactly.true)
    (told-ran of_exact c.exact.ensures c.rewrite_exactly.ensures.run)

pub returns-else-exactly : goal.returns-else-exactly
returns-else-exactly g c =
    stream-of c.args.input c.args.output (ap (λ (v : Bool). Rewrite c.args.change.now v) c.if-exactly.false)
    (told-ran (of_rewritten c.args.change.now) c.outcome_of_rewrite.ensures c.rewrite.ensures.run)
