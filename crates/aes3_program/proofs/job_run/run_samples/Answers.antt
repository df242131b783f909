use Rattle.std.proofs.Common.{Bool, ap}
use Rattle.aes3_cli_jobs.specs.declared.work.ReadWork.TheVariants.{ToPcm}
use Rattle.aes3_program.specs.Outcomes.{of_counts}
use Rattle.aes3_program.proofs.Flushes.{read-of, told-ran}
use Rattle.aes3_program.proofs.job_run.run_samples.Goals as goal

pub returns-then-valid : goal.returns-then-valid
returns-then-valid g c =
    read-of c.args.input (ap (λ (v : Bool). ToPcm c.args.format v) c.if-valid.true) (told-ran of_counts c.plain.ensures c.to_valid_pcm.ensures.run)

pub returns-else-valid : goal.returns-else-valid
returns-else-valid g c =
    read-of c.args.input (ap (λ (v : Bool). ToPcm c.args.format v) c.if-valid.false) (told-ran of_counts c.plain-else-valid.ensures c.to_pcm.ensures.run)
