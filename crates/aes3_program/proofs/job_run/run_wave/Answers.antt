use Rattle.std.proofs.Common.{Bool, ap}
use Rattle.aes3_cli_jobs.specs.declared.work.ReadWork.TheVariants.{ToWav}
use Rattle.aes3_program.specs.Outcomes.{of_wave}
use Rattle.aes3_program.proofs.Flushes.{read-of, told-ran}
use Rattle.aes3_program.proofs.job_run.run_wave.Goals as goal

pub returns-then-valid : goal.returns-then-valid
returns-then-valid g c =
    read-of c.args.input (ap (λ (v : Bool). ToWav c.args.depth c.args.rate v) c.if-valid.true)
    (told-ran (of_wave c.args.rate) c.outcome_of_wave.ensures c.to_valid_wav.ensures.run)

pub returns-else-valid : goal.returns-else-valid
returns-else-valid g c =
    read-of c.args.input (ap (λ (v : Bool). ToWav c.args.depth c.args.rate v) c.if-valid.false)
    (told-ran (of_wave c.args.rate) c.outcome_of_wave-else-valid.ensures c.to_wav.ensures.run)
