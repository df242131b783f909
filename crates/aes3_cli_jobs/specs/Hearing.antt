-- What an observer has heard of a run, and whether it speaks to a person at a terminal.
use Rattle.std.specs.Prelude.{Bool, Option, Some}
use Rattle.aes3_cli_jobs.specs.declared.job.Job.{Job}
use Rattle.aes3_cli_jobs.specs.declared.wave_refusal.Refusal.{Refusal}

-- the job that has begun, and what was refused
pub record Hearing : Type 0 where
  pub job : Option Job
  pub refusal : Option Refusal
  pub terminal : Bool

-- after a job has begun
abbrev pub with_job : Job → Hearing → Hearing
with_job job hearing = record { job = Some job; refusal = hearing.refusal; terminal = hearing.terminal }

-- after something was refused
abbrev pub with_refusal : Option Refusal → Hearing → Hearing
with_refusal refusal hearing = record { job = hearing.job; refusal = refusal; terminal = hearing.terminal }
