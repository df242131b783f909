-- What a run leaves the errors and its observer as.
use Rattle.std.specs.Option.{option_or}
use Rattle.std.specs.Prelude.{ℕ, List, Option, Some, None, Result, Ok, Err, IsTrue, is_some, ◌≡◌, ◌≢◌, ◌+◌, ◌≤◌}
use Rattle.aes3_cell.specs.declared.ends.Sink.{Ghosts as SinkMembers}
use Rattle.aes3_cli_jobs.specs.declared.wave_refusal.Refusal.{Refusal}
use Rattle.aes3_input.specs.Running.{Movement}
use Rattle.aes3_cli_arguments.specs.declared.command_job.LineFault.{LineFault}
use Rattle.aes3_cli_arguments.specs.declared.command_line.CommandLine.{CommandLine}
use Rattle.aes3_cli_arguments.specs.Jobs.{IsJobOf, IsFaultOf}
use Rattle.aes3_cli_jobs.specs.declared.job.Job.{Job}
use Rattle.aes3_cli_jobs.specs.declared.observer.Observer.{Ghosts as ObserverMembers}
use Rattle.aes3_cli_jobs.specs.Hearing.{Hearing}
use Rattle.aes3_program.specs.JobRuns.{IsTold}
use Rattle.aes3_program.specs.Streams.{HasPassed, PassesOn, moved}

-- the errors failed once at most, and pass on what they take, if they had passed on all before
pub record ErrorsLeft {E : Type 0} (e : SinkMembers E) (old new : E) : Type 0 where
  pub once : e.failed new ≤ e.failed old + 1
  pub passed_on : HasPassed e old → PassesOn e old new

-- what was heard once this job has begun, if one has, and this was refused, if anything was
abbrev pub heard_by : Option Job → Option Refusal → Hearing → Hearing
heard_by begun refused before = record {
  job = option_or begun before.job;
  refusal = option_or refused before.refusal;
  terminal = before.terminal;
}

-- the observer heard of these, is silent if it was, and has written nothing, unless a job has begun and it is not silent
pub record Observed {O : Type 0} (begun : Option Job) (refused : Option Refusal) (o : ObserverMembers O) (old new : O)
    : Type 0 where
  pub silent : (IsTrue (is_some begun) → IsTrue (o.is_silent old)) → o.told new ≡ o.told old
  pub same : o.is_silent new ≡ o.is_silent old
  pub heard : (before : Hearing) → o.heard old before → o.heard new (heard_by begun refused before)

-- something was refused just at status 3, and its line is among the errors
abbrev pub RefusedAt : Option Refusal → Movement → ℕ → Type 0
RefusedAt None errors status = status ≢ 3
RefusedAt (Some error) errors status = (status ≡ 3) × IsTold errors error

-- the errors and the observer where this job has begun, if one has, and this was refused, if anything was
pub record Aside {E O : Type 0} (begun : Option Job) (refused : Option Refusal) (e : SinkMembers E) (errors errors' : E)
    (o : ObserverMembers O) (observer observer' : O) (status : ℕ) : Type 0 where
  pub left : ErrorsLeft e errors errors'
  pub observed : Observed begun refused o observer observer'
  pub refusal : RefusedAt refused (moved e errors errors') status

-- the same of a run, by what it refused
pub record AsideOfRun {E O : Type 0} (begun : Option Job) (e : SinkMembers E) (errors errors' : E) (o : ObserverMembers O)
    (observer observer' : O) (status : ℕ) : Type 0 where
  pub refused : Option Refusal
  pub aside : Aside begun refused e errors errors' o observer observer' status

-- the job of a line, if it has one
abbrev pub job_of : Result CommandLine LineFault → Option Job
job_of (Ok line) = Some line.job
job_of (Err fault) = None

-- the same of words: the job that they ask for has begun, or they ask for none
abbrev pub IsAsked : List (List ℕ) → Option Job → Type 0
IsAsked words None = (fault : LineFault) × IsFaultOf words fault
IsAsked words (Some job) = IsJobOf words job

pub record AsideOfWords {E O : Type 0} (words : List (List ℕ)) (e : SinkMembers E) (errors errors' : E)
    (o : ObserverMembers O) (observer observer' : O) (status : ℕ) : Type 0 where
  pub begun : Option Job
  pub asked : IsAsked words begun
  pub aside : AsideOfRun begun e errors errors' o observer observer' status
