-- What is so once a job has ended.
use Rattle.std.specs.Prelude.{ℕ, Option}
use Rattle.aes3_cell.specs.declared.ends.Sink.{Ghosts as SinkMembers}
use Rattle.aes3_cell.specs.declared.ends.Source.{Ghosts as SourceMembers}
use Rattle.aes3_cli_jobs.specs.declared.job.Job.{Job}
use Rattle.aes3_cli_jobs.specs.declared.observer.Observer.{Ghosts as ObserverMembers}
use Rattle.aes3_program.specs.Asides.{AsideOfRun}
use Rattle.aes3_program.specs.Streams.{PassesOn, Streams, streams_of}

-- A job has ended with this status. `Ran` says how the streams moved. The sink has passed on what it took, unless it
-- failed. The errors and the observer are as after a run in which this job has begun, if one has.
pub record JobEnded {S T E O : Type 0} (Ran : Streams → ℕ → Type 0) (begun : Option Job)
    (s : SourceMembers S) (source source' : S) (t : SinkMembers T) (sink sink' : T)
    (e : SinkMembers E) (errors errors' : E) (o : ObserverMembers O) (observer observer' : O) (status : ℕ) : Type 0 where
  pub ran : Ran (streams_of s source source' t sink sink' e errors errors') status
  pub passed_on : PassesOn t sink sink'
  pub aside : AsideOfRun begun e errors errors' o observer observer' status
