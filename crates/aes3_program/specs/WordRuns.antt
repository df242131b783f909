-- What the program does for a command line.
use Rattle.std.specs.Prelude.{ℕ, List, [], Result, Ok, Err, ◌≡◌, ◌⊎◌}
use Rattle.aes3_cell.specs.Ends.{Grew}
use Rattle.aes3_refusals.specs.declared.run_error.RunError.TheVariants.{Memory, Write}
use Rattle.aes3_input.specs.Running.{Movement, Quiet, Failed}
use Rattle.aes3_status.specs.declared.typed_settings.TypedSettings.{TypedSettings}
use Rattle.aes3_cli_jobs.specs.declared.job.Job.{Job}
use Rattle.aes3_cli_jobs.specs.declared.wave_refusal.Refusal.TheVariants.{Run}
use Rattle.aes3_cli_arguments.specs.declared.command_job.LineFault.{LineFault}
use Rattle.aes3_cli_arguments.specs.declared.command_line.CommandLine.{CommandLine}
use Rattle.aes3_cli_arguments.specs.declared.layout.Octets.{Octets}
use Rattle.aes3_cli.specs.declared.unread.Unread.{Unread}
use Rattle.aes3_cli.specs.declared.unread.Unread.TheVariants as unread
use Rattle.aes3_cli_arguments.specs.declared.command_job.LineFault.TheVariants.{Usage, Help, Refused}
use Rattle.aes3_cli_arguments.specs.Jobs.{HaveOctets, HaveTyped, IsJobOf, IsFaultOf}
use Rattle.aes3_program.specs.JobRuns.{IsTold}
use Rattle.aes3_program.specs.OctetRuns.{OctetsRan}
use Rattle.aes3_program.specs.Lines.{not_utf8_text}
use Rattle.aes3_program.specs.Streams.{Streams}

-- a line that is no job: why not is told among the errors, and help in the output
abbrev pub FaultRan : LineFault → Movement → Movement → ℕ → Type 0
FaultRan (Usage text) sink errors status =
    (status ≡ 2) × Grew sink.old sink.new [] × (Quiet errors → Grew errors.old errors.new text.bytes.items)
FaultRan (Help text) sink errors status =
    ((status ≡ 0) × Quiet sink × Grew sink.old sink.new text.bytes.items × Grew errors.old errors.new [])
    ⊎ ((status ≡ 3) × Failed sink × IsTold errors (Run Write))
FaultRan (Refused error) sink errors status =
    (status ≡ 3) × Grew sink.old sink.new [] × IsTold errors (Run error)

-- a line that asks for a job, which is run; or for none, which is told and nothing is read
abbrev pub LineRan : Result CommandLine LineFault → Streams → ℕ → Type 0
LineRan (Ok line) streams status = OctetsRan line.octets line.job line.typed streams status
LineRan (Err fault) streams status =
    Grew streams.source.old streams.source.new [] × Quiet streams.source
    × FaultRan fault streams.sink streams.errors status

-- the line that these words are
abbrev pub IsLineOfWords : List (List ℕ) → Result CommandLine LineFault → Type 0
IsLineOfWords words (Ok line) = IsJobOf words line.job × HaveTyped words line.typed × HaveOctets words line.octets
IsLineOfWords words (Err fault) = IsFaultOf words fault

-- the words ask for a job, which is run; or they ask for none, which is told and nothing is read
pub record JobOfWords (words : List (List ℕ)) (streams : Streams) (status : ℕ) : Type 0 where
  pub job : Job
  pub asked : IsJobOf words job
  pub typed : TypedSettings
  pub texts : HaveTyped words typed
  pub octets : Octets
  pub laid_out : HaveOctets words octets
  pub ran : OctetsRan octets job typed streams status

pub record FaultOfWords (words : List (List ℕ)) (streams : Streams) (status : ℕ) : Type 0 where
  pub fault : LineFault
  pub told : IsFaultOf words fault
  pub unread : Grew streams.source.old streams.source.new []
  pub quiet : Quiet streams.source
  pub ran : FaultRan fault streams.sink streams.errors status

abbrev pub WordsRan : List (List ℕ) → Streams → ℕ → Type 0
WordsRan words streams status = JobOfWords words streams status ⊎ FaultOfWords words streams status

-- words that could not be read: what is told of that
abbrev pub UnreadTold : Unread → Movement → ℕ → Type 0
UnreadTold unread.NotUtf8 errors status = (status ≡ 2) × (Quiet errors → Grew errors.old errors.new not_utf8_text)
UnreadTold unread.Memory errors status = (status ≡ 3) × IsTold errors (Run Memory)
