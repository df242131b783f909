-- What standard error is told of a command line where nobody sits at a terminal.
use Rattle.std.specs.Option.{is_some}
use Rattle.std.specs.Prelude.{ℕ, [], Bool, true, false, Result, Ok, Err, IsFalse, not, ◌||◌, ◌≡◌, ◌≤◌}
use Rattle.aes3_cell.specs.Ends.{Grew}
use Rattle.aes3_cli_jobs.specs.declared.wave_refusal.Refusal.{Refusal}
use Rattle.aes3_input.specs.Running.{Movement, Quiet}
use Rattle.aes3_cli_arguments.specs.declared.command_job.LineFault.{LineFault}
use Rattle.aes3_cli_arguments.specs.declared.command_job.LineFault.TheVariants.{Usage, Help, Refused}
use Rattle.aes3_cli_arguments.specs.declared.command_line.CommandLine.{CommandLine}
use Rattle.aes3_status.specs.declared.typed_settings.TypedSettings.{TypedSettings}
use Rattle.aes3_cli_jobs.specs.declared.job.Job.{Job}
use Rattle.aes3_cli_jobs.specs.declared.job.Job.TheVariants.{Encode, Stream, Read, FromPcm, FromWav}
use Rattle.aes3_cli_jobs.specs.declared.work.ReadWork.{ReadWork}
use Rattle.aes3_cli_jobs.specs.declared.work.ReadWork.TheVariants.{ToExactPcm, ToFilledPcm, ToWav, ToExactWav, ToFilledWav}
use Rattle.aes3_cli_jobs.specs.declared.work.StreamWork.{StreamWork}
use Rattle.aes3_cli_jobs.specs.declared.work.StreamWork.TheVariants.{Normal, Cut, Rewrite}
use Rattle.aes3_forms_words.specs.declared.alsa_am824.Words.TheVariants.{Own, Alsa, Am824}
use Rattle.aes3_program.specs.declared.outcome.Remark.{Remark}
use Rattle.aes3_status.specs.declared.change.Change.{Change}
use Rattle.aes3_program.specs.Lines.{refusal_line, remark_line}
use Rattle.aes3_program.specs.Outcomes.{RemarkTold}

-- the line of a refusal, and nothing else
pub record RefusalTold (errors : Movement) : Type 0 where
  pub error : Refusal
  pub line : Grew errors.old errors.new (refusal_line error)

-- why the words are no command, and nothing else
abbrev pub UsageTold : Result CommandLine LineFault → Movement → Type 0
UsageTold (Ok line) errors = ⊥
UsageTold (Err (Usage text)) errors = Grew errors.old errors.new text.bytes.items
UsageTold (Err (Help text)) errors = ⊥
UsageTold (Err (Refused error)) errors = ⊥

-- whether a change sets fields by name
abbrev pub sets_fields : Change → Bool
sets_fields change = is_some change.settings1 || is_some change.settings2

-- whether there can be anything to remark on a job: only where a command line asks for what tells it
abbrev pub stream_remarks : StreamWork → Bool
stream_remarks Normal = false
stream_remarks (Cut from count) = false
stream_remarks (Rewrite change exact) = exact || sets_fields change

abbrev pub read_remarks : ReadWork → Bool
read_remarks (ToExactPcm format) = true
read_remarks (ToFilledPcm format fill marked) = true
read_remarks (ToWav depth rate valid) = not (is_some rate)
read_remarks (ToExactWav depth rate) = true
read_remarks (ToFilledWav depth rate fill marked) = true
read_remarks work = false

abbrev pub remarks : Job → Bool
remarks (Encode o Own) = false
remarks (Encode o Alsa) = true
remarks (Encode o Am824) = true
remarks (Stream i o work) = stream_remarks work
remarks (Read i work) = read_remarks work
remarks (FromPcm format exact change words) = sets_fields change
remarks (FromWav channels mono exact professional change words) = true

-- of a line that was run to its end a remark, and nothing else, and nothing at all of a job on which there is none
pub record RemarkOf (job : Job) (typed : TypedSettings) (errors : Movement) : Type 0 where
  pub remark : Remark
  pub asked : IsFalse (remarks job) → remark_line typed remark ≡ []
  pub told : RemarkTold (remark_line typed remark) errors

abbrev pub EndTold : Result CommandLine LineFault → Movement → Type 0
EndTold (Ok line) errors = RemarkOf line.job line.typed errors
EndTold (Err fault) errors = Grew errors.old errors.new []

-- the remark on a line that was run to its end, at status 0 and 1; at 2 why its words are no command; at 3 the line of a
-- refusal
pub record ErrorsTold (line : Result CommandLine LineFault) (errors : Movement) (status : ℕ) : Type 0 where
  pub known : status ≤ 3
  pub done : status ≤ 1 → EndTold line errors
  pub usage : status ≡ 2 → Quiet errors → UsageTold line errors
  pub refusal : status ≡ 3 → Quiet errors → RefusalTold errors
