-- What the program does for a job, and for words that ask for none.
use Rattle.std.specs.Prelude.{ℕ, List, [], ◌++◌, Bool, Option, Some, None, Result, Ok, Err, IsTrue, ◌≡◌, ◌≢◌, ◌≤◌}
use Rattle.std.specs.Prelude.{◌-◌, ◌^◌, ◌⊎◌, codes, length, true}
use Rattle.std.specs.List.{All, concat}
use Rattle.aes3_level.specs.declared.level.Level.{Level}
use Rattle.aes3_cell.specs.Ends.{Grew}
use Rattle.aes3_cli.specs.declared.fault.LineFault.{LineFault}
use Rattle.aes3_cli.specs.declared.fault.LineFault.TheVariants as fault
use Rattle.aes3_input.specs.Running.{Failed, Movement, Quiet}
use Rattle.aes3_capture_recovery.specs.Beginning.{IsLastingBehind}
use Rattle.aes3_capture_recovery.specs.Levels.{levels_of_samples}
use Rattle.aes3_capture_recovery.specs.Recovering.{Recovered, Setting}
use Rattle.aes3_capture_recovery.specs.Taking.{RecoveredAll, WritesLine}
use Rattle.aes3_capture_recovery.specs.declared.edges.Unit.{Unit}
use Rattle.aes3_capture_recovery.specs.declared.figures.Figures.{Figures}
use Rattle.aes3_capture_recovery.specs.declared.recovery.Recovery.{Recovery}
use Rattle.aes3_capture_recovery.specs.declared.recovery_run.Progress.{Progress}
use Rattle.aes3_capture_recovery.specs.declared.recovery_run.Refusal.{Refusal}
use Rattle.aes3_capture_recovery.specs.declared.recovery_run.Refusal.TheVariants.{Read, Write}
use Rattle.aes3_capture_runs.specs.Lines.{IsFiguresLine, IsFoundText, bit_line, no_line_text}
use Rattle.aes3_capture_runs.specs.Samples.{unit_of_job}
use Rattle.aes3_capture_runs.specs.declared.capture_job.Job.{Job}
use Rattle.aes3_cli.specs.declared.unread.Unread.{Unread}
use Rattle.aes3_cli.specs.declared.unread.Unread.TheVariants as unread

-- what a sink tells at the start, and the form and the period of the job
abbrev pub setting_of : Job → List ℕ → Setting
setting_of job begun = record { begun = begun; form = job.form; known = job.period }

-- a line of what was found up to some sample, at this rate of samples
pub record IsToldLine (rate : Option ℕ) (line : List ℕ) : Type 0 where
  pub figures : Figures
  pub is : IsFiguresLine figures rate line

-- the messages grew by such lines, one after the other; by none where none is asked for
pub record LinesTold (rate each : Option ℕ) (old new : Option (List ℕ)) : Type 0 where
  pub lines : List (List ℕ)
  pub are : All (IsToldLine rate) lines
  pub none : each ≡ None → lines ≡ []
  pub grew : Grew old new (concat lines)

-- what is said before the last lines of a job: the line of the bit, and lines of what was found so far
pub record IsSaidBefore (job : Job) (found : Option ℕ) (text : List ℕ) : Type 0 where
  pub lines : List (List ℕ)
  pub are : All (IsToldLine job.rate) lines
  pub none : job.tell_each ≡ None → lines ≡ []
  pub is : text ≡ bit_line found ++ concat lines

-- they grew by a text of this kind, and by this text after it
pub record EndWith (before : List ℕ → Type 0) (messages : Movement) (text : List ℕ) : Type 0 where
  pub front : List ℕ
  pub is_before : before front
  pub grew : Grew messages.old messages.new (front ++ text)

-- unless the messages failed, this is so
abbrev pub IsSaid : (List ℕ → Type 0) → Movement → List ℕ → Type 0
IsSaid before messages text = Quiet messages → EndWith before messages text

-- no text
abbrev pub IsNothing : List ℕ → Type 0
IsNothing text = text ≡ []

-- they grew by this text alone
abbrev pub IsSaidAlone : Movement → List ℕ → Type 0
IsSaidAlone messages text = Quiet messages → Grew messages.old messages.new text

-- what is said where memory, the input or the output failed
abbrev pub memory_text : List ℕ
memory_text = codes "aes3-cells: memory was refused\n"

abbrev pub refusal_text : Refusal → List ℕ
refusal_text Read = codes "aes3-cells: the input can't be read\n"
refusal_text Write = codes "aes3-cells: the output can't be written\n"

-- the figures of a recovery
pub record AreFigures (figures : Figures) (now : Recovery) : Type 0 where
  pub samples : figures.samples ≡ now.figures.samples
  pub cells : figures.cells ≡ now.line.cells
  pub period : now.found ≡ true → figures.period ≡ now.line.follower.period
  pub edges : figures.edges ≡ now.figures.edges
  pub greatest : figures.greatest ≡ now.figures.greatest
  pub squares : figures.squares ≡ now.figures.squares
  pub dead : figures.dead ≡ now.figures.dead
  pub dead_at : figures.dead_at ≡ now.figures.dead_at
  pub measured : figures.measured ≡ now.figures.measured
  pub misses : figures.misses ≡ now.figures.misses

-- the last lines of a capture that was read to its end, after a text of this kind, and the exit status: 0 where a line
-- was found in it, and 1 where none was
abbrev pub IsNoLine : (List ℕ → Type 0) → Job → Figures → Movement → ℕ → Type 0
IsNoLine before job figures messages status =
    (figures.measured ≡ 0) × (status ≡ 1)
    × ((why : List ℕ) × IsSaid before messages (no_line_text figures job.period why))

abbrev pub IsLine : (List ℕ → Type 0) → Job → Figures → Movement → ℕ → Type 0
IsLine before job figures messages status =
    (figures.measured ≢ 0) × (status ≡ 0)
    × ((text : List ℕ) × IsFoundText figures job.rate text × IsSaid before messages text)

-- the same, or memory for that text was refused
pub record EndSaid (before : List ℕ → Type 0) (job : Job) (now : Recovery) (messages : Movement) (status : ℕ)
    : Type 0 where
  pub figures : Figures
  pub are : AreFigures figures now
  pub said : IsNoLine before job figures messages status
      ⊎ (IsLine before job figures messages status ⊎ ((status ≡ 3) × IsSaid before messages memory_text))

-- the cells of samples with these levels, all of which a sink told, by the form and the period of the job: they were
-- written once and in their order, and so were those of a line that lasts, where no period was asked for
pub record AreCellsOf (job : Job) (begun : List ℕ) (told : Option (List ℕ)) (levels : List Level) (now : Recovery)
    : Type 0 where
  pub recovered : RecoveredAll told (setting_of job begun) levels now
  pub lasts : job.period ≡ None → (first : ℕ) (counts : List ℕ) → IsLastingBehind None levels first counts
      → (now.figures.measured ≡ 1) × WritesLine told (setting_of job begun) levels first counts

-- What a run answered of the samples that these octets are, whose line is in this bit, and what it said of that: it read
-- them to their end, or one of the ends failed.
abbrev pub AnswerRan : Job → Option ℕ → Unit → List ℕ → Bool → Recovery → Movement → Movement → Movement → ℕ
    → Result Progress Refusal → Type 0
AnswerRan job found unit octets ended now source sink messages status (Ok progress) =
    (IsTrue ended ⊎ (2 ^ 64 - 1 ≤ length octets)) × Quiet source × Quiet sink
    × EndSaid (IsSaidBefore job found) job now messages status
    × ((begun : List ℕ) → sink.old ≡ Some begun → AreCellsOf job begun sink.new (levels_of_samples unit octets) now)
AnswerRan job found unit octets ended now source sink messages status (Err Read) =
    (status ≡ 3) × Failed source × Quiet sink × IsSaid (IsSaidBefore job found) messages (refusal_text Read)
    × ((begun : List ℕ) → sink.old ≡ Some begun
    → Recovered sink.new (setting_of job begun) (levels_of_samples unit octets) [] now)
AnswerRan job found unit octets ended now source sink messages status (Err Write) =
    (status ≡ 3) × Quiet source × Failed sink × IsSaid (IsSaidBefore job found) messages (refusal_text Write)

-- A job: the octets that the source gave in it, whose samples have the line in the bit of the job, or else in that which
-- was found; what the recovery is at the end, and what was answered.
pub record JobRan (job : Job) (found : Option ℕ) (ended : Bool) (source sink messages : Movement) (status : ℕ)
    : Type 0 where
  pub octets : List ℕ
  pub given : Grew source.old source.new octets
  pub now : Recovery
  pub answer : Result Progress Refusal
  pub ran : AnswerRan job found (unit_of_job job found) octets ended now source sink messages status answer

-- words that ask for no job: why not is among the messages, and help in the output
abbrev pub FaultRan : LineFault → Movement → Movement → ℕ → Type 0
FaultRan (fault.Usage text) sink messages status =
    (status ≡ 2) × (sink.new ≡ sink.old) × Quiet sink × IsSaidAlone messages text.bytes.items
FaultRan (fault.Help text) sink messages status =
    ((status ≡ 0) × Quiet sink × Grew sink.old sink.new text.bytes.items × (messages.new ≡ messages.old) × Quiet messages)
    ⊎ ((status ≡ 3) × Failed sink × IsSaidAlone messages (refusal_text Write))
FaultRan fault.Memory sink messages status =
    (status ≡ 3) × (sink.new ≡ sink.old) × Quiet sink × IsSaidAlone messages memory_text

-- words that could not be read: what is said of that
abbrev pub UnreadSaid : Unread → Movement → ℕ → Type 0
UnreadSaid unread.NotUtf8 messages status =
    (status ≡ 2) × IsSaidAlone messages (codes "aes3-cells: the words are not UTF-8\n")
UnreadSaid unread.Memory messages status = (status ≡ 3) × IsSaidAlone messages memory_text
