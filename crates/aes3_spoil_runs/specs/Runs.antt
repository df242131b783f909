-- What the program does for a job, and for words that ask for none.
use Rattle.std.specs.Prelude.{ℕ, List, Option, Result, Ok, Err, IsTrue, ◌≡◌, ◌≢◌, ◌≤◌, ◌+◌, ◌^◌, ◌⊎◌, length}
use Rattle.aes3_cli.specs.declared.fault.LineFault.{LineFault}
use Rattle.aes3_cli.specs.declared.fault.LineFault.TheVariants as fault
use Rattle.aes3_cell.specs.Ends.{Grew}
use Rattle.aes3_cell.specs.Written.{bytes_of}
use Rattle.aes3_cell.specs.declared.counts.Counts.{Counts}
use Rattle.aes3_refusals.specs.declared.run_error.RunError.{RunError}
use Rattle.aes3_refusals.specs.declared.run_error.RunError.TheVariants as refusal
use Rattle.aes3_input.specs.Driving.{CellPromise, CellRun}
use Rattle.aes3_input.specs.Inputs.{IsInput}
use Rattle.aes3_input.specs.Running.{Ends, Failed, Movement, Quiet}
use Rattle.aes3_capture_recovery.specs.Endings.{finished}
use Rattle.aes3_spoil.specs.Spoiled.{spoiled}
use Rattle.aes3_spoil.specs.Spoiling.{spoil_counts, whole_words}
use Rattle.aes3_spoil_runs.specs.Lines.{not_utf8_text, refusal_line}
use Rattle.aes3_spoil_runs.specs.declared.spoil_job.Job.{Job}
use Rattle.aes3_cli.specs.declared.unread.Unread.{Unread}
use Rattle.aes3_cli.specs.declared.unread.Unread.TheVariants as unread

-- how many bytes an input may have
abbrev pub most : ℕ
most = 2 ^ 40

-- what a job promises: what it writes of an input's cells, what of cells after which more may come, and what it counts
abbrev pub promise_of : Job → CellPromise
promise_of job = record {
  whole = λ c. finished job.output (spoiled job.errors c);
  begun = λ c. bytes_of job.output (whole_words (spoiled job.errors c));
  counts = spoil_counts job.input;
}

-- a run of a job
abbrev pub RunRan : Job → Ends → Result Counts RunError → Type 0
RunRan job = CellRun most job.input (promise_of job)

-- a refusal after which the sink was flushed: it stays what it was, or that failed
abbrev pub Flushed : RunError → Movement → RunError → Type 0
Flushed error sink last =
    (sink.new ≡ sink.old)
    × (((last ≡ error) × Quiet sink) ⊎ ((error ≢ refusal.Write) × (last ≡ refusal.Write) × Failed sink))

-- how a sink moved up to its last flush, which takes no byte, where it had failed so often then
abbrev pub before_flush : Movement → ℕ → Movement
before_flush sink failed = record { old = sink.old; new = sink.new; failed_old = sink.failed_old; failed_new = failed }

-- the line of a refusal is among the messages, where these take it
abbrev pub IsReported : Movement → RunError → Type 0
IsReported messages error = Quiet messages → Grew messages.old messages.new (refusal_line error)

-- the exit status of a run with this answer, and what is written among the messages: nothing where it read its input to the
-- end; of a refusal its line, or that of `Write` where the flush after it failed
abbrev pub AnswerReported : Result Counts RunError → ℕ → Movement → Movement → ℕ → Type 0
AnswerReported (Ok n) failed sink messages status =
    (status ≡ 0) × (sink.failed_new ≡ failed) × (messages.new ≡ messages.old) × Quiet messages
AnswerReported (Err error) failed sink messages status =
    (status ≡ 3)
    × (((sink.failed_new ≡ failed) × IsReported messages error)
    ⊎ ((error ≢ refusal.Write) × (sink.failed_new ≡ failed + 1) × IsReported messages refusal.Write))

-- a job: what its run answered; how often the sink had failed by then, and what it had passed on, of which no more is
-- said here; and what is reported of the answer
pub record JobRan (job : Job) (ends : Ends) (messages : Movement) (status : ℕ) : Type 0 where
  pub answer : Result Counts RunError
  pub failed : ℕ
  pub passed : Option (List ℕ)
  pub run : RunRan job (record ends { sink = before_flush ends.sink failed; passed = passed }) answer
  pub reported : AnswerReported answer failed ends.sink messages status

-- the bytes are an input of the job, of no more than it may have; the source has ended after them, and neither end has
-- failed
pub record IsDone (job : Job) (b : List ℕ) (ends : Ends) : Type 0 where
  pub input : IsInput job.input b
  pub few : length b ≤ most
  pub end : IsTrue ends.ended
  pub read : Quiet ends.source
  pub written : Quiet ends.sink

-- words that ask for no job: why not is among the messages, and help in the output
abbrev pub FaultRan : LineFault → Movement → Movement → ℕ → Type 0
FaultRan (fault.Usage text) sink messages status =
    (status ≡ 2) × (sink.new ≡ sink.old) × Quiet sink × (Quiet messages → Grew messages.old messages.new text.bytes.items)
FaultRan (fault.Help text) sink messages status =
    ((status ≡ 0) × Quiet sink × Grew sink.old sink.new text.bytes.items × (messages.new ≡ messages.old) × Quiet messages)
    ⊎ ((status ≡ 3) × Failed sink × IsReported messages refusal.Write)
FaultRan fault.Memory sink messages status =
    (status ≡ 3) × (sink.new ≡ sink.old) × Quiet sink × IsReported messages refusal.Memory

-- words that ask for a job, which is run; or for none, which is reported, and nothing is read
abbrev pub LineRan : Result Job LineFault → Ends → Movement → ℕ → Type 0
LineRan (Ok job) ends messages status = JobRan job ends messages status
LineRan (Err why) ends messages status =
    (ends.source.new ≡ ends.source.old) × Quiet ends.source × FaultRan why ends.sink messages status

-- words that could not be read: what is reported of that
abbrev pub UnreadReported : Unread → Movement → ℕ → Type 0
UnreadReported unread.NotUtf8 messages status = (status ≡ 2) × (Quiet messages → Grew messages.old messages.new not_utf8_text)
UnreadReported unread.Memory messages status = (status ≡ 3) × IsReported messages refusal.Memory
