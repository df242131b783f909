-- What a run over cells answers, and what its taker has been given then.
use Rattle.std.specs.Prelude.{ℕ, List, Bool, Result, Ok, Err, ◌≡◌, ◌≤◌, ◌+◌, IsTrue, length, take}
use Rattle.aes3_level.specs.declared.level.Level.{Level}
use Rattle.aes3_cell.specs.declared.form.Form.{Form}
use Rattle.aes3_cell.specs.declared.counts.Counts.{Counts}
use Rattle.aes3_refusals.specs.declared.run_error.RunError.{RunError}
use Rattle.aes3_refusals.specs.declared.run_error.RunError.TheVariants.{BadCell, BadLength, BadCode, BadParity, Read, Write}
use Rattle.aes3_refusals.specs.declared.run_error.RunError.TheVariants.{TooLong, Memory, BadStatusText, BadPadding, BadSample}
use Rattle.aes3_refusals.specs.declared.run_error.RunError.TheVariants.{SoundHeader, Inexact}
use Rattle.aes3_input.specs.Running.{Ends, Promise, InputRun}
use Rattle.aes3_input.specs.Taking.{Writing, before_end, with_end}
use Rattle.aes3_input.specs.Inputs.{IsInput, cells_of, cells_before, NoBadByte, BadByteAt, BadEndAt}

-- why a run over cells that read the bytes b was refused
abbrev pub IsCause : Form → ℕ → List ℕ → Bool → RunError → Type 0
IsCause form max b ended (BadCell at) = BadByteAt form (take max b) at
IsCause form max b ended TooLong = NoBadByte form (take max b) × (length b ≡ max + 1)
IsCause form max b ended Read = NoBadByte form b × (length b ≤ max)
IsCause form max b ended Write = length b ≤ max + 1
IsCause form max b ended (BadPadding at) = BadEndAt form b at × (length b ≤ max) × IsTrue ended
IsCause form max b ended (BadLength left) = ⊥
IsCause form max b ended (BadCode at) = ⊥
IsCause form max b ended (BadParity at) = ⊥
IsCause form max b ended Memory = ⊥
IsCause form max b ended BadStatusText = ⊥
IsCause form max b ended (BadSample at) = ⊥
IsCause form max b ended SoundHeader = ⊥
IsCause form max b ended (Inexact at) = ⊥

-- what a run over cells promises, of which all write `whole` and cells behind which more may come `begun`
abbrev pub over_cells : {A : Type 0} → Form → (List Level → List ℕ) → (List Level → List ℕ) → (List ℕ → A → Type 0)
    → Promise A
over_cells form whole begun answer = record {
  input = IsInput form;
  whole = λ b. whole (cells_of form b);
  begun = λ b. begun (cells_before form b);
  answer = answer;
  cause = IsCause form;
}

-- the same where the answer counts as `counts` says: what every command that reads cells promises, and such a run
abbrev pub counted_cells : Form → (List Level → List ℕ) → (List Level → List ℕ) → (List ℕ → Counts) → Promise Counts
counted_cells form whole begun counts = over_cells form whole begun (λ b n. n ≡ counts b)

-- What a command that reads cells promises of them.
-- whole: what it writes of an input's cells
-- begun: what it writes of cells behind which more may come
-- counts: what it counts of an input's bytes
pub record CellPromise : Type 0 where
  pub whole : List Level → List ℕ
  pub begun : List Level → List ℕ
  pub counts : List ℕ → Counts

abbrev pub CellRun : ℕ → Form → CellPromise → Ends → Result Counts RunError → Type 0
CellRun max form p = InputRun (counted_cells form p.whole p.begun p.counts) max

-- what driving a taker promises, of which z holds then: how many bytes and cells there are; the taker was given exactly
-- the cells
abbrev pub driven : Form → Writing Level → (List Level → Type 0) → Promise (ℕ × ℕ)
driven form w z =
    over_cells form (with_end w) (before_end w)
    (λ b n. z (cells_of form b) × (n.0 ≡ length b) × (n.1 ≡ length (cells_of form b)))

-- what holds where a run over the bytes b was refused, and not by the sink: f of the cells before
abbrev pub LeftCells : ℕ → Form → (List Level → Type 0) → List ℕ → Result (ℕ × ℕ) RunError → Type 0
LeftCells max form f b (Ok n) = Unit {0}
LeftCells max form f b (Err Write) = Unit {0}
LeftCells max form f b (Err e) = f (cells_before form (take max b))

-- the run that drives a taker
pub record Drive (max : ℕ) (form : Form) (w : Writing Level) (f z : List Level → Type 0) (ends : Ends)
    (result : Result (ℕ × ℕ) RunError) : Type 0 where
  pub run : InputRun (driven form w z) max ends result
  pub left : LeftCells max form f run.bytes result
