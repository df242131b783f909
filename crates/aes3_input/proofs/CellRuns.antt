-- Runs over cells.
use Rattle.std.proofs.Common.{◌≡◌, ◌≢◌, ℕ, ◌≤◌, Bool, List, length, take, Result, Ok, Err, refl, ap, arith}
use Rattle.std.proofs.lemmas.List.{take_all}
use Rattle.aes3_level.specs.declared.level.Level.{Level}
use Rattle.aes3_cell.specs.declared.form.Form.{Form}
use Rattle.aes3_cell.specs.declared.form.Form.TheVariants.{Text, Packed}
use Rattle.aes3_refusals.specs.declared.run_error.RunError.{RunError}
use Rattle.aes3_refusals.specs.declared.run_error.RunError.TheVariants.{BadCell, BadLength, BadCode, BadParity, Read, Write}
use Rattle.aes3_refusals.specs.declared.run_error.RunError.TheVariants.{TooLong, Memory, BadStatusText, BadPadding, BadSample}
use Rattle.aes3_refusals.specs.declared.run_error.RunError.TheVariants.{SoundHeader, Inexact}
use Rattle.aes3_cell.specs.declared.counts.Counts.{Counts}
use Rattle.aes3_cell.specs.CellText.{good}
use Rattle.aes3_input.specs.Running.{Ends}
use Rattle.aes3_input.specs.Taking.{Writing, before_end, with_end}
use Rattle.aes3_input.specs.Inputs.{IsInput, cells_of, BadByteAt, BadEndAt}
use Rattle.aes3_input.specs.Driving.{IsCause, Drive, CellRun, over_cells}
use Rattle.aes3_input.proofs.InputRuns.{Gives, run-ok, run-err, run-is}

-- the same said of what cells write in other words
pub cells-give : {A B : Type 0} (form : Form) {whole begun : List Level → List ℕ} {answer : List ℕ → A → Type 0}
    (g h : List Level → List ℕ) {answer' : List ℕ → B → Type 0}
    → ((c : List Level) → whole c ≡ g c) → ((c : List Level) → begun c ≡ h c)
    → Gives (over_cells form whole begun answer) (over_cells form g h answer')
cells-give form g h p q = record {
  input = λ b i. i;
  whole = λ b i. p _;
  begun = λ b. q _;
  cause
      = λ max b ended e c. c;
}

-- a run of `drive` that was not refused, and one that was
pub drove-ok : {max : ℕ} {form : Form} {w : Writing Level} {f z : List Level → Type 0}
    (whole begun : List Level → List ℕ) (counts : List ℕ → Counts)
    {ends : Ends} {bytes cells : ℕ} (n : Counts)
    → ((c : List Level) → with_end w c ≡ whole c) → ((c : List Level) → before_end w c ≡ begun c)
    → ((b : List ℕ) → bytes ≡ length b → cells ≡ length (cells_of form b) → z (cells_of form b) → n ≡ counts b)
    → Drive max form w f z ends (Ok (bytes, cells))
    → CellRun max form (record { whole = whole; begun = begun; counts = counts }) ends (Ok n)
drove-ok {form = form} whole begun counts n p q k r
    = run-ok (cells-give form whole begun p q) (λ b i h. k b h.1 h.2 h.0) r.run

pub drove-err : {max : ℕ} {form : Form} {w : Writing Level} {f z : List Level → Type 0}
    (whole begun : List Level → List ℕ) (counts : List ℕ → Counts)
    {ends : Ends} {x : RunError}
    → ((c : List Level) → with_end w c ≡ whole c) → ((c : List Level) → before_end w c ≡ begun c)
    → Drive max form w f z ends (Err x)
    → CellRun max form (record { whole = whole; begun = begun; counts = counts }) ends (Err x)
drove-err {form = form} whole begun counts p q r = run-err (cells-give form whole begun p q) r.run

pub cells-run : {max : ℕ} (form : Form)
    {whole begun : List Level → List ℕ} {counts : List ℕ
    → Counts} {ends : Ends} {r : Result Counts RunError} (g h : List Level → List ℕ)
    → ((c : List Level) → whole c ≡ g c) → ((c : List Level) → begun c ≡ h c)
    → CellRun max form (record { whole = whole; begun = begun; counts = counts }) ends r
    → CellRun max form (record { whole = g; begun = h; counts = counts }) ends r
cells-run form g h p q run = run-is (cells-give form g h p q) (λ b n e. e) run

-- an input of cells that fits has no cause
no-bad-byte : (form : Form) (max : ℕ) (b : List ℕ) (at : ℕ) → IsInput form b → length b ≤ max
    → BadByteAt form (take max b) at → ⊥
no-bad-byte Text max b at c l h
    = let e = take_all max b l in let v = h.0 in let w = h.1 in let g = ap good e in let n = ap length e in let i = c.is
    in omega arith
no-bad-byte Packed max b at c l h = h

no-bad-end : (form : Form) (b : List ℕ) (at : ℕ) → IsInput form b → BadEndAt form b at → ⊥
no-bad-end Text b at c h = h
no-bad-end Packed b at c h = h.0 c

pub no-cell-cause : (form : Form) (max : ℕ) (b : List ℕ) (ended : Bool) → IsInput form b → length b ≤ max
    → (e : RunError) → e ≢ Read → e ≢ Write → IsCause form max b ended e → ⊥
no-cell-cause form max b ended i l Read r w h = r refl
no-cell-cause form max b ended i l Write r w h = w refl
no-cell-cause form max b ended i l TooLong r w h = let n = h.1 in omega arith
no-cell-cause form max b ended i l (BadCell at) r w h = no-bad-byte form max b at i l h
no-cell-cause form max b ended i l (BadPadding at) r w h = no-bad-end form b at i h.0
no-cell-cause form max b ended i l (BadLength n) r w h = h
no-cell-cause form max b ended i l (BadCode n) r w h = h
no-cell-cause form max b ended i l (BadParity n) r w h = h
no-cell-cause form max b ended i l Memory r w h = h
no-cell-cause form max b ended i l BadStatusText r w h = h
no-cell-cause form max b ended i l (BadSample n) r w h = h
no-cell-cause form max b ended i l SoundHeader r w h = h
no-cell-cause form max b ended i l (Inexact n) r w h = h
