-- Samples behind the header of a WAV file, which leaves before the first block that is given.
use Rattle.std.specs.Prelude.{ℕ, List, [], ◌∷◌, ◌++◌, Bool, true, false, Option, Some, None, is_some, ◌≡◌}
use Rattle.aes3_cell.specs.declared.form.Form.{Form}
use Rattle.aes3_level.specs.declared.level.Level.{Level}
use Rattle.aes3_input.specs.Driving.{over_cells}
use Rattle.aes3_input.specs.Inputs.{cells_of}
use Rattle.aes3_input.specs.Running.{Promise}
use Rattle.aes3_input.specs.Taking.{Writing, before_end, with_end}
use Rattle.aes3_lock.specs.declared.report.Report.{Report}
use Rattle.aes3_lock.specs.Reports.{decided, reports}
use Rattle.aes3_lock_runs.specs.ReportRuns.{counts_of}
use Rattle.aes3_wave.specs.declared.header_writing.Depth.{Depth}
use Rattle.aes3_wave_runs.specs.declared.headed.Header.{Header}
use Rattle.aes3_wave_runs.specs.declared.options.WaveWritten.{WaveWritten}
use Rattle.aes3_wave_runs.specs.ToWav.{IsNamed, first_given, header_by, named_first, named_in, opened_by}

-- With the report of the first block that is given from now on, if there is one: whether the header is written, what
-- the first block of all names, and what is written of the header then.
abbrev pub open_after : Bool → Option Report → Bool
open_after true o = true
open_after false o = is_some o

abbrev pub named_after : Bool → Option ℕ → Option Report → Option ℕ
named_after true named o = named
named_after false named None = named
named_after false named (Some x) = named_in x

abbrev pub opened_after : Depth → Option ℕ → Bool → Option Report → List ℕ
opened_after depth rate true o = []
opened_after depth rate false o = opened_by depth rate o

-- what the end writes of it
abbrev pub close_of : Depth → Option ℕ → Bool → List ℕ
close_of depth rate true = []
close_of depth rate false = header_by depth rate None

-- whether the header is written behind these reports, and what the first block names
pub record IsOpened (marked : Bool) (k : Header) (r : List Report) : Type 0 where
  pub is : k.is_written ≡ is_some (first_given marked r)
  pub first : k.named ≡ named_first (first_given marked r)

-- before the first block that is given nothing is written
abbrev pub IsQuiet : Bool → Writing Level → Type 0
IsQuiet marked w = (c : List Level) → first_given marked (decided c) ≡ None → before_end w c ≡ []

-- what is written behind the header
unfoldable pub headed : Bool → Depth → Option ℕ → Writing Level → Writing Level
headed marked depth rate w = record {
  adds = λ c l.
      opened_after depth rate (is_some (first_given marked (decided c)))
      (first_given marked (decided (c ++ l ∷ []))) ++ w.adds c l;
  ends = λ c.
      opened_after depth rate (is_some (first_given marked (decided c))) (first_given marked (reports c))
      ++ (close_of depth rate (is_some (first_given marked (reports c))) ++ w.ends c);
}

-- what a run promises that writes so, and answers the listener too that makes the samples, of which z holds then
abbrev pub headed_cells : {A : Type 0} → Form → Depth → Option ℕ → Bool → Writing Level → (A → List Level → Type 0)
    → Promise (WaveWritten × A)
headed_cells form depth rate marked w z =
    over_cells form
    (λ c. header_by depth rate (first_given marked (reports c)) ++ with_end w c)
    (λ c. opened_by depth rate (first_given marked (decided c)) ++ before_end w c)
    (λ b n. (n.0.counts ≡ counts_of form b) × IsNamed form marked b n.0.named × z n.1 (cells_of form b))
