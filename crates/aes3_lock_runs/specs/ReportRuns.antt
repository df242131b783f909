-- Runs that read cells and write something of each report.
use Rattle.std.specs.Prelude.{ℕ, List, [], ◌∷◌, ◌++◌, Bool, ◌+◌, ◌≡◌, Result, length}
use Rattle.std.specs.List.{filter}
use Rattle.aes3_level.specs.declared.level.Level.{Level}
use Rattle.aes3_cell.specs.declared.form.Form.{Form}
use Rattle.aes3_refusals.specs.declared.run_error.RunError.{RunError}
use Rattle.aes3_cell.specs.declared.counts.Counts.{Counts}
use Rattle.aes3_lock.specs.declared.report.Report.{Report}
use Rattle.aes3_lock.specs.Reports.{reports, decided, wholes, blocks}
use Rattle.aes3_lock.specs.Tallies.{is_faulty, is_unfinished}
use Rattle.aes3_input.specs.Taking.{Writing, before_end, with_end}
use Rattle.aes3_input.specs.Running.{Ends, Promise}
use Rattle.aes3_input.specs.Inputs.{cells_of}
use Rattle.aes3_input.specs.Driving.{CellRun, over_cells}

-- what a run over a whole input of cells counts
unfoldable pub counts_of : Form → List ℕ → Counts
counts_of form b = record {
  bytes = length b;
  cells = length (cells_of form b);
  blocks = length (blocks (cells_of form b));
  faults = length (filter is_faulty (reports (cells_of form b)));
  unfinished = length (filter is_unfinished (reports (cells_of form b)));
  marks = 0;
}

-- a report behind n whole blocks gives bytes; those of reports one behind the other, the first behind n whole blocks
abbrev pub output_from : (ℕ → Report → List ℕ) → ℕ → List Report → List ℕ
output_from f n [] = []
output_from f n (x ∷ r) = f n x ++ output_from f (n + length (wholes (x ∷ []))) r

abbrev pub output : (ℕ → Report → List ℕ) → List Report → List ℕ
output f r = output_from f 0 r

-- what each report writes, and the end
unfoldable pub report_writing : (ℕ → Report → List ℕ) → List ℕ → Writing Report
report_writing f ending = record { adds = λ r x. f (length (wholes r)) x; ends = λ r. ending }

-- What a run promises that lets a listener hear of the cells, which write so; it answers what it counts, and the
-- listener, of which z holds then. And the same of a reporter that is told of the reports.
abbrev pub heard_cells : {A : Type 0} → Form → Writing Level → (A → List Level → Type 0) → Promise (Counts × A)
heard_cells form w z =
    over_cells form (with_end w) (before_end w) (λ b n. (n.0 ≡ counts_of form b) × z n.1 (cells_of form b))

abbrev pub told_reports : {A : Type 0} → Form → Writing Report → (A → List Report → Type 0) → Promise (Counts × A)
told_reports form w z =
    over_cells form (λ c. with_end w (reports c)) (λ c. before_end w (decided c))
    (λ b n. (n.0 ≡ counts_of form b) × z n.1 (reports (cells_of form b)))

-- a run over cells that gives each report its bytes, and at the end e
abbrev pub ReportRun : ℕ → Form → (ℕ → Report → List ℕ) → List ℕ → Ends → Result Counts RunError → Type 0
ReportRun max form f e = CellRun max form (record {
  whole = λ c. output f (reports c) ++ e;
  begun = λ c. output f (decided c);
  counts = counts_of form;
})
