-- Runs that read cells and write something of each report.
use Rattle.std.proofs.Common.{◌≡◌, ℕ, Bool, List, [], ◌++◌, length, Ok, Err, ap, ap₂, ◌∙◌}
use Rattle.std.specs.List.{filter}
use Rattle.aes3_level.specs.declared.level.Level.{Level}
use Rattle.aes3_cell.specs.declared.form.Form.{Form}
use Rattle.aes3_refusals.specs.declared.run_error.RunError.{RunError}
use Rattle.aes3_cell.specs.declared.counts.Counts.{Counts}
use Rattle.aes3_lock.specs.declared.report.Report.{Report}
use Rattle.aes3_lock.specs.declared.tally.Tally.{Tally}
use Rattle.aes3_lock.specs.Reports.{reports, decided, wholes, blocks}
use Rattle.aes3_lock.specs.Tallies.{is_faulty, IsTallyOf, Tallies}
use Rattle.aes3_input.specs.Running.{Ends, InputRun}
use Rattle.aes3_input.specs.Taking.{Writing, before_end, with_end}
use Rattle.aes3_input.specs.Inputs.{cells_of}
use Rattle.aes3_input.specs.Driving.{counted_cells, Drive, over_cells}
use Rattle.aes3_input.proofs.CellRuns.{cells-give}
use Rattle.aes3_input.proofs.InputRuns.{Gives, run-ok, run-err}
use Rattle.aes3_lock_runs.specs.Reporting.{reporting}
use Rattle.aes3_lock_runs.specs.ReportRuns.{counts_of, heard_cells, output, report_writing, ReportRun, told_reports}
use Rattle.aes3_lock_runs.proofs.Reports.{before-reports, with-reports}
use Rattle.aes3_lock_runs.proofs.ReportLemmas.{before-output, with-output}

-- the counts
pub counted : (form : Form) (b : List ℕ) (bytes cells blocks faults unfinished : ℕ) → bytes ≡ length b
    → cells ≡ length (cells_of form b) → Tallies blocks faults unfinished (reports (cells_of form b))
    → record {
      bytes = bytes;
      cells = cells;
      blocks = blocks;
      faults = faults;
      unfinished = unfinished;
      marks = 0;
    } ≡ counts_of form b
unfolding counts_of blocks
counted form b n c k f u e d t =
    let r = reports (cells_of form b) in
    ap₂ (λ (x y : ℕ). record { bytes = x; cells = y; blocks = k; faults = f; unfinished = u; marks = 0 }) e d
    ∙ ap₂ (λ (x y : ℕ). record {
      bytes = length b;
      cells = length (cells_of form b);
      blocks = x;
      faults = y;
      unfinished = u;
      marks = 0;
    }) t.blocks_is t.faults_is
    ∙ ap (λ (x : ℕ). record {
      bytes = length b;
      cells = length (cells_of form b);
      blocks = length (wholes r);
      faults = length (filter is_faulty r);
      unfinished = x;
      marks = 0;
    }) t.unfinished_is

-- the run of a listener
pub none-counted : {t : Tally} → IsTallyOf t [] → IsTallyOf t (decided [])
unfolding decided
none-counted h = h

gives-same : {A B : Type 0} (form : Form) {w v : Writing Level} {answer : List ℕ → A → Type 0}
    {answer' : List ℕ → B → Type 0} → w ≡ v
    → Gives (over_cells form (with_end w) (before_end w) answer) (over_cells form (with_end v) (before_end v) answer')
gives-same form {v = v} e = cells-give form (with_end v) (before_end v)
    (λ c. ap (λ (u : Writing Level). with_end u c) e) (λ c. ap (λ (u : Writing Level). before_end u c) e)

pub heard-ok : {A : Type 0} {max : ℕ} {form : Form} {w v : Writing Level} {f : List Level → Type 0}
    (z : A → List Level → Type 0) {t : Tally} {m : A} {n : Counts} {ends : Ends}
    {bytes cells : ℕ} → w ≡ v
    → ((b : List ℕ) → bytes ≡ length b → cells ≡ length (cells_of form b)
    → IsTallyOf t (reports (cells_of form b)) → n ≡ counts_of form b)
    → Drive max form w f (λ c. IsTallyOf t (reports c) × z m c) ends (Ok (bytes, cells))
    → InputRun (heard_cells form v z) max ends (Ok (n, m))
heard-ok {form = form} z e k r = run-ok (gives-same form e) (λ b i h. (k b h.1 h.2 h.0.0, h.0.1)) r.run

pub heard-err : {A : Type 0} {max : ℕ} {form : Form} {w v : Writing Level} {f y : List Level → Type 0}
    (z : A → List Level → Type 0) {ends : Ends} {x : RunError} → w ≡ v
    → Drive max form w f y ends (Err x)
    → InputRun (heard_cells form v z) max ends (Err x)
heard-err {form = form} z e r = run-err (gives-same form e) r.run

-- that of a reporter
pub none-told : (follows : List Report → Type 0) → follows [] → follows (decided [])
unfolding decided
none-told follows h = h

pub gives-told : {A B : Type 0} (form : Form) (w : Writing Report) (y : A → List Level → Type 0)
    (z : B → List Report → Type 0) → Gives (heard_cells form (reporting w) y) (told_reports form w z)
gives-told form w y z = cells-give form (λ c. with_end w (reports c)) (λ c. before_end w (decided c))
    (with-reports w) (before-reports w)

-- one that gives each report its bytes
gives-bytes : {A : Type 0} (form : Form) (f : ℕ → Report → List ℕ) (e : List ℕ) (z : A → List Report → Type 0)
    → Gives (told_reports form (report_writing f e) z) (counted_cells form (λ c. output f (reports c) ++ e)
    (λ c. output f (decided c)) (counts_of form))
gives-bytes form f e z = cells-give form (λ c. output f (reports c) ++ e) (λ c. output f (decided c))
    (λ c. with-output f e (reports c)) (λ c. before-output f e (decided c))

pub told-ok : {A : Type 0} {max : ℕ} (form : Form) (f : ℕ → Report → List ℕ) (e : List ℕ)
    (z : A → List Report → Type 0) {m : A} {n : Counts} {ends : Ends}
    → InputRun (told_reports form (report_writing f e) z) max ends (Ok (n, m))
    → ReportRun max form f e ends (Ok n)
told-ok form f e z r = run-ok (gives-bytes form f e z) (λ b i h. h.0) r

pub told-err : {A : Type 0} {max : ℕ} (form : Form) (f : ℕ → Report → List ℕ) (e : List ℕ)
    (z : A → List Report → Type 0) {ends : Ends} {x : RunError}
    → InputRun (told_reports form (report_writing f e) z) max ends (Err x)
    → ReportRun max form f e ends (Err x)
told-err form f e z r = run-err (gives-bytes form f e z) r
