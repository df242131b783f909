-- What is kept and written of a line of which sums are told, as its cells come.
use Rattle.std.proofs.Common.{◌≡◌, ℕ, ◌-◌, ◌^◌, ◌<◌, ◌≤◌, List, [], ◌∷◌, ◌++◌, length, sym, ap, ap₂, ◌∙◌, subst, arith}
use Rattle.aes3_level.specs.declared.level.Level.{Level}
use Rattle.aes3_cell.specs.declared.form.Form.{Form}
use Rattle.aes3_frame.specs.Blocks.{block_len, block_subframes}
use Rattle.aes3_lock.specs.declared.report.Report.{Report}
use Rattle.aes3_lock.specs.Reports.{reports, decided}
use Rattle.aes3_input.specs.Taking.{behind}
use Rattle.aes3_input.specs.Driving.{counted_cells}
use Rattle.aes3_input.proofs.CellRuns.{cells-give}
use Rattle.aes3_input.proofs.InputRuns.{Gives}
use Rattle.aes3_lock_runs.specs.ReportRuns.{heard_cells}
use Rattle.aes3_status.specs.declared.style.Style.{Style}
use Rattle.aes3_watch.specs.Watching.{IsKept, watch_counts, Watches}
use Rattle.aes3_watch.specs.declared.summed.Summed.{Summed}
use Rattle.aes3_watch.specs.Sums.{all_told, begun_sums, go_to, sum_lines, next_sum, notice_lines, report_told, summed, summing}
use Rattle.aes3_watch.specs.Sums.{first_period, more, on_to, periods, Sums, told_to, unsummed, with_period}
use Rattle.aes3_lock_gaps.specs.Gaps.{behind_full, full_count}
use Rattle.aes3_watch.specs.declared.watching.Watched.{Watched}
use Rattle.aes3_watch.specs.declared.period.Period.{Period}
use Rattle.aes3_watch.proofs.WatchedCells.{pass-watches, take-watches}
use Rattle.aes3_watch.proofs.Sums.{before-sums, behind-lines, ends-lines, with-sums, go-at, lines-join, next-at, notices-closed}
use Rattle.aes3_watch.proofs.Sums.{notices-closed_with, notices-passed, notices-taken, none-before, summed-known}
use Rattle.aes3_watch.proofs.Sums.{summed-passed, summed-taken}

-- cells that decide no report
pub passed-sums : {every : ℕ} {u : Summed} {lasts : List ℕ} (v : Summed) (s : ℕ) (c d : List Level)
    → Sums every u lasts c
    → decided (c ++ d) ≡ decided c → s ≡ length (c ++ d) - block_len → v ≡ go_to every u s
    → Sums every v lasts (c ++ d)
passed-sums {every} {u} v s c d h q e g = record {
  some = h.some;
  few = h.few;
  state_is = g ∙ ap₂ (go_to every) h.state_is e ∙ sym (summed-passed every c d h.some q);
  watches = pass-watches v.watched s c d h.watches q e (go-at every u v s h.some g);
}

pub passed-lines : (style : Style) (every : ℕ) (u : Summed) (s : ℕ) (c d : List Level) → 0 < every
    → u ≡ summed every c → s ≡ length (c ++ d) - block_len → decided (c ++ d) ≡ decided c
    → notice_lines style (told_to every u s) ≡ behind (summing style every) c d
passed-lines style every u s c d h e f q =
    ap (notice_lines style) (ap₂ (told_to every) e f)
    ∙ behind-lines style every c d (told_to every (summed every c) (length (c ++ d) - block_len)) h
    (notices-passed every c d h q)

-- a report, and cells behind it
pub taken-sums : {every : ℕ} {u : Summed} {lasts : List ℕ} {lasts' : List ℕ} (v w : Summed)
    (s : ℕ) (c d : List Level) (x : Report)
    → Sums every u lasts c
    → decided (c ++ d) ≡ decided c ++ x ∷ [] → s ≡ length (c ++ d) - block_len → v ≡ next_sum every u x
    → IsKept v.watched.latest lasts' → w ≡ go_to every v s
    → Sums every w lasts' (c ++ d)
taken-sums {every} {u} v w s c d x h q e g m l = record {
  some = h.some;
  few = h.few;
  state_is = l ∙ ap₂ (go_to every) (g ∙ ap (λ y. next_sum every y x) h.state_is) e
      ∙ sym (summed-taken every c d x h.some q);
  watches = take-watches v.watched w.watched s c d x h.watches q e (next-at every u v x h.some g) m
      (go-at every v w s h.some l);
}

pub taken-lines : (style : Style) (every : ℕ) (u v : Summed) (s : ℕ) (c d : List Level) (x : Report) → 0 < every
    → u ≡ summed every c → v ≡ next_sum every u x → s ≡ length (c ++ d) - block_len
    → decided (c ++ d) ≡ decided c ++ x ∷ []
    → notice_lines style (report_told every u x) ++ notice_lines style (told_to every v s)
    ≡ behind (summing style every) c d
taken-lines style every u v s c d x h e g f q =
    sym (lines-join style (report_told every u x) (told_to every v s))
    ∙ ap (notice_lines style) (ap₂ (λ y z. report_told every u x ++ told_to every y z) g f
    ∙ ap (λ y. report_told every y x ++ told_to every (next_sum every y x) (length (c ++ d) - block_len)) e)
    ∙ behind-lines style every c d (report_told every (summed every c) x
    ++ told_to every (next_sum every (summed every c) x) (length (c ++ d) - block_len)) h
    (notices-taken every c d x h q)

-- the end
pub closed-lines : (style : Style) (every : ℕ) (u : Summed) (n : ℕ) (c : List Level) → 0 < every → u ≡ summed every c
    → n ≡ length c → reports c ≡ decided c ++ []
    → notice_lines style (all_told every u n) ≡ (summing style every).ends c
closed-lines style every u n c h e f q =
    ap (notice_lines style) (ap₂ (all_told every) e f)
    ∙ ends-lines style every c (all_told every (summed every c) (length c)) (notices-closed every c h q)

pub closed_with-lines : (style : Style) (every : ℕ) (u v : Summed) (n : ℕ) (c : List Level) (x : Report) → 0 < every
    → u ≡ summed every c → v ≡ next_sum every u x → n ≡ length c → reports c ≡ decided c ++ x ∷ []
    → notice_lines style (report_told every u x) ++ notice_lines style (all_told every v n)
    ≡ (summing style every).ends c
closed_with-lines style every u v n c x h e g f q =
    sym (lines-join style (report_told every u x) (all_told every v n))
    ∙ ap (notice_lines style) (ap₂ (λ y z. report_told every u x ++ all_told every y z) g f
    ∙ ap (λ y. report_told every y x ++ all_told every (next_sum every y x) (length c)) e)
    ∙ ends-lines style every c (report_told every (summed every c) x
    ++ all_told every (next_sum every (summed every c) x) (length c)) (notices-closed_with every c x h q)

-- the same of what is kept behind calls that leave some of it as it was
pub same-sums : (every every' : ℕ) (v : Summed) (lasts lasts' : List ℕ) (c : List Level) → every' ≡ every
    → lasts' ≡ lasts → Sums every v lasts c → Sums every' v lasts' c
same-sums every every' v lasts lasts' c a e h =
    subst (λ n. Sums n v lasts' c) (sym a) (subst (λ l. Sums every v l c) (sym e) h)

-- no cell
start-sums : (every : ℕ) → summed every [] ≡ unsummed
unfolding summed decided go_to behind_full full_count more block_len block_subframes
start-sums every = ap (λ n. on_to (periods every n unsummed) 0) (none-before every)

pub begins-sums : (every : ℕ) (w : Watched) (p : Period) (lasts : List ℕ) → 0 < every
    → every ≤ 2 ^ 40 → p ≡ first_period → Watches w lasts []
    → Sums every (with_period w p) lasts []
begins-sums every w p lasts h l e v = record {
  some = h;
  few = l;
  state_is =
      ap₂ with_period
      (v.state_is ∙ sym (summed-known every [] h) ∙ ap (λ x. x.watched) (start-sums every)) e
      ∙ sym (start-sums every);
  watches = v;
}

-- the run
pub gives-sums : {A : Type 0} (form : Form) {s style : Style} {n every : ℕ} (z : A → List Level → Type 0) → 0 < every
    → s ≡ style → n ≡ every
    → Gives (heard_cells form (summing s n) z) (counted_cells form (sum_lines style every) (begun_sums style every)
    (watch_counts form))
gives-sums form {s} {style} {n} {every} z h e f =
    let some : 0 < n = omega (arith, h, f) in
    cells-give form (sum_lines style every) (begun_sums style every)
    (λ c. with-sums s n c some ∙ ap₂ (λ v m. sum_lines v m c) e f)
    (λ c. before-sums s n c some ∙ ap₂ (λ v m. begun_sums v m c) e f)
