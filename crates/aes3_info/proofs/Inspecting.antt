-- What is known of cells, as they come.
use Rattle.std.proofs.Common.{◌≡◌, ℕ, false, List, [], ◌∷◌, ◌++◌}
use Rattle.std.proofs.Common.{append_assoc, length, refl, sym, ap, ap₂, ◌∙◌}
use Rattle.aes3_level.specs.declared.level.Level.{Level}
use Rattle.aes3_cell.specs.declared.form.Form.{Form}
use Rattle.aes3_cell.specs.declared.counts.Counts.{Counts}
use Rattle.aes3_frame.specs.declared.block.Channel.TheVariants.{First, Second}
use Rattle.aes3_lock.specs.declared.report.Report.{Report}
use Rattle.aes3_lock.specs.declared.report.Report.TheVariants.{Whole, Marked, Fault, Unfinished}
use Rattle.aes3_lock.specs.Reports.{decided, reports, wholes}
use Rattle.aes3_lock_gaps.specs.Gaps.{account, account_from, behind_report, gaps, gaps_before, reached_from}
use Rattle.aes3_lock_gaps.proofs.GapLemmas.{reached-push}
use Rattle.aes3_input.specs.Inputs.{cells_of}
use Rattle.aes3_input.specs.Taking.{behind, before_end, with_end}
use Rattle.aes3_input.specs.Driving.{counted_cells}
use Rattle.aes3_input.proofs.CellRuns.{cells-give}
use Rattle.aes3_input.proofs.InputRuns.{Gives}
use Rattle.aes3_lock_runs.specs.ReportRuns.{counts_of, heard_cells}
use Rattle.aes3_status.specs.declared.style.Notation.{Notation}
use Rattle.aes3_info.specs.declared.facts.Facts.{Facts}
use Rattle.aes3_info.specs.declared.gaps.GapFacts.{GapFacts}
use Rattle.aes3_info.specs.Facts.{both_gaps, channel_facts, facts_of, facts_with, gap_facts, report_facts, with_report}
use Rattle.aes3_info.specs.Infos.{Behind, faults_in, info_counts, info_page, inspecting, no_page, with_samples}
use Rattle.aes3_info.specs.Pages.{channel_fields, closing, head, page}
use Rattle.aes3_info.proofs.Counting.{channel-push, report-push, with_report_of}
use Rattle.aes3_info.proofs.CountedGaps.{gaps-join, gaps-push}

-- no cells
pub begins : (f : Facts) → f ≡ facts_with 0 [] [] → Behind f 0 (decided [])
unfolding decided
begins f e = record { facts_is = e; place_is = refl }

-- one more report
samples-are : (f : Facts) (x : Report)
    → with_samples f x
    ≡ record {
      cells = f.cells;
      reports = f.reports;
      gaps = f.gaps;
      first = with_report_of f.first First x;
      second = with_report_of f.second Second x;
    }
samples-are f (Whole at s b) = refl
samples-are f (Marked at s wrong) = refl
samples-are f (Fault at cell why) = refl
samples-are f (Unfinished at cells) = refl

-- with the gaps before it
abbrev pub counted : Facts → GapFacts → Report → Facts
counted f g x = with_samples (record {
  cells = f.cells;
  reports = with_report f.reports x;
  gaps = both_gaps f.gaps g;
  first = f.first;
  second = f.second;
}) x

counted-push : (r : List Report) (x : Report)
    → counted (facts_with 0 r (account_from 0 0 r)) (gap_facts (gaps_before (length (wholes r)) (reached_from 0 r) x)) x
    ≡ facts_with 0 (r ++ x ∷ []) (account_from 0 0 (r ++ x ∷ []))
counted-push r x =
    samples-are (record {
      cells = 0;
      reports = with_report (report_facts r) x;
      gaps = both_gaps (gap_facts (account_from 0 0 r))
          (gap_facts (gaps_before (length (wholes r)) (reached_from 0 r) x));
      first = channel_facts First (wholes r);
      second = channel_facts Second (wholes r);
    }) x
    ∙ rw (report-push r x, gaps-push r x, channel-push First r x, channel-push Second r x) refl

pub next-behind : (f f' : Facts) (g : GapFacts) (p p' : ℕ) (r : List Report) (x : Report) → Behind f p r
    → g ≡ gap_facts (gaps_before (length (wholes r)) p x) → f' ≡ counted f g x → p' ≡ behind_report p x
    → Behind f' p' (r ++ x ∷ [])
next-behind f f' g p p' r x h e k q = record {
  facts_is = k
      ∙ ap₂ (λ u v. counted u v x) h.facts_is
      (e ∙ ap (λ z. gap_facts (gaps_before (length (wholes r)) z x)) h.place_is)
      ∙ counted-push r x;
  place_is = q ∙ ap (λ z. behind_report z x) h.place_is ∙ sym (reached-push 0 r x);
}

-- the end
pub end-behind : (f : Facts) (g : GapFacts) (p n : ℕ) (r : List Report) → Behind f p r → g ≡ gap_facts (gaps false p n)
    → ◌≡◌ {A = Facts} (record {
      cells = n;
      reports = f.reports;
      gaps = both_gaps f.gaps g;
      first = f.first;
      second = f.second;
    }) (facts_with n r (account_from 0 0 r ++ gaps false p n))
end-behind f g p n r h e =
    ap₂ (λ (u : Facts) (v : GapFacts). record {
      cells = n;
      reports = u.reports;
      gaps = both_gaps u.gaps v;
      first = u.first;
      second = u.second;
    }) h.facts_is e
    ∙ ap (λ (v : GapFacts). record {
      cells = n;
      reports = report_facts r;
      gaps = v;
      first = channel_facts First (wholes r);
      second = channel_facts Second (wholes r);
    }) (gaps-join (account_from 0 0 r) (gaps false p n))

pub all-facts : (c : List Level) (p n : ℕ) (r : List Report) → reports c ≡ r → p ≡ reached_from 0 r → n ≡ length c
    → facts_with n r (account_from 0 0 r ++ gaps false p n) ≡ facts_of c
unfolding facts_of account
all-facts c p n r e q k =
    ap₂ (λ x y. facts_with y r (account_from 0 0 r ++ gaps false x y)) q k
    ∙ ap (λ z. facts_with (length c) z (account_from 0 0 z ++ gaps false (reached_from 0 z) (length c))) (sym e)

-- what is written
pub none-behind : (notation : Notation) (c d : List Level) → behind (inspecting notation) c d ≡ []
unfolding inspecting
none-behind notation c [] = refl
none-behind notation c (x ∷ d) = none-behind notation (c ++ x ∷ []) d

pub end-page : (notation : Notation) (f : Facts) (c : List Level) → f ≡ facts_of c
    → page notation f ≡ (inspecting notation).ends c
unfolding inspecting
end-page notation f c e = ap (page notation) e

pub before-page : (notation : Notation) (c : List Level) → before_end (inspecting notation) c ≡ no_page c
unfolding before_end
before-page notation c = none-behind notation [] c

pub with-page : (notation : Notation) (c : List Level) → with_end (inspecting notation) c ≡ info_page notation c
unfolding with_end inspecting
with-page notation c = ap (λ z. z ++ info_page notation c) (before-page notation c)

-- what is counted
pub info-counted : (form : Form) (b : List ℕ) {n : Counts} (f : Facts) → n ≡ counts_of form b
    → f ≡ facts_of (cells_of form b)
    → ◌≡◌ {A = Counts} (record {
      bytes = n.bytes;
      cells = n.cells;
      blocks = f.reports.whole;
      faults = faults_in f;
      unfinished = f.reports.unfinished;
      marks = 0;
    }) (info_counts form b)
unfolding info_counts counts_of
info-counted form b f e h =
    ap₂ (λ (v : Counts) (z : Facts). record {
      bytes = v.bytes;
      cells = v.cells;
      blocks = z.reports.whole;
      faults = faults_in z;
      unfinished = z.reports.unfinished;
      marks = 0;
    }) e h

-- the run
pub gives-page : {A : Type 0} (form : Form) {m notation : Notation} (z : A → List Level → Type 0) → m ≡ notation
    → Gives (heard_cells form (inspecting m) z) (counted_cells form (info_page notation) no_page (info_counts form))
gives-page form {m} {notation} z e =
    cells-give form (info_page notation) no_page (λ c. with-page m c ∙ ap (λ v. info_page v c) e) (before-page m)

-- the lines of a page, one behind the other
pub four-parts : (h a b z : List ℕ) → ((h ++ a) ++ b) ++ z ≡ h ++ (a ++ (b ++ z))
four-parts h a b z = append_assoc (h ++ a) b z ∙ append_assoc h a (b ++ z)

pub page-is : (n : Notation) (f : Facts)
    → head n f
    ++ (channel_fields n First f.reports.whole f.first
    ++ (channel_fields n Second f.reports.whole f.second ++ closing n))
    ≡ page n f
unfolding page
page-is n f = refl
