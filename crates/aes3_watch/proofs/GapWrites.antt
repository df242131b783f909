-- The lines of gaps that are told one by one.
use Rattle.std.proofs.Common.{◌≡◌, ℕ, zero, suc, ◌+◌, ◌<◌, ◌≤◌, Bool, true, false, ltb, List, [], ◌∷◌, ◌++◌, Option}
use Rattle.std.proofs.Common.{None, Some, length, refl, sym, ap, ap₂, ◌∙◌, arith, append-nil, append_assoc}
use Rattle.std.specs.List.{filter}
use Rattle.std.proofs.lemmas.Grind.{flat_map-append}
use Rattle.aes3_cell.specs.Ends.{Grew, GrewFront}
use Rattle.aes3_cell.proofs.Growing.{front-is, front-join, front-more, grew-is, grew-join}
use Rattle.aes3_lock.specs.declared.report.Ending.{Ending}
use Rattle.aes3_lock.specs.declared.report.Ending.TheVariants.{Whole as EndsWhole, Marked as EndsMarked}
use Rattle.aes3_lock.specs.declared.report.Ending.TheVariants.{Fault as EndsFault, Unfinished as EndsUnfinished}
use Rattle.aes3_lock.specs.declared.report.Report.{Report}
use Rattle.aes3_lock.specs.declared.report.Report.TheVariants.{Whole, Marked, Fault, Unfinished}
use Rattle.aes3_lock.specs.Outcomes.{payloads_of}
use Rattle.aes3_lock.specs.Remains.{place_of}
use Rattle.aes3_lock.specs.Reports.{ending_report}
use Rattle.aes3_status.specs.declared.lines.Lines.{Lines}
use Rattle.aes3_lock_gaps.specs.declared.gap.Due.{Due}
use Rattle.aes3_lock_gaps.specs.declared.gap.Gap.{Gap}
use Rattle.aes3_lock_gaps.specs.Gaps.{Entry, kind, full_gaps, full_count, behind_full, gaps_before}
use Rattle.aes3_lock_gaps.specs.Gaps.{gaps, is_lost}
use Rattle.aes3_lock_gaps.specs.Told.{due_before, due_gaps, gap_entry, gaps_up_to, report_with}
use Rattle.aes3_lock_gaps.proofs.GapLemmas.{behind-none, lost-append}
use Rattle.aes3_watch.specs.GapLines.{entry_line, account_lines}

pub lines-append : (lines : Lines) (a b : List Entry)
    → account_lines lines (a ++ b) ≡ account_lines lines a ++ account_lines lines b
lines-append lines a b = flat_map-append (entry_line lines) a b

pub gap-few : (g : Gap) → length (filter is_lost (gap_entry g ∷ [])) ≤ 1
gap-few g = go g.counts
  where
    go : (b : Bool) → length (filter is_lost (kind b g.at g.cells ∷ [])) ≤ 1
    go true = omega arith
    go false = omega arith

-- of the gaps that are due from place p on those before place q have been told
pub record ToldGaps (t t' : Option (List ℕ)) (lines : Lines) (p q l l' : ℕ) (d : Due) : Type 0 where
  pub done : List Entry
  pub parts : due_gaps p d ≡ done ++ due_gaps q d
  pub lost : l' ≡ l + length (filter is_lost done)
  pub grew : Grew t t' (account_lines lines done)
  pub spent : l' + p ≤ l + q
  pub most : l' ≤ l + d.to
  pub behind : d.short ≡ None → behind_full p d.to ≡ behind_full q d.to

next-parts : (p q q' : ℕ) (d : Due) (done : List Entry) (g : Gap) → due_gaps p d ≡ done ++ due_gaps q d
    → due_gaps q d ≡ gap_entry g ∷ due_gaps q' d → due_gaps p d ≡ (done ++ gap_entry g ∷ []) ++ due_gaps q' d
next-parts p q q' d done g e f = e ∙ ap (λ z. done ++ z) f ∙ sym (append_assoc done (gap_entry g ∷ []) (due_gaps q' d))

pub gaps-next : {t t' : Option (List ℕ)} {lines : Lines} {p q l l' : ℕ} {d : Due} (t'' : Option (List ℕ)) (q' l'' : ℕ)
    (g : Gap)
    → ToldGaps t t' lines p q l l' d → due_gaps q d ≡ gap_entry g ∷ due_gaps q' d → q < q' → q' ≤ d.to
    → (d.short ≡ None → behind_full q d.to ≡ behind_full q' d.to)
    → l'' ≡ l' + length (filter is_lost (gap_entry g ∷ [])) → Grew t' t'' (account_lines lines (gap_entry g ∷ []))
    → ToldGaps t t'' lines p q' l l'' d
gaps-next {lines = lines} {p} {q} {l} {l'} {d} t'' q' l'' g v e further within behind lost grew =
    let f = gap-few g in
    let s = v.spent in
    let a = lost-append v.done (gap_entry g ∷ []) in
    let k = v.lost in
    record {
      done = v.done ++ gap_entry g ∷ [];
      parts = next-parts p q q' d v.done g v.parts e;
      lost = omega arith;
      grew = grew-is (sym (lines-append lines v.done (gap_entry g ∷ []))) (grew-join v.grew grew);
      spent = omega arith;
      most = omega arith;
      behind = λ n. v.behind n ∙ behind n;
    }

pub gaps-fail : {t t' : Option (List ℕ)} {lines : Lines} {p q l l' : ℕ} {d : Due} (t'' : Option (List ℕ)) (q' : ℕ)
    (g : Gap)
    → ToldGaps t t' lines p q l l' d → due_gaps q d ≡ gap_entry g ∷ due_gaps q' d
    → GrewFront t' t'' (account_lines lines (gap_entry g ∷ [])) → GrewFront t t'' (account_lines lines (due_gaps p d))
gaps-fail {lines = lines} {p} {q} {d = d} t'' q' g v e f =
    front-is (sym (ap (account_lines lines) (next-parts p q q' d v.done g v.parts e)
    ∙ lines-append lines (v.done ++ gap_entry g ∷ []) (due_gaps q' d)))
    (front-more (front-is (sym (lines-append lines v.done (gap_entry g ∷ []))) (front-join v.grew f))
    (account_lines lines (due_gaps q' d)))

-- none is left
none-parts : {t t' : Option (List ℕ)} {lines : Lines} {p q l l' : ℕ} {d : Due} (v : ToldGaps t t' lines p q l l' d)
    → due_gaps q d ≡ [] → v.done ≡ due_gaps p d
none-parts v e = sym (v.parts ∙ ap (λ z. v.done ++ z) e ∙ append-nil v.done)

pub gaps-lost : {t t' : Option (List ℕ)} {lines : Lines} {p q l l' : ℕ} {d : Due} → ToldGaps t t' lines p q l l' d
    → due_gaps q d ≡ [] → l' ≡ l + length (filter is_lost (due_gaps p d))
gaps-lost {l = l} v e = v.lost ∙ ap (λ z. l + length (filter is_lost z)) (none-parts v e)

nil-count : (q n : ℕ) → full_gaps q n ≡ [] → n ≡ 0
nil-count q zero e = refl
nil-count q (suc n) e = cc

pub gaps-behind : {t t' : Option (List ℕ)} {lines : Lines} {p q l l' : ℕ} {d : Due} → ToldGaps t t' lines p q l l' d
    → due_gaps q d ≡ [] → d.short ≡ None → q ≡ behind_full p d.to
gaps-behind {q = q} {d = d} v e n =
    sym (v.behind n ∙ behind-none q d.to
    (nil-count q (full_count q d.to) (sym (ap (λ o. gaps_up_to o q d.to) n) ∙ e)))

-- the gaps that are due
pub due-full : (p s : ℕ) (d : Due) → d.to ≡ s → d.short ≡ None → due_gaps p d ≡ full_gaps p (full_count p s)
due-full p s d e f = ap₂ (λ o q. gaps_up_to o p q) f e

pub due-all : (p s : ℕ) (d : Due) → d.to ≡ s → d.short ≡ Some false → due_gaps p d ≡ gaps false p s
due-all p s d e f = ap₂ (λ o q. gaps_up_to o p q) f e

pub ending-with : (slots : List (List Bool)) (e : Ending) → report_with (payloads_of slots) e ≡ ending_report slots e
ending-with slots (EndsWhole at s) = refl
ending-with slots (EndsMarked at s wrong) = refl
ending-with slots (EndsFault at cell why) = refl
ending-with slots (EndsUnfinished at cells) = refl

due-of : (slots : List (List Bool)) (k : Bool) (e : Ending) (d : Due)
    → ((block : List (List Bool)) → d ≡ due_before k (report_with block e)) → d ≡ due_before k (ending_report slots e)
due-of slots k e d h = h (payloads_of slots) ∙ ap (due_before k) (ending-with slots e)

before-due : (n p : ℕ) (x : Report) → due_gaps p (due_before (ltb 0 n) x) ≡ gaps_before n p x
before-due n p (Whole at s b) = refl
before-due n p (Marked at s wrong) = refl
before-due n p (Fault at cell why) = refl
before-due n p (Unfinished at cells) = refl

pub due-report : (n p : ℕ) (slots : List (List Bool)) (k : Bool) (e : Ending) (d : Due)
    → ((block : List (List Bool)) → d ≡ due_before k (report_with block e)) → k ≡ ltb 0 n
    → due_gaps p d ≡ gaps_before n p (ending_report slots e)
due-report n p slots k e d h f =
    ap (due_gaps p) (due-of slots k e d h ∙ ap (λ b. due_before b (ending_report slots e)) f)
    ∙ before-due n p (ending_report slots e)

pub due-place : (slots : List (List Bool)) (k : Bool) (e : Ending) (d : Due)
    → ((block : List (List Bool)) → d ≡ due_before k (report_with block e)) → d.to ≡ place_of (ending_report slots e)
due-place slots k e d h = ap (λ u. u.to) (due-of slots k e d h) ∙ go (ending_report slots e)
  where
    go : (x : Report) → (due_before k x).to ≡ place_of x
    go (Whole at s b) = refl
    go (Marked at s wrong) = refl
    go (Fault at cell why) = refl
    go (Unfinished at cells) = refl
