-- The lines of channel status, one behind the other.
use Rattle.std.proofs.Common.{◌≡◌, ℕ, suc, List, [], ◌∷◌, ◌++◌, Bool, true, false, length, Option, Some, None}
use Rattle.std.proofs.Common.{refl, sym, ap}
use Rattle.std.proofs.Common.{ap₂, ◌∙◌, subst, arith, append-nil, append_assoc, length-append, Result, Ok, Err, IfOk}
use Rattle.std.specs.List.{last_or}
use Rattle.aes3_level.specs.declared.level.Level.{Level}
use Rattle.aes3_cell.specs.declared.ends.Fault as device
use Rattle.aes3_cell.specs.declared.form.Form.{Form}
use Rattle.aes3_frame.specs.declared.block.Channel.{Channel}
use Rattle.aes3_frame.specs.declared.block.Channel.TheVariants.{First, Second}
use Rattle.aes3_frame.specs.Statuses.{status_of}
use Rattle.aes3_slot.specs.ReadWords.{read_words}
use Rattle.aes3_lock.specs.declared.report.Ending.{Ending}
use Rattle.aes3_lock.specs.declared.report.Ending.TheVariants.{Whole as EndsWhole}
use Rattle.aes3_lock.specs.Following.{LockState, report_in}
use Rattle.aes3_lock.specs.Outcomes.{payloads_of}
use Rattle.aes3_lock.specs.declared.report.Report.{Report}
use Rattle.aes3_lock.specs.declared.report.Report.TheVariants.{Whole, Marked, Fault, Unfinished}
use Rattle.aes3_lock.specs.Reports.{blocks, decided, reports, wholes}
use Rattle.aes3_lock.proofs.AllStanding.{wholes-append}
use Rattle.aes3_input.specs.Taking.{before_end, with_end}
use Rattle.aes3_input.proofs.Items.{before-is}
use Rattle.aes3_input.specs.Driving.{counted_cells}
use Rattle.aes3_input.proofs.CellRuns.{cells-give}
use Rattle.aes3_input.proofs.InputRuns.{Gives}
use Rattle.aes3_lock_runs.specs.BlockRuns.{numbered}
use Rattle.aes3_lock_runs.specs.ReportRuns.{counts_of, told_reports}
use Rattle.aes3_status.specs.declared.detail.Detail.{Detail}
use Rattle.aes3_status.specs.declared.detail.Detail.TheVariants.{Plain}
use Rattle.aes3_status.specs.StatusTexts.{status_text}
use Rattle.aes3_text_lines.specs.StatusLines.{detail_text, head_text, status_line_with}
use Rattle.aes3_text.specs.DetailLaws.{Behind}
use Rattle.aes3_text.specs.Runs.{AreLast, block_changes, block_details, change_details, change_line}
use Rattle.aes3_text.specs.Runs.{change_lines}
use Rattle.aes3_text.specs.Runs.{changes_from, channel_line, channel_lines, detail_line, detail_lines, details_from}
use Rattle.aes3_text.specs.Runs.{report_details, showing, status_in, status_lines, told}

last-push : (o : Option (List (List Bool))) (bs : List (List (List Bool))) (b : List (List Bool))
    → last_or o (bs ++ b ∷ []) ≡ Some b
last-push o [] b = refl
last-push o (c ∷ bs) b = last-push (Some c) bs b

-- what one report more writes
details-push : (ch : Bool) (d : Detail) (bs : List (List (List Bool))) (r : List Report) (x : Report)
    → details_from ch d bs (r ++ x ∷ []) ≡ details_from ch d bs r ++ report_details ch d (bs ++ wholes r) x
details-push ch d bs [] x = append-nil (report_details ch d bs x)
    ∙ ap (λ v. report_details ch d v x) (sym (append-nil bs))
details-push ch d bs (y ∷ r) x =
    ap (λ z. report_details ch d bs y ++ z)
    (details-push ch d (bs ++ wholes (y ∷ [])) r x
    ∙ ap (λ v. details_from ch d (bs ++ wholes (y ∷ [])) r ++ report_details ch d v x)
    (append_assoc bs (wholes (y ∷ [])) (wholes r) ∙ ap (λ v. bs ++ v) (sym (wholes-append (y ∷ []) r))))
    ∙ sym (append_assoc (report_details ch d bs y) (details_from ch d (bs ++ wholes (y ∷ [])) r)
    (report_details ch d (bs ++ wholes (y ∷ r)) x))

report-push : (ch : Bool) (d : Detail) (r : List Report) (x : Report)
    → details_from ch d [] (r ++ x ∷ []) ≡ details_from ch d [] r ++ (showing ch d).adds r x
unfolding showing
report-push ch d r x = details-push ch d [] r x

before-shown : (ch : Bool) (d : Detail) (r : List Report) → before_end (showing ch d) r ≡ details_from ch d [] r
before-shown ch d r = before-is (showing ch d) (λ v. details_from ch d [] v) refl (report-push ch d) r

with-shown : (ch : Bool) (d : Detail) (r : List Report) → with_end (showing ch d) r ≡ details_from ch d [] r
unfolding with_end showing
with-shown ch d r = ap (λ o. o ++ []) (before-shown ch d r) ∙ append-nil (details_from ch d [] r)

-- the run
pub gives-shown : {A : Type 0} (form : Form) {ch ch' : Bool} {d d' : Detail} (z : A → List Report → Type 0) → ch ≡ ch'
    → d ≡ d'
    → Gives (told_reports form (showing ch d) z) (counted_cells form (λ c. details_from ch' d' [] (reports c))
    (λ c. details_from ch' d' [] (decided c)) (counts_of form))
gives-shown form {ch} {ch'} {d} {d'} z p q =
    cells-give form (λ c. details_from ch' d' [] (reports c)) (λ c. details_from ch' d' [] (decided c))
    (λ c. with-shown ch d (reports c) ∙ ap₂ (λ u v. details_from u v [] (reports c)) p q)
    (λ c. before-shown ch d (decided c) ∙ ap₂ (λ u v. details_from u v [] (decided c)) p q)

-- the report of a lock's whole block
pub told-whole : (k : LockState) {e : Ending} {at : ℕ} {l : Level} {words : List ℕ} {b : List (List Bool)}
    → e ≡ EndsWhole at l → words ≡ k.words → b ≡ payloads_of (read_words words)
    → report_in k e ≡ Whole at l b
told-whole k {at = at} {l = l} p q r
    = ap (report_in k) p ∙ ap (λ w. Whole at l (payloads_of (read_words w))) (sym q) ∙ ap (Whole at l) (sym r)

-- the statuses that are kept
pub whole-last : (result : Result (Unit {0}) device.Fault) (x : Report) {at : ℕ} {l : Level} {b : List (List Bool)}
    (f s f' s' : Option (List ℕ)) → x ≡ Whole at l b
    → IfOk result (λ (u : Unit {0}). f' ≡ Some (status_of b First))
    → IfOk result (λ (u : Unit {0}). s' ≡ Some (status_of b Second))
    → IfOk result (λ (u : Unit {0}). (bs : List (List (List Bool))) → AreLast f s bs
    → AreLast f' s' (bs ++ wholes (x ∷ [])))
whole-last (Ok u) x {at} {l} {b} f s f' s' e p q = λ bs h.
    subst (λ (v : Report). AreLast f' s' (bs ++ wholes (v ∷ []))) (sym e)
    (record {
      first_is = p ∙ ap (status_in First) (sym (last-push None bs b));
      second_is
          = q ∙ ap (status_in Second) (sym (last-push None bs b));
    })
whole-last (Err d) x f s f' s' e p q = tt

pub other-last : {f s : Option (List ℕ)} (x : Report) (bs : List (List (List Bool))) → wholes (x ∷ []) ≡ []
    → AreLast f s bs → AreLast f s (bs ++ wholes (x ∷ []))
other-last {f} {s} x bs e h = subst (AreLast f s) (sym (ap (λ v. bs ++ v) e ∙ append-nil bs)) h

-- the lines that are written
abbrev pub line_as : Bool → Detail → ℕ → ℕ → Channel → List (List Bool) → Option (List ℕ) → List ℕ → List ℕ
line_as ch d n at channel b before status =
    told ch before status (status_line_with n channel status (detail_text d channel at b))

abbrev pub shown : Bool → Detail → ℕ → ℕ → Option (List ℕ) → Option (List ℕ) → List (List Bool) → List ℕ
shown ch d n at f s b =
    line_as ch d n at First b f (status_of b First) ++ line_as ch d n at Second b s (status_of b Second)

pub whole-is : (ch : Bool) (d : Detail) {f s : Option (List ℕ)} {n : ℕ} (x : Report) {at : ℕ} {l : Level}
    {b : List (List Bool)}
    (bs : List (List (List Bool))) → x ≡ Whole at l b → AreLast f s bs → n ≡ length bs
    → shown ch d n at f s b ≡ report_details ch d bs x
unfolding block_details detail_line
whole-is ch d {f} {s} {n} x {at} {l} {b} bs e h k =
    ap (λ v. shown ch d v at f s b) k
    ∙ ap₂ (λ u v. shown ch d (length bs) at u v b) h.first_is h.second_is
    ∙ ap (report_details ch d bs) (sym e)

-- what a report writes
pub adds-is : (ch : Bool) (d : Detail) (r : List Report) (x : Report)
    → report_details ch d (wholes r) x ≡ (showing ch d).adds r x
unfolding showing
adds-is ch d r x = refl

pub no-ends : (ch : Bool) (d : Detail) (r : List Report) → [] ≡ (showing ch d).ends r
unfolding showing
no-ends ch d r = refl

-- one report more
pub next-last : {f s : Option (List ℕ)} (r : List Report) (x : Report) → AreLast f s (wholes r ++ wholes (x ∷ []))
    → AreLast f s (wholes (r ++ x ∷ []))
next-last {f} {s} r x h = subst (AreLast f s) (sym (wholes-append r (x ∷ []))) h

-- with no detail the lines are those of blocks alone
one-more : (bs : List (List (List Bool))) (b : List (List Bool)) → length (bs ++ b ∷ []) ≡ suc (length bs)
one-more bs b = let e = length-append bs (b ∷ []) in omega arith

plain-line : (channel : Channel) (n at : ℕ) (b : List (List Bool))
    → detail_line Plain channel n at b ≡ channel_line channel n b
unfolding detail_line channel_line
plain-line channel n at b
    = ap (λ v. v ++ 10 ∷ []) (append-nil (head_text n channel ++ status_text (status_of b channel)))

plain-block : (n at : ℕ) (o : Option (List (List Bool))) (b : List (List Bool))
    → block_details false Plain n at o b ≡ channel_lines n b
unfolding block_details
plain-block n at o b = ap₂ (λ u v. u ++ v) (plain-line First n at b) (plain-line Second n at b)

plain-from : (bs : List (List (List Bool))) (r : List Report)
    → details_from false Plain bs r ≡ numbered channel_lines (length bs) (wholes r)
plain-from bs [] = refl
plain-from bs (Whole at s b ∷ r) =
    ap₂ (λ u v. u ++ v) (plain-block (length bs) at (last_or None bs) b)
    (plain-from (bs ++ b ∷ []) r ∙ ap (λ n. numbered channel_lines n (wholes r)) (one-more bs b))
plain-from bs (Marked at s wrong ∷ r)
    = plain-from (bs ++ []) r ∙ ap (λ v. numbered channel_lines (length v) (wholes r)) (append-nil bs)
plain-from bs (Fault at cell why ∷ r)
    = plain-from (bs ++ []) r ∙ ap (λ v. numbered channel_lines (length v) (wholes r)) (append-nil bs)
plain-from bs (Unfinished at cells ∷ r)
    = plain-from (bs ++ []) r ∙ ap (λ v. numbered channel_lines (length v) (wholes r)) (append-nil bs)

pub plain-lines : (r : List Report) → detail_lines Plain r ≡ status_lines (wholes r)
plain-lines r = plain-from [] r

plain-change : (n at : ℕ) (o : Option (List (List Bool))) (b : List (List Bool))
    → block_details true Plain n at o b ≡ block_changes n o b
unfolding block_details block_changes change_line channel_line
plain-change n at o b =
    ap₂ (λ u v. told true (status_in First o) (status_of b First) u
    ++ told true (status_in Second o) (status_of b Second) v)
    (plain-line First n at b) (plain-line Second n at b)

changes-of : (bs : List (List (List Bool))) (r : List Report)
    → details_from true Plain bs r ≡ changes_from (length bs) (last_or None bs) (wholes r)
changes-of bs [] = refl
changes-of bs (Whole at s b ∷ r) =
    ap₂ (λ u v. u ++ v) (plain-change (length bs) at (last_or None bs) b)
    (changes-of (bs ++ b ∷ []) r
    ∙ ap₂ (λ n o. changes_from n o (wholes r)) (one-more bs b) (last-push None bs b))
changes-of bs (Marked at s wrong ∷ r)
    = changes-of (bs ++ []) r ∙ ap (λ v. changes_from (length v) (last_or None v) (wholes r)) (append-nil bs)
changes-of bs (Fault at cell why ∷ r)
    = changes-of (bs ++ []) r ∙ ap (λ v. changes_from (length v) (last_or None v) (wholes r)) (append-nil bs)
changes-of bs (Unfinished at cells ∷ r)
    = changes-of (bs ++ []) r ∙ ap (λ v. changes_from (length v) (last_or None v) (wholes r)) (append-nil bs)

pub plain-changes : (r : List Report) → change_details Plain r ≡ change_lines (wholes r)
plain-changes r = changes-of [] r

pub plain-whole : (c : List Level) → detail_lines Plain (reports c) ≡ status_lines (blocks c)
unfolding blocks
plain-whole c = plain-lines (reports c)

-- and a line with a detail is the plain line with it before its line feed
pub detail-behind : (detail : Detail) (channel : Channel) (n at : ℕ) (b : List (List Bool))
    → Behind (channel_line channel n b) (detail_text detail channel at b) (detail_line detail channel n at b)
unfolding channel_line detail_line
detail-behind detail channel n at b = record {
  words = head_text n channel ++ status_text (status_of b channel);
  plain = refl;
  behind = refl;
}
