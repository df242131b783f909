-- The lines of preambles, as cells come.
use Rattle.std.proofs.Common.{◌≡◌, ℕ, suc, ◌+◌, ◌≤◌, List, [], ◌∷◌, ◌++◌, Option, Some, None, length, drop, refl, sym}
use Rattle.std.proofs.Common.{Result, Ok, Err, IfOk, OnErr, subst}
use Rattle.std.proofs.Common.{ap, ap₂, ◌∙◌, arith, append-nil, length-append}
use Rattle.std.specs.Prelude.{option_to_list, option_map}
use Rattle.std.proofs.lemmas.Grind.{flat_map-append}
use Rattle.std.proofs.lemmas.List.{append_cancel_left, drop_at}
use Rattle.aes3_level.specs.declared.level.Level.{Level}
use Rattle.aes3_cell.specs.declared.form.Form.{Form}
use Rattle.aes3_cell.specs.declared.counts.Counts.{Counts}
use Rattle.aes3_slot.specs.declared.mark.Mark.{Mark}
use Rattle.aes3_cell.specs.Ends.{Grew, GrewFront}
use Rattle.aes3_cell.proofs.Growing.{grew-none, grew-is, front-is}
use Rattle.aes3_lock.specs.Preambles.{first_mark, placed, marks_from, marks}
use Rattle.aes3_lock.proofs.Scanning.{ending, marks-push}
use Rattle.aes3_lock.specs.Following.{ScanState, ScanFollows}
use Rattle.aes3_cell.specs.declared.ends.Fault.{Fault}
use Rattle.aes3_input.specs.Forms.{CellsRan}
use Rattle.aes3_input.specs.Running.{Failed, Movement, Quiet}
use Rattle.aes3_input.specs.Taking.{behind, before_end, with_end}
use Rattle.aes3_input.specs.Inputs.{cells_of}
use Rattle.aes3_input.proofs.Items.{before-is, before-join}
use Rattle.aes3_text_lines.specs.MarkLines.{line_of, mark_line, mark_lines}
use Rattle.aes3_text_reports.specs.Scanning.{mark_state, marks_by, marking, scan_counts, Scanned}

-- the preambles of all cells before are those of all cells
marks-by : (c : List Level) (l : Level) (m : List (ℕ × Mark × Level)) → marks (c ++ l ∷ []) ≡ marks c ++ m
    → marks_by c l ≡ m
marks-by c l m e = ap (drop (length (marks c))) e ∙ drop_at (marks c) m (length (marks c)) refl

marks-more : (c : List Level) (l : Level) → marks (c ++ l ∷ []) ≡ marks c ++ marks_by c l
unfolding marks
marks-more c l =
    let e : marks (c ++ l ∷ []) ≡ marks c ++ ending 0 (c ++ l ∷ []) = marks-push 0 c l in
    e ∙ ap (λ m. marks c ++ m) (sym (marks-by c l (ending 0 (c ++ l ∷ [])) e))

-- what a scan's taker writes
nothing : mark_lines (marks []) ≡ []
unfolding marks
nothing = refl

adds-lines : (c : List Level) (l : Level) → marking.adds c l ≡ mark_lines (marks_by c l)
unfolding marking
adds-lines c l = refl

pub before-lines : (c : List Level) → before_end marking c ≡ mark_lines (marks c)
before-lines c =
    before-is marking (λ c. mark_lines (marks c)) nothing
    (λ c l. ap mark_lines (marks-more c l) ∙ flat_map-append line_of (marks c) (marks_by c l)
    ∙ ap (λ z. mark_lines (marks c) ++ z) (sym (adds-lines c l))) c

pub with-lines : (c : List Level) → with_end marking c ≡ mark_lines (marks c)
unfolding with_end marking
with-lines c = append-nil (before_end marking c) ∙ before-lines c

pub ends-lines : (c : List Level) → [] ≡ marking.ends c
unfolding marking
ends-lines c = refl

-- counted
one-at-most : {A : Type 0} (o : Option A) → length (option_to_list o) ≤ 1
one-at-most None = omega arith
one-at-most (Some x) = omega arith

few-from : (p : ℕ) (c : List Level) → length (marks_from p c) ≤ length c
few-from p [] = omega arith
few-from p (x ∷ c) =
    let o = option_map (placed p) (first_mark (x ∷ c)) in
    let k = one-at-most o in
    let n = few-from (suc p) c in
    let l = length-append (option_to_list o) (marks_from (suc p) c) in
    omega arith

pub few-marks : (c : List Level) → length (marks c) ≤ length c
unfolding marks
few-marks c = few-from 0 c

pub scanned-mark : {scan new : ScanState} {count : ℕ} {c : List Level} (d : List Level) (m : ℕ × Mark × Level)
    → Scanned scan count c → ScanFollows new (c ++ d) → marks (c ++ d) ≡ marks c ++ m ∷ []
    → Scanned new (count + 1) (c ++ d)
scanned-mark {c} d m h f e = record {
  follows = f;
  count_is
      = (let n = h.count_is in let k = ap length e in let a = length-append (marks c) (m ∷ []) in omega arith);
}

pub scanned-marks : {scan new : ScanState} {count n : ℕ} {c : List Level} (d : List Level) (m : List (ℕ × Mark × Level))
    → Scanned scan count c → ScanFollows new (c ++ d) → marks (c ++ d) ≡ marks c ++ m
    → n ≡ count + length m → Scanned new n (c ++ d)
scanned-marks {c = c} d m h f e s
    = record {
      follows = f;
      count_is
          = (let n = h.count_is in let k = ap length e in let a = length-append (marks c) m in omega arith);
    }

pub scanned-none : {scan new : ScanState} {count : ℕ} {c : List Level} (d : List Level) → Scanned scan count c
    → ScanFollows new (c ++ d) → marks (c ++ d) ≡ marks c ++ []
    → Scanned new count (c ++ d)
scanned-none {c} d h f e = record { follows = f; count_is = h.count_is ∙ sym (ap length (e ∙ append-nil (marks c))) }

pub scan-starts : {scan : ScanState} {count : ℕ} → ScanFollows scan [] → count ≡ 0 → Scanned scan count []
unfolding marks
scan-starts f e = record { follows = f; count_is = e }

pub counted : (form : Form) (b : List ℕ) (bytes cells count : ℕ) (scan : ScanState) → bytes ≡ length b
    → cells ≡ length (cells_of form b) → Scanned scan count (cells_of form b)
    → ◌≡◌ {A = Counts} (record { bytes = bytes; cells = cells; blocks = 0; faults = 0; unfinished = 0; marks = count })
    (scan_counts form b)
unfolding scan_counts
counted form b bytes cells count scan e f h =
    ap₂ (λ (x y : ℕ). record { bytes = x; cells = y; blocks = 0; faults = 0; unfinished = 0; marks = count }) e f
    ∙ ap (λ (x : ℕ). record {
      bytes = length b;
      cells = length (cells_of form b);
      blocks = 0;
      faults = 0;
      unfinished
          = 0;
      marks = x;
    }) h.count_is

-- what cells write that end a preamble or none
pub marks-behind : (c d : List Level) (m : List (ℕ × Mark × Level)) → marks (c ++ d) ≡ marks c ++ m
    → behind marking c d ≡ mark_lines m
marks-behind c d m e =
    append_cancel_left (mark_lines (marks c)) (behind marking c d) (mark_lines m)
    (ap (λ z. z ++ behind marking c d) (sym (before-lines c)) ∙ sym (before-join marking c d) ∙ before-lines (c ++ d)
    ∙ ap mark_lines e ∙ flat_map-append line_of (marks c) m)

pub told-grew : (t t' : Option (List ℕ)) (c d : List Level) (m : ℕ × Mark × Level) → marks (c ++ d) ≡ marks c ++ m ∷ []
    → Grew t t' (mark_line m.0 m.1 m.2) → Grew t t' (behind marking c d)
unfolding line_of
told-grew t t' c d m e g = grew-is (sym (append-nil (line_of m)) ∙ sym (marks-behind c d (m ∷ []) e)) g

pub told-front : (t t' : Option (List ℕ)) (c d : List Level) (m : ℕ × Mark × Level) → marks (c ++ d) ≡ marks c ++ m ∷ []
    → GrewFront t t' (mark_line m.0 m.1 m.2) → GrewFront t t' (behind marking c d)
unfolding line_of
told-front t t' c d m e g = front-is (sym (append-nil (line_of m)) ∙ sym (marks-behind c d (m ∷ []) e)) g

pub none-grew : {t t' : Option (List ℕ)} (c d : List Level) → marks (c ++ d) ≡ marks c ++ [] → t' ≡ t
    → Grew t t' (behind marking c d)
none-grew c d e g = grew-is (sym (marks-behind c d [] e)) (grew-none g)

-- cells of which the last ends a preamble, whose line was written; and cells that end none
pub mark-ran : (lines lines' : List ℕ) (scan scan' : ScanState) (count count' : ℕ) (d : List Level)
    (m : ℕ × Mark × Level) (sink : Movement) (r : Result (Unit {0}) Fault)
    → ((c : List Level) → ScanFollows scan c → ScanFollows scan' (c ++ d))
    → ((c : List Level) → ScanFollows scan c → marks (c ++ d) ≡ marks c ++ m ∷ [])
    → count' ≡ count + 1
    → IfOk r (λ _. lines' ≡ [])
    → IfOk r (λ _. Grew sink.old sink.new (mark_line m.0 m.1 m.2))
    → IfOk r (λ _. Quiet sink)
    → OnErr r (Failed sink × GrewFront sink.old sink.new (mark_line m.0 m.1 m.2))
    → CellsRan (mark_state lines scan count) (mark_state lines' scan' count') d sink r
mark-ran lines lines' scan scan' count count' d m sink (Ok u) next mark more none grew quiet err = (
  refl,
  (λ c h. (
    none,
    subst (λ n. Scanned scan' n (c ++ d)) (sym more)
        (scanned-mark d m h.1 (next c h.1.follows) (mark c h.1.follows)),
  )),
  (λ c h. told-grew sink.old sink.new c d m (mark c h.1.follows) grew),
  quiet,
)
mark-ran lines lines' scan scan' count count' d m sink (Err x) next mark more none grew quiet err = (
  err.0,
  (λ c h. told-front sink.old sink.new c d m (mark c h.1.follows) err.1),
)

pub none-ran : (lines : List ℕ) (scan scan' : ScanState) (count : ℕ) (d : List Level) (sink : Movement)
    → ((c : List Level) → ScanFollows scan c → ScanFollows scan' (c ++ d))
    → ((c : List Level) → ScanFollows scan c → marks (c ++ d) ≡ marks c ++ [])
    → sink.new ≡ sink.old → Quiet sink
    → CellsRan (mark_state lines scan count) (mark_state lines scan' count) d sink (Ok tt)
none-ran lines scan scan' count d sink next none same quiet = (
  refl,
  (λ c h. (h.0, scanned-none d h.1 (next c h.1.follows) (none c h.1.follows))),
  (λ c h. none-grew c d (none c h.1.follows) same),
  quiet,
)
