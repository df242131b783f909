-- What the small steps of a lock answer.
use Rattle.std.proofs.Common.{◌≡◌, ℕ, ◌-◌, ◌<◌, ◌≤◌, List, Bool, true, false, not, eqb, ltb, ◌&&◌, Option, Some, None}
use Rattle.std.proofs.Common.{refl, take, ap, ◌∙◌, sym, arith, eq-eqb, lt-ltb, le-ltb, ltb-true, true≢false}
use Rattle.std.proofs.lemmas.Bool.{and_parts, false_from_ne_true}
use Rattle.aes3_level.specs.declared.level.Level.{Level}
use Rattle.aes3_level.specs.declared.level.Level.TheVariants.{Low, High}
use Rattle.aes3_level.specs.Cells.{line}
use Rattle.aes3_slot.specs.declared.mark.Mark.{Mark}
use Rattle.aes3_slot.specs.declared.mark.Mark.TheVariants.{X, Y, Z}
use Rattle.aes3_slot.specs.Slots.{mark_runs}
use Rattle.aes3_slot.specs.Rules.{rule}
use Rattle.aes3_slot.specs.Reading.{same, differs}
use Rattle.aes3_frame.specs.Blocks.{block_len, mark_at}
use Rattle.aes3_lock.specs.declared.report.Report.TheVariants.{Whole}
use Rattle.aes3_slot.specs.Preambles.{entry, begins_with}
use Rattle.aes3_lock.specs.Candidates.{begins_block}
use Rattle.aes3_lock.specs.Outcomes.{fault, unfinished, payloads_of, wrong_parities, block_outcome}
use Rattle.aes3_lock.specs.Reports.{report_of}
use Rattle.aes3_lock.specs.Steps.{begins_a_block, begun, ended, left}
use Rattle.aes3_slot.proofs.Beginnings.{begins-stands}
use Rattle.aes3_lock.proofs.Following.{begun-some, begun-none}
use Rattle.aes3_frame.proofs.CellLaws.{block_len_24576}

pub block-whole : (at : ℕ) (s : Level) (slots : List (List Bool)) (wrong : ℕ) → wrong ≡ wrong_parities slots → wrong ≡ 0
    → Whole at s (payloads_of slots) ≡ report_of at (block_outcome s slots)
block-whole at s slots wrong e z =
    let t : eqb (wrong_parities slots) 0 ≡ true = eq-eqb _ 0 (sym e ∙ z) in
    rw t refl

-- a candidate that the last eight cells show
Z-begins : (s : Level) → begins_block (line s (mark_runs Z)) ≡ true
unfolding begins_with
Z-begins Low = refl
Z-begins High = refl

Z-entry : (s : Level) → entry (line s (mark_runs Z)) ≡ s
Z-entry Low = refl
Z-entry High = refl

pub begun-Z : (n : ℕ) (recent : List Level) (s : Level) → 8 ≤ n → recent ≡ line s (mark_runs Z)
    → begun n recent ≡ Some (record { at = n - 8; before = s; level = s })
begun-Z n recent s h e =
    begun-some n recent h (ap begins_block e ∙ Z-begins s)
    ∙ ap (λ t. Some (record { at = n - 8; before = t; level = t })) (ap entry e ∙ Z-entry s)

pub begun-short : (n : ℕ) (recent : List Level) → n < 8 → begun n recent ≡ None
begun-short n recent h = begun-none n recent (λ g. absurd (omega arith))

pub begun-other : (n : ℕ) (recent : List Level) → take 8 recent ≡ recent
    → ((s : Level) → recent ≡ line s (mark_runs Z) → ⊥) → begun n recent ≡ None
begun-other n recent e f =
    begun-none n recent
    (λ g. false_from_ne_true (begins_block recent) (λ b. f (entry recent) (sym e ∙ (begins-stands Z recent b).is)))

pub ended-block : (s : Level) (o : ℕ) (b : Bool) (slots : List (List Bool)) → 24576 ≤ o → b ≡ false
    → ended s o b slots ≡ block_outcome s slots
ended-block s o b slots h e =
    let n = block_len_24576 in
    let t : ltb o block_len ≡ false = le-ltb o block_len (omega arith) in
    rw (t, e) refl

pub ended-early : (s : Level) (o : ℕ) (b : Bool) (slots : List (List Bool)) → o < 24576 → ended s o b slots ≡ fault o
ended-early s o b slots h =
    let n = block_len_24576 in
    let t : ltb o block_len ≡ true = lt-ltb o block_len (omega arith) in
    rw t refl

pub ended-unclosed : (s : Level) (o : ℕ) (b : Bool) (slots : List (List Bool)) → 24576 ≤ o → b ≡ true
    → ended s o b slots ≡ fault o
ended-unclosed s o b slots h e =
    let n = block_len_24576 in
    let t : ltb o block_len ≡ false = le-ltb o block_len (omega arith) in
    rw (t, e) refl

pub left-block : (s : Level) (o : ℕ) (slots : List (List Bool)) → 24576 ≤ o → left s o slots ≡ block_outcome s slots
left-block s o slots h =
    let n = block_len_24576 in
    let t : ltb o block_len ≡ false = le-ltb o block_len (omega arith) in
    rw t refl

pub left-early : (s : Level) (o : ℕ) (slots : List (List Bool)) → o < 24576 → left s o slots ≡ unfinished o
left-early s o slots h =
    let n = block_len_24576 in
    let t : ltb o block_len ≡ true = lt-ltb o block_len (omega arith) in
    rw t refl

pub same-differs : (a b : Level) → same a b ≡ not (differs b a)
same-differs Low Low = refl
same-differs Low High = refl
same-differs High Low = refl
same-differs High High = refl

-- by its mark
pub mark-Z : (m : Mark) → begins_a_block m ≡ true → m ≡ Z
mark-Z X e = cc
mark-Z Y e = cc
mark-Z Z e = refl

is_Z : Option (Mark × Level) → Bool
is_Z None = false
is_Z (Some m) = begins_a_block m.0

pub other-mark : (m : Mark) (s t : Level) (r : Option (Mark × Level)) → r ≡ Some (m, s) → begins_a_block m ≡ false
    → r ≡ Some (Z, t) → ⊥
unfolding is_Z
other-mark m s t r e b f = true≢false (sym (ap is_Z (sym e ∙ f)) ∙ b)

-- a cell that goes on with a candidate
pub goes : (o : ℕ) (x b p q : Level) (r : Bool) → r ≡ ltb o block_len && rule mark_at o x b p → p ≡ q → r ≡ true
    → (o < block_len) × (rule mark_at o x b q ≡ true)
goes o x b p q r e f h =
    let t = and_parts (ltb o block_len) (rule mark_at o x b p) (sym e ∙ h) in
    (ltb-true o block_len t.0, ap (rule mark_at o x b) (sym f) ∙ t.1)
