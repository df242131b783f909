-- What is told of one error of a subframe that is one changed cell.
use Rattle.std.proofs.Common.{◌≡◌, ◌≢◌, ℕ, ◌+◌, ◌-◌, ◌*◌, ◌%◌, ◌<◌, ◌≤◌, List, ◌++◌, Bool, true}
use Rattle.std.proofs.Common.{cond, None, Some, refl, take, drop, ap, ◌∙◌, sym, subst, arith, length-drop}
use Rattle.std.proofs.Common.{suc, take-append-drop}
use Rattle.std.proofs.Common.{lt-ltb, le-ltb, eq-eqb, ne_eqb}
use Rattle.std.specs.List.{Contains}
use Rattle.aes3_level.specs.declared.level.Level.{Level}
use Rattle.aes3_level.specs.declared.level.Level.TheVariants.{Low, High}
use Rattle.aes3_level.specs.Cells.{line}
use Rattle.aes3_slot.specs.declared.mark.Mark.TheVariants.{Z}
use Rattle.aes3_slot.specs.Preambles.{begins_with}
use Rattle.aes3_slot.specs.Slots.{mark_runs}
use Rattle.aes3_frame.specs.Blocks.{block_len, block_subframes}
use Rattle.aes3_frame.proofs.CellLaws.{block_len_24576}
use Rattle.aes3_frame.proofs.BlockLemmas.{block_subframes_384}
use Rattle.aes3_lock.specs.declared.report.Report.{Report}
use Rattle.aes3_lock.specs.declared.report.Report.TheVariants.{Fault}
use Rattle.aes3_lock.specs.declared.report.Why.{Why}
use Rattle.aes3_lock.specs.declared.report.Why.TheVariants.{Preamble, Biphase}
use Rattle.aes3_lock.specs.Damage.{changed}
use Rattle.aes3_lock.specs.Outcomes.{why_of}
use Rattle.aes3_lock.specs.Remains.{place_of}
use Rattle.aes3_lock.specs.Reports.{outcome_at, reports}
use Rattle.aes3_lock.specs.Standing.{StandsClosed}
use Rattle.aes3_lock.proofs.ChangeReports.{report-at}
use Rattle.aes3_lock.proofs.StandingBlocks.{block-stands, standing-mark, standing-room}
use Rattle.aes3_spoil.specs.declared.errors.Errors.{Errors}
use Rattle.aes3_spoil.specs.declared.kinds.ErrorKind.TheVariants.{Changed}
use Rattle.aes3_spoil.specs.ReportLaws.{IsTheReport, is_determined, refuted_at}
use Rattle.aes3_spoil.specs.SpoilLaws.{IsOne}
use Rattle.aes3_spoil.specs.Spoiled.{spoiled}
use Rattle.aes3_spoil.specs.Subframes.{preamble_cell, slot_cell}
use Rattle.aes3_spoil.proofs.Damaged.{changed-one}
use Rattle.aes3_spoil.proofs.Refuting.{drop-changed, fault-told}

-- a cell that is determined, at offset x of the block
determined-told : (errors : Errors) (k q x : ℕ) (c : List Level) (b : List (List Bool)) (s : Level) (why : Why)
    → IsOne errors Changed k → StandsClosed b s (drop q c) → q + x ≡ k → 8 ≤ x → x < block_len
    → is_determined x ≡ true → why_of x ≡ why
    → IsTheReport (spoiled errors c) q (Fault q k why)
determined-told errors k q x c b s why one stands e low high is cause =
    let room = standing-room _ s (drop q c) (block-stands b s (drop q c) stands) in
    let n = length-drop q c in
    let off : k - q ≡ x = omega (arith, e) in
    let at-cell : refuted_at (k - q) ≡ x = ap refuted_at off ∙ ap (λ t. cond {A = ℕ} t x (suc x)) is in
    let told = fault-told errors k q c b s one stands
    (record { behind = omega (arith, e, low); before = omega (arith, e, high) })
    (omega (arith, room, n, at-cell, high, low)) in
    let place : q + refuted_at (k - q) ≡ k = ap (λ y. q + y) at-cell ∙ e in
    subst (λ w. IsTheReport (spoiled errors c) q (Fault q k w)) (ap why_of at-cell ∙ cause)
    (subst (λ p. IsTheReport (spoiled errors c) q (Fault q p (why_of (refuted_at (k - q))))) place told)

pub biphase-told : (errors : Errors) (q n slot : ℕ) (c : List Level) (b : List (List Bool)) (s : Level)
    → IsOne errors Changed (slot_cell (q + 64 * n) slot)
    → StandsClosed b s (drop q c) → n < block_subframes → 4 ≤ slot → slot ≤ 31
    → IsTheReport (spoiled errors c) q (Fault q (slot_cell (q + 64 * n) slot) Biphase)
biphase-told errors q n slot c b s one stands inside first last =
    let m = block_len_24576 in
    let o = block_subframes_384 in
    let x = 64 * n + (8 + 2 * (slot - 4)) in
    let f = le-ltb (x % 64) 8 (omega (arith, first, last)) in
    let g = eq-eqb (x % 2) 0 (omega (arith, first)) in
    let u = ne_eqb x block_len (λ e. omega (arith, e, m, o, inside, last)) in
    determined-told errors (slot_cell (q + 64 * n) slot) q x c b s Biphase one stands (omega arith)
    (omega arith) (omega (arith, m, o, inside, last)) (rw (f, g) refl) (rw (u, f) refl)

pub preamble-told : (errors : Errors) (q n : ℕ) (c : List Level) (b : List (List Bool)) (s : Level)
    → IsOne errors Changed (preamble_cell (q + 64 * n))
    → StandsClosed b s (drop q c) → 0 < n → n < block_subframes
    → IsTheReport (spoiled errors c) q (Fault q (preamble_cell (q + 64 * n)) Preamble)
preamble-told errors q n c b s one stands some inside =
    let m = block_len_24576 in
    let o = block_subframes_384 in
    let x = 64 * n + 2 in
    let f = lt-ltb (x % 64) 8 (omega arith) in
    let u = ne_eqb x block_len (λ e. omega (arith, e, m, o, inside)) in
    determined-told errors (preamble_cell (q + 64 * n)) q x c b s Preamble one stands (omega arith)
    (omega (arith, some)) (omega (arith, m, o, inside)) (rw f refl) (rw (u, f) refl)

-- with the third cell of its first preamble changed, no block begins there
ends-of : (s : Level) (rest : List Level) → outcome_at (changed 2 (line s (mark_runs Z) ++ rest)) ≡ None
unfolding outcome_at begins_with
ends-of Low rest = refl
ends-of High rest = refl

ends : (s : Level) (d : List Level) → take 8 d ≡ line s (mark_runs Z) → outcome_at (changed 2 d) ≡ None
ends s d is =
    ap (λ c. outcome_at (changed 2 c)) (sym (take-append-drop 8 d) ∙ ap (λ c. c ++ drop 8 d) is)
    ∙ ends-of s (drop 8 d)

pub first-untold : (errors : Errors) (q : ℕ) (c : List Level) (b : List (List Bool)) (s : Level)
    → IsOne errors Changed (preamble_cell q) → StandsClosed b s (drop q c)
    → (r : Report) → Contains (reports (spoiled errors c)) r → place_of r ≢ q
first-untold errors q c b s one stands r there place =
    let m = standing-mark _ s (drop q c) (block-stands b s (drop q c) stands) in
    let a : preamble_cell q - q ≡ 2 = omega arith in
    let e : drop q (changed (preamble_cell q) c) ≡ changed 2 (drop q c) =
    drop-changed q (preamble_cell q) c (omega arith) ∙ ap (λ x. changed x (drop q c)) a in
    let t = report-at (changed (preamble_cell q) c) q r
    (subst (λ (d : List Level). Contains (reports d) r) (changed-one errors (preamble_cell q) c one) there) place in
    let y : None ≡ Some t.0 = sym (ends s (drop q c) m.is) ∙ ap outcome_at (sym e) ∙ t.1 in
    cc
