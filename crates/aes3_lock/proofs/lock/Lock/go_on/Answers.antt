use Rattle.std.proofs.Common.{◌≡◌, ℕ, w64, ◌+◌, ◌-◌, ◌/◌, ◌%◌, ◌^◌, ◌<◌, List, [], ◌∷◌, ◌++◌, Some, set, drop}
use Rattle.std.proofs.Common.{append-nil, refl, sym, ap, subst, ◌∙◌, arith}
use Rattle.std.specs.Prelude.{option_map, option_to_list}
use Rattle.std.specs.Int.{trailing_zeros}
use Rattle.aes3_level.specs.declared.level.Level.{Level}
use Rattle.aes3_level.specs.Words.{low_cells}
use Rattle.aes3_lock.specs.declared.report.Report.TheVariants.{Fault}
use Rattle.aes3_lock.specs.Outcomes.{why_of}
use Rattle.aes3_lock.specs.Reports.{decided}
use Rattle.aes3_lock.specs.Following.{LockState, Follows, HeldBlock, Stops, report_in}
use Rattle.aes3_lock.proofs.Following.{past-stops}
use Rattle.aes3_lock.proofs.PartWords.{Begun, all-right, next-wrong, part-next, part-whole, part-refuted}
use Rattle.aes3_lock.proofs.PushedWords.{none-told}
use Rattle.aes3_lock.proofs.HeldBlocks.{none-held, fault-held}
use Rattle.aes3_lock.proofs.lock.Lock.go_on.Goals as goal
use Rattle.aes3_lock.proofs.lock.Lock.go_on.Goals.{After-one, After-refute, After-quiet, After-quiet-2}
use Rattle.aes3_frame.proofs.CellLaws.{block_len_24576}

-- a cell behind a whole block
past : (c : After-one) → Stops c.args.self.now c.first_cell.result
past c =
    past-stops _ c.args.candidate _ c.requires.in_hand
    (let b = block_len_24576 in let o = c.if-offset-ge-BLOCK_CELLS.true in
    let s = ap (λ (k : LockState). k.seen) c.self.view_is in omega (arith, b, o, s))

pub returns-then-offset-ge-BLOCK_CELLS-clause-follows : goal.returns-then-offset-ge-BLOCK_CELLS-clause-follows
returns-then-offset-ge-BLOCK_CELLS-clause-follows c = λ l f.
    subst (λ m. Follows c.stop-ending.new.self (l ++ low_cells m c.args.word)) (sym c.one.ensures.taken)
    (subst (λ x. Follows c.stop-ending.new.self (l ++ x ∷ [])) c.first_cell.ensures
    (c.stop-ending.ensures.follows l f (past c)))

pub returns-then-offset-ge-BLOCK_CELLS-clause-report : goal.returns-then-offset-ge-BLOCK_CELLS-clause-report
returns-then-offset-ge-BLOCK_CELLS-clause-report c = λ l f.
    ap (λ m. decided (l ++ low_cells m c.args.word)) c.one.ensures.taken
    ∙ ap (λ x. decided (l ++ x ∷ [])) (sym c.first_cell.ensures) ∙ c.stop-ending.ensures.report l f (past c)
    ∙ ap (λ e. decided l ++ option_to_list (option_map (report_in c.stop-ending.new.self) e)) (sym c.one.ensures.ending)

pub returns-then-offset-ge-BLOCK_CELLS-clause-last : goal.returns-then-offset-ge-BLOCK_CELLS-clause-last
returns-then-offset-ge-BLOCK_CELLS-clause-last c = λ _ l f.
    ap (λ m. decided (l ++ low_cells (m - 1) c.args.word)) c.one.ensures.taken ∙ ap decided (append-nil l)

-- a cell of the word refutes the candidate
abbrev right : After-refute → ℕ
right c = trailing_zeros w64 (c.wrong_cells.result / 2 ^ ((c.self.inside.seen - c.args.candidate.at) % 64))

refuted : (c : After-refute) (l : List Level) → Follows c.args.self.now l
    → Follows c.refute.new.self (l ++ low_cells (right c + 1) c.args.word)
    × (decided (l ++ low_cells (right c + 1) c.args.word)
    ≡ decided l ++ Fault c.args.candidate.at (c.self.inside.seen + right c)
    (why_of (c.self.inside.seen + right c - c.args.candidate.at)) ∷ [])
    × (decided (l ++ low_cells (right c) c.args.word) ≡ decided l)
refuted c l f =
    let b = block_len_24576 in
    let o = c.if-offset-ge-BLOCK_CELLS.false in
    let h = c.if-right-taken.true in
    let m = c.min-taken.ensures in
    let n = right c in
    part-refuted _ c.refute.new.self c.args.candidate l c.args.word c.complete_subframe-cells.result n
    (subst (λ k. Follows k l) (sym c.self.view_is) f)
    (ap (λ (k : LockState). k.candidate) c.self.view_is ∙ c.requires.in_hand) c.self.invariant.1
    (record { cells = c.complete_subframe-cells.ensures; fits = omega (arith, m, h); room = omega (arith, b, o) })
    (omega (arith, m, h))
    (all-right c.args.candidate _ _ _ _ (omega arith) c.mark_of.ensures c.wrong_cells.ensures n (omega arith)
    (omega (arith, m, h)))
    (next-wrong c.args.candidate _ _ _ _ (omega arith) c.mark_of.ensures c.wrong_cells.ensures n refl
    (omega (arith, m, h)))
    (c.refute.ensures.seen ∙ ap (λ (k : LockState). k.seen + (right c + 1)) (sym c.self.view_is))
    (c.refute.ensures.recent
    ∙ ap (λ (k : LockState). drop (right c + 1) (k.recent ++ low_cells (right c + 1) c.args.word))
    (sym c.self.view_is)) c.refute.ensures.candidate c.refute.ensures.subframe c.refute.ensures.few

pub returns-then-right-taken-clause-follows : goal.returns-then-right-taken-clause-follows
returns-then-right-taken-clause-follows c = λ l f.
    subst (λ m. Follows c.refute.new.self (l ++ low_cells m c.args.word)) (sym c.refute.ensures.taken) (refuted c l f).0

pub returns-then-right-taken-clause-report : goal.returns-then-right-taken-clause-report
returns-then-right-taken-clause-report c = λ l f.
    ap (λ m. decided (l ++ low_cells m c.args.word)) c.refute.ensures.taken ∙ (refuted c l f).1
    ∙ ap (λ (k : LockState). decided l ++ Fault c.args.candidate.at (k.seen + right c)
    (why_of (k.seen + right c - c.args.candidate.at)) ∷ []) c.self.view_is
    ∙ ap (λ e. decided l ++ option_to_list (option_map (report_in c.refute.new.self) e)) (sym c.refute.ensures.ending)

pub returns-then-right-taken-clause-last : goal.returns-then-right-taken-clause-last
returns-then-right-taken-clause-last c = λ _ l f.
    let t = c.refute.ensures.taken in
    ap (λ m. decided (l ++ low_cells m c.args.word)) (let e : c.refute.result.taken - 1 ≡ right c = omega (arith, t) in
    e) ∙ (refuted c l f).2

-- none does, and the subframe isn't whole then
abbrev next : After-quiet → LockState
next c = record {
  seen = c.self-2.inside.seen;
  recent = low_cells 8 c.self-2.inside.recent;
  candidate = c.self-2.inside.candidate;
  subframe = c.first_of-self-inside.result;
  words = c.self-2.inside.words;
}

begun : (c : After-quiet)
    → Begun c.first_of-self-inside.result c.complete_subframe-cells.result c.min-taken.result
    (c.self.inside.seen - c.args.candidate.at)
begun c =
    let e = c.if-end-lt-SUBFRAME_CELLS.true in
    let t = c.from.ensures in
    record {
      short = omega (arith, e, t);
      cells = subst
          (λ j. low_cells ((c.self.inside.seen - c.args.candidate.at) % 64 + j) c.first_of-self-inside.result
          ≡ low_cells ((c.self.inside.seen - c.args.candidate.at) % 64 + j) c.complete_subframe-cells.result)
          t c.first_of-self-inside.ensures.cells;
      few = subst (λ j. c.first_of-self-inside.result < 2 ^
          ((c.self.inside.seen - c.args.candidate.at) % 64 + j)) t c.first_of-self-inside.ensures.few;
    }

goes-next : (c : After-quiet) (l : List Level) → Follows c.args.self.now l
    → Follows (next c) (l ++ low_cells c.min-taken.result c.args.word)
    × (decided (l ++ low_cells c.min-taken.result c.args.word) ≡ decided l)
goes-next c l f =
    let b = block_len_24576 in
    let o = c.if-offset-ge-BLOCK_CELLS.false in
    let h = c.if-right-taken.false in
    let m = c.min-taken.ensures in
    part-next _ c.args.candidate l c.args.word c.complete_subframe-cells.result c.min-taken.result
    (subst (λ k. Follows k l) (sym c.self.view_is) f)
    (ap (λ (k : LockState). k.candidate) c.self.view_is ∙ c.requires.in_hand)
    (record { cells = c.complete_subframe-cells.ensures; fits = omega (arith, m); room = omega (arith, b, o) })
    (all-right c.args.candidate _ _ _ _ (omega arith) c.mark_of.ensures c.wrong_cells.ensures c.min-taken.result
    (omega (arith, h)) (omega (arith, m)))
    (next c)
    (ap (λ (k : LockState). k.seen) c.self-2.view_is ∙ c.count.ensures.seen
    ∙ ap (λ (k : LockState). k.seen + c.min-taken.result) (sym c.self.view_is))
    (ap (λ (k : LockState). k.recent) c.self-2.view_is ∙ c.count.ensures.recent
    ∙ ap (λ (k : LockState). drop c.min-taken.result (k.recent ++ low_cells c.min-taken.result c.args.word))
    (sym c.self.view_is))
    (ap (λ (k : LockState). k.candidate) c.self-2.view_is ∙ c.count.ensures.candidate ∙ c.requires.in_hand)
    (ap (λ (k : LockState). k.words) c.self-2.view_is ∙ c.count.ensures.words
    ∙ ap (λ (k : LockState). k.words) (sym c.self.view_is))
    (begun c)

pub returns-then-end-lt-SUBFRAME_CELLS-clause-follows : goal.returns-then-end-lt-SUBFRAME_CELLS-clause-follows
returns-then-end-lt-SUBFRAME_CELLS-clause-follows c =
    λ l f. subst (λ m. Follows (next c) (l ++ low_cells m c.args.word)) (sym c.quiet.ensures.taken) (goes-next c l f).0

pub returns-then-end-lt-SUBFRAME_CELLS-clause-report : goal.returns-then-end-lt-SUBFRAME_CELLS-clause-report
returns-then-end-lt-SUBFRAME_CELLS-clause-report c = λ l f.
    none-told (report_in
    (next c)) l c.args.word c.min-taken.result c.quiet.result.taken c.quiet.result.ending c.quiet.ensures.taken
    c.quiet.ensures.ending (goes-next c l f).1

-- or it is
abbrev whole : After-quiet-2 → LockState
whole c = record {
  seen = c.self-2.inside.seen;
  recent = low_cells 8 c.self-2.inside.recent;
  candidate = Some (record { at = c.args.candidate.at; before = c.args.candidate.before; level = c.last_of.result });
  subframe = 0;
  words = c.keep.new.self;
}

goes-whole : (c : After-quiet-2) (l : List Level) → Follows c.args.self.now l
    → Follows (whole c) (l ++ low_cells c.min-taken.result c.args.word)
    × (decided (l ++ low_cells c.min-taken.result c.args.word) ≡ decided l)
goes-whole c l f =
    let b = block_len_24576 in
    let o = c.if-offset-ge-BLOCK_CELLS.false in
    let h = c.if-right-taken.false in
    let m = c.min-taken.ensures in
    let e = c.if-end-lt-SUBFRAME_CELLS.false in
    let t = c.from.ensures in
    part-whole _ c.args.candidate l c.args.word c.complete_subframe-cells.result c.min-taken.result
    (subst (λ k. Follows k l) (sym c.self.view_is) f)
    (ap (λ (k : LockState). k.candidate) c.self.view_is ∙ c.requires.in_hand)
    (record { cells = c.complete_subframe-cells.ensures; fits = omega (arith, m); room = omega (arith, b, o) })
    (all-right c.args.candidate _ _ _ _ (omega arith) c.mark_of.ensures c.wrong_cells.ensures c.min-taken.result
    (omega (arith, h)) (omega (arith, m)))
    (whole c)
    (ap (λ (k : LockState). k.seen) c.self-2.view_is ∙ c.count.ensures.seen
    ∙ ap (λ (k : LockState). k.seen + c.min-taken.result) (sym c.self.view_is))
    (ap (λ (k : LockState). k.recent) c.self-2.view_is ∙ c.count.ensures.recent
    ∙ ap (λ (k : LockState). drop c.min-taken.result (k.recent ++ low_cells c.min-taken.result c.args.word))
    (sym c.self.view_is))
    (ap (λ v. Some (record {
      at = c.args.candidate.at;
      before = c.args.candidate.before;
      level = v;
    })) c.last_of.ensures) refl
    (c.keep.ensures ∙ ap (λ v. set v ((c.self.inside.seen - c.args.candidate.at) / 64) c.complete_subframe-cells.result)
    (ap (λ (k : LockState). k.words) c.self-2.view_is ∙ c.count.ensures.words
    ∙ ap (λ (k : LockState). k.words) (sym c.self.view_is)))
    c.self.invariant.1 (omega (arith, e, t, m))

pub returns-clause-follows : goal.returns-clause-follows
returns-clause-follows c =
    λ l f. subst (λ m. Follows (whole c) (l ++ low_cells m c.args.word)) (sym c.quiet-2.ensures.taken)
    (goes-whole c l f).0

pub returns-clause-report : goal.returns-clause-report
returns-clause-report c = λ l f.
    none-told (report_in
    (whole c)) l c.args.word c.min-taken.result c.quiet-2.result.taken c.quiet-2.result.ending
    c.quiet-2.ensures.taken c.quiet-2.ensures.ending (goes-whole c l f).1

-- what is held of a block that ends
pub returns-then-offset-ge-BLOCK_CELLS-clause-held : goal.returns-then-offset-ge-BLOCK_CELLS-clause-held
returns-then-offset-ge-BLOCK_CELLS-clause-held c = λ l f.
    let k = c.stop-ending.new.self in
    subst (HeldBlock k.words (l ++ low_cells c.one.result.taken c.args.word)) (sym c.one.ensures.ending)
    (subst (λ m. HeldBlock k.words (l ++ low_cells m c.args.word) (Some c.stop-ending.result)) (sym c.one.ensures.taken)
    (subst (λ x. HeldBlock k.words (l ++ x ∷ []) (Some c.stop-ending.result)) c.first_cell.ensures
    (c.stop-ending.ensures.held l f)))

pub returns-then-right-taken-clause-held : goal.returns-then-right-taken-clause-held
returns-then-right-taken-clause-held c = λ l f.
    fault-held c.refute.new.self.words (l ++ low_cells c.refute.result.taken c.args.word) c.refute.result.ending _ _ _
    c.refute.ensures.ending

pub returns-then-end-lt-SUBFRAME_CELLS-clause-held : goal.returns-then-end-lt-SUBFRAME_CELLS-clause-held
returns-then-end-lt-SUBFRAME_CELLS-clause-held c = λ l f.
    none-held (next c).words (l ++ low_cells c.quiet.result.taken c.args.word) c.quiet.result.ending
    c.quiet.ensures.ending

pub returns-clause-held : goal.returns-clause-held
returns-clause-held c = λ l f.
    none-held (whole c).words (l ++ low_cells c.quiet-2.result.taken c.args.word) c.quiet-2.result.ending
    c.quiet-2.ensures.ending
