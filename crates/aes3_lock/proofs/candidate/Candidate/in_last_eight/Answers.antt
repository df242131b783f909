use Rattle.std.proofs.Common.{sym, ap, ◌∙◌, arith, refl}
use Rattle.aes3_level.specs.Cells.{line}
use Rattle.aes3_level.specs.Words.{low_cells}
use Rattle.aes3_slot.specs.declared.mark.Mark.TheVariants.{Z}
use Rattle.aes3_slot.specs.Slots.{mark_runs}
use Rattle.aes3_lock.proofs.Codes.{begun-Z, begun-short, begun-other, mark-Z, other-mark}
use Rattle.aes3_lock.proofs.candidate.Candidate.in_last_eight.Goals as goal
use Rattle.std.proofs.lemmas.Option.{none-some}

pub returns-then-seen-lt-PREAMBLE_CELLS-clause-value : goal.returns-then-seen-lt-PREAMBLE_CELLS-clause-value
returns-then-seen-lt-PREAMBLE_CELLS-clause-value c =
    sym (begun-short c.args.seen (low_cells 8 c.args.recent) (omega arith))

pub returns-in_default-clause-value : goal.returns-in_default-clause-value
returns-in_default-clause-value c =
    sym (begun-other c.args.seen (low_cells 8 c.args.recent) refl
    (λ s e. none-some _ (sym c.in_default.is ∙ c.match_mark.ensures.owed Z s e)))

pub returns-then-not-is_z-clause-value : goal.returns-then-not-is_z-clause-value
returns-then-not-is_z-clause-value c =
    sym (begun-other c.args.seen (low_cells 8 c.args.recent) refl (λ s e.
    other-mark c.in-Some.mark c.in-Some.before s c.match_mark.result c.in-Some.is (sym c.is_z.ensures
    ∙ c.if-not-is_z.true) (c.match_mark.ensures.owed Z s e)))

pub returns-clause-value : goal.returns-clause-value
returns-clause-value c =
    sym (begun-Z c.args.seen (low_cells 8 c.args.recent) c.in-Some.before (omega arith)
    (c.in-Some.ensures.some
    ∙ ap (λ m. line c.in-Some.before (mark_runs m))
    (mark-Z c.in-Some.mark (sym c.is_z.ensures ∙ c.if-not-is_z.false))))
