use Rattle.std.proofs.Common.{ℕ, ◌≡◌, ◌/◌, ◌%◌, ◌^◌, sym, ap, ◌∙◌, get_or, arith}
use Rattle.aes3_level.specs.declared.level.Level.TheVariants.{Low}
use Rattle.aes3_level.specs.Words.{level_of}
use Rattle.aes3_level.proofs.WordCells.{low_cells-at}
use Rattle.aes3_lock.proofs.rule.preamble_cell.Goals as goal

even-if-not-odd : (x : ℕ) → (x % 2 ≡ 1 → ⊥) → x % 2 ≡ 0
even-if-not-odd x h = omega (arith, h)

pub returns-then-mark_cells-k-eq1 : goal.returns-then-mark_cells-k-eq1
returns-then-mark_cells-k-eq1 c =
    ap level_of (sym c.if-mark_cells-k-eq1.true) ∙ sym (low_cells-at 8 c.mark_cells.result c.args.k c.requires)
    ∙ ap (λ l. get_or l c.args.k Low) c.mark_cells.ensures.cells

pub returns-else-mark_cells-k-eq1 : goal.returns-else-mark_cells-k-eq1
returns-else-mark_cells-k-eq1 c =
    ap level_of (sym (even-if-not-odd (c.mark_cells.result / 2 ^ c.args.k) c.if-mark_cells-k-eq1.false))
    ∙ sym (low_cells-at 8 c.mark_cells.result c.args.k c.requires)
    ∙ ap (λ l. get_or l c.args.k Low) c.mark_cells.ensures.cells
