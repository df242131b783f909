use Rattle.std.proofs.Common.{◌≡◌, ℕ, List, Option, Some, None, IfSome, IsTrue, take, map, length, sym, ◌∙◌}
use Rattle.std.proofs.Common.{ap, rules}
use Rattle.std.specs.Option.{is_some}
use Rattle.aes3_level.specs.Words.{word_cells}
use Rattle.aes3_level.proofs.WordCells.{length-word_cells, word_len_64}
use Rattle.aes3_cell.specs.Text.{byte_of}
use Rattle.aes3_cell.specs.CellText.{cells_of_text}
use Rattle.aes3_cell.proofs.CellTexts.{cells-text}
use Rattle.aes3_cell.proofs.cell_text.is_line.Goals as goal

sixty_four : (o : Option ℕ) (xs ys : List ℕ) → ys ≡ xs → IfSome o (λ w. ys ≡ map byte_of (word_cells w))
    → IsTrue (is_some o) → length (cells_of_text xs) ≡ 64
sixty_four (Some w) xs ys e h t =
    ap (λ b. length (cells_of_text b)) (sym e ∙ h)
    ∙ ap length (cells-text (word_cells w)).1 ∙ length-word_cells w ∙ word_len_64
sixty_four None xs ys e h t = search rules

pub returns-in-Some : goal.returns-in-Some
returns-in-Some c t =
    sixty_four c.word_of_text.result (take 64 c.args.text.now) c.in-Some.bytes.now c.in-Some.ensures.cases.same
    c.word_of_text.ensures.cells (rw (sym c.is_some.ensures) t)
