use Rattle.std.proofs.Common.{◌≡◌, ℕ, List, Option, Some, None, IfSome, take, map, sym, ◌∙◌}
use Rattle.aes3_cell.specs.Text.{byte_of}
use Rattle.aes3_level.specs.Words.{word_cells}
use Rattle.aes3_cell.proofs.cell_text.feed_front.Goals as goal

same : (xs ys : List ℕ) (word : Option ℕ) → ys ≡ xs → IfSome word (λ w. ys ≡ map byte_of (word_cells w))
    → IfSome word (λ w. xs ≡ map byte_of (word_cells w))
same xs ys (Some w) e h = sym e ∙ h
same xs ys None e h = tt

pub returns-in-Some-clause-cells : goal.returns-in-Some-clause-cells
returns-in-Some-clause-cells c =
    same (take 64 c.args.piece.now) c.in-Some.bytes.now c.feed_word.result c.in-Some.ensures.cases.same
    c.feed_word.ensures.cells
