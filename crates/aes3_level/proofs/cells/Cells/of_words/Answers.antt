use Rattle.std.proofs.Common.{◌-◌, ◌/◌, length, take, drop, ap, sym, ◌∙◌, arith}
use Rattle.aes3_level.specs.Words.{cells_in}
use Rattle.aes3_level.proofs.Remaining.{words-from}
use Rattle.aes3_level.proofs.cells.Cells.of_words.Goals as goal

pub returns-then-at-eq0 : goal.returns-then-at-eq0
returns-then-at-eq0 c =
    let ws = c.args.words.now in
    let k = c.args.first / 64 in
    ap (λ s. cells_in (take (length ws - k) (drop k ws)) s c.args.len) (sym c.if-at-eq0.true)
    ∙ words-from ws c.args.first c.args.len (let h = c.requires in omega (arith, h))

pub returns : goal.returns
returns c = c.begun_at.ensures
    ∙ words-from c.args.words.now c.args.first c.args.len (let h = c.requires in omega (arith, h))
