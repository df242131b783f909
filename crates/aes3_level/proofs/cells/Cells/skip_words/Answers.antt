use Rattle.std.proofs.Common.{◌*◌, length, drop, ap, sym, ◌∙◌, arith, rules}
use Rattle.aes3_level.specs.Remaining.{Remaining}
use Rattle.aes3_level.proofs.Remaining.{skipped, next-length}
use Rattle.aes3_level.proofs.cells.Cells.skip_words.Goals as goal

pub returns-clause-next : goal.returns-clause-next
returns-clause-next c =
    let k = c.self.inside in
    let ws = k.words.now in
    let i = c.self.invariant.2 in
    let n = ap (λ (r : Remaining). length r.next) (sym c.self.view_is) ∙ next-length ws k.rest i in
    let h = c.requires in
    skipped ws c.args.count k.rest _ (search rules) (omega (arith, n, h)) i
    ∙ ap (λ (r : Remaining). drop (64 * c.args.count) r.next) c.self.view_is
