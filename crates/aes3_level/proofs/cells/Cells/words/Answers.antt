use Rattle.std.proofs.Common.{◌*◌, ◌/◌, length, take, ap, sym, ◌∙◌, arith}
use Rattle.aes3_level.specs.Remaining.{Remaining}
use Rattle.aes3_level.proofs.Remaining.{whole-cells, whole-length, next-length}
use Rattle.aes3_level.proofs.cells.Cells.words.Goals as goal

pub returns-clause-within : goal.returns-clause-within
returns-clause-within c =
    let k = c.self.inside in
    let ws = k.words.now in
    let i = c.self.invariant.2 in
    let n = ap (λ (r : Remaining). length r.next) (sym c.self.view_is) ∙ next-length ws k.rest i in
    let w = whole-length ws k.rest i in
    omega (arith, n, w)

pub returns-clause-cells : goal.returns-clause-cells
returns-clause-cells c =
    let k = c.self.inside in
    whole-cells k.words.now k.rest c.self.invariant.2
    ∙ ap (λ (r : Remaining). take (64 * length (take (k.rest / 64) k.words.now)) r.next) c.self.view_is

pub returns-clause-all : goal.returns-clause-all
returns-clause-all c =
    let k = c.self.inside in
    let i = c.self.invariant.2 in
    let n = ap (λ (r : Remaining). length r.next) (sym c.self.view_is) ∙ next-length k.words.now k.rest i in
    whole-length k.words.now k.rest i ∙ ap (λ m. m / 64) (sym n)
