use Rattle.std.proofs.Common.{length, ap, sym, ◌∙◌, arith}
use Rattle.aes3_level.specs.Remaining.{Remaining}
use Rattle.aes3_level.proofs.Remaining.{here-length}
use Rattle.aes3_level.proofs.cells.Cells.skip.Goals as goal

pub overflow_add-self : goal.overflow_add-self
overflow_add-self c =
    let k = c.self.inside in
    let n = ap (λ (r : Remaining). length r.here) (sym c.self.view_is) ∙ here-length k.word k.at k.end in
    let h = c.requires in
    let i = c.self.invariant in
    let a = i.0 in
    let b = i.1 in
    omega (arith, n, h, a, b)

pub invariant_of-self : goal.invariant_of-self
invariant_of-self c =
    let k = c.self.inside in
    let n = ap (λ (r : Remaining). length r.here) (sym c.self.view_is) ∙ here-length k.word k.at k.end in
    let h = c.requires in
    let i = c.self.invariant in
    let a = i.0 in
    (omega (arith, n, h, a), i.1, i.2)
