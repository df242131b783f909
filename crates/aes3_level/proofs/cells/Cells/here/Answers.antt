use Rattle.std.proofs.Common.{length, ap, sym, ◌∙◌, arith}
use Rattle.aes3_level.specs.Remaining.{Remaining}
use Rattle.aes3_level.proofs.Remaining.{here-length}
use Rattle.aes3_level.proofs.cells.Cells.here.Goals as goal

pub returns-clause-len : goal.returns-clause-len
returns-clause-len c =
    let k = c.self.inside in
    let n = ap (λ (r : Remaining). length r.here) (sym c.self.view_is) ∙ here-length k.word k.at k.end in
    omega (arith, n)
