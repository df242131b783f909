use Rattle.std.proofs.Common.{length, ap, sym, ◌∙◌, rules}
use Rattle.aes3_level.specs.Remaining.{Remaining}
use Rattle.aes3_level.proofs.Remaining.{here-length, here-value}
use Rattle.aes3_level.proofs.cells.Cells.word.Goals as goal

pub returns : goal.returns
returns c =
    let k = c.self.inside in
    let n = ap (λ (r : Remaining). length r.here) (sym c.self.view_is) ∙ here-length k.word k.at k.end in
    here-value k.word k.at k.end _ _ c.self.invariant.0 n (ap (λ (r : Remaining). r.here) c.self.view_is) (search rules)
