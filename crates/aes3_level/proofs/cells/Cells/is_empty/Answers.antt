use Rattle.std.proofs.Common.{length, ap, sym, ◌∙◌, arith}
use Rattle.std.proofs.lemmas.Bool.{eqb-true, eqb-false}
use Rattle.std.proofs.lemmas.List.{nil_from_length}
use Rattle.aes3_level.specs.Remaining.{Remaining, all_of}
use Rattle.aes3_level.proofs.Remaining.{all-length}
use Rattle.aes3_level.proofs.cells.Cells.is_empty.Goals as goal

pub returns-then-self-clause-none : goal.returns-then-self-clause-none
returns-then-self-clause-none c = λ e.
    let k = c.self.inside in
    let n = ap (λ (r : Remaining). length (all_of r)) (sym c.self.view_is)
    ∙ all-length k.word k.at k.end k.words.now k.rest c.self.invariant.2 in
    let s = c.if-self.true in
    let z = eqb-true _ _ e in
    nil_from_length (all_of c.args.self.now) (omega (arith, n, z, s))

pub returns-then-self-clause-some : goal.returns-then-self-clause-some
returns-then-self-clause-some c = λ e.
    let k = c.self.inside in
    let n = ap (λ (r : Remaining). length (all_of r)) (sym c.self.view_is)
    ∙ all-length k.word k.at k.end k.words.now k.rest c.self.invariant.2 in
    let z = eqb-false _ _ e in
    omega (arith, n, z)

pub returns-else-self-clause-some : goal.returns-else-self-clause-some
returns-else-self-clause-some c = λ e.
    let k = c.self.inside in
    let n = ap (λ (r : Remaining). length (all_of r)) (sym c.self.view_is)
    ∙ all-length k.word k.at k.end k.words.now k.rest c.self.invariant.2 in
    let s = c.self.invariant.0 in
    let z = eqb-false _ _ e in
    omega (arith, n, z, s)
