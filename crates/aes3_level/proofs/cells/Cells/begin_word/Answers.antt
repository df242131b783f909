use Rattle.std.proofs.Common.{◌∙◌, List, ◌++◌, length, take, drop, ap, sym, arith}
use Rattle.std.specs.List.{flat_map}
use Rattle.std.proofs.lemmas.List.{nil_from_length}
use Rattle.aes3_level.specs.declared.level.Level.{Level}
use Rattle.aes3_level.specs.Remaining.{Remaining, all_of}
use Rattle.aes3_level.specs.Words.{low_cells, word_cells}
use Rattle.aes3_level.proofs.Remaining.{all-length, begun, here-length}
use Rattle.aes3_level.proofs.cells.Cells.begin_word.Goals as goal

pub returns-then-self-clause-some : goal.returns-then-self-clause-some
returns-then-self-clause-some c = λ _.
    let k = c.self.inside in
    let n = ap (λ (r : Remaining). length r.here) (sym c.self.view_is) ∙ here-length k.word k.at k.end in
    let h = c.if-self.true in
    omega (arith, n, h)

pub returns-then-self-eq0-clause-none : goal.returns-then-self-eq0-clause-none
returns-then-self-eq0-clause-none c = λ _.
    let k = c.self.inside in
    let n = ap (λ (r : Remaining). length (all_of r)) (sym c.self.view_is)
    ∙ all-length k.word k.at k.end k.words.now k.rest c.self.invariant.2 in
    let h = c.if-self.false in
    let z = c.if-self-eq0.true in
    nil_from_length (all_of c.args.self.now) (omega (arith, n, h, z))

pub returns-then-self-clause-begun : goal.returns-then-self-clause-begun
returns-then-self-clause-begun c = λ _.
    let k = c.self.inside in
    let n = ap (λ (r : Remaining). length r.here) (sym c.self.view_is) ∙ here-length k.word k.at k.end in
    let h = c.if-self.true in
    omega (arith, n, h)

pub returns-then-self-eq0-clause-begun : goal.returns-then-self-eq0-clause-begun
returns-then-self-eq0-clause-begun c = λ some.
    let k = c.self.inside in
    let n = ap (λ (r : Remaining). length (all_of r)) (sym c.self.view_is)
    ∙ all-length k.word k.at k.end k.words.now k.rest c.self.invariant.2 in
    let h = c.if-self.false in
    let z = c.if-self-eq0.true in
    absurd (omega (arith, n, h, z, some))

pub returns-clause-all : goal.returns-clause-all
returns-clause-all c =
    let k = c.self.inside in
    let h = c.if-self.false in
    let n = here-length k.word k.at k.end in
    sym (begun k.words.now k.rest c.min-len.result (omega arith) (let e = c.min-len.ensures in omega (arith, e)))
    ∙ ap (λ (d : List Level). d ++ take k.rest (flat_map word_cells k.words.now))
    (sym (nil_from_length (drop k.at (low_cells k.end k.word)) (omega (arith, n, h))))
    ∙ ap all_of c.self.view_is
