use Rattle.std.proofs.Common.{◌+◌, ◌∙◌, ap, arith, set, take}
use Rattle.std.proofs.lemmas.List.{take_more_set}
use Rattle.aes3_spoil.specs.Errors.{errors_of}
use Rattle.aes3_spoil.proofs.Listed.{count-errors}
use Rattle.aes3_spoil.proofs.errors.Errors.add.Goals as goal

pub bounds-self-self : goal.bounds-self-self
bounds-self-self c =
    let e = c.args.self.now in
    let n = count-errors e (omega arith) e.within in
    let r = c.requires.room in
    omega (arith, n, r)

pub invariant_of-self : goal.invariant_of-self
invariant_of-self c =
    let e = c.args.self.now in
    let n = count-errors e (omega arith) e.within in
    let r = c.requires.room in
    omega (arith, n, r)

pub returns-clause-list : goal.returns-clause-list
unfolding errors_of
returns-clause-list c =
    let e = c.args.self.now in
    let n = count-errors e (omega arith) e.within in
    let r = c.requires.room in
    ap (λ place. take (e.len + 1) (set e.list e.len (record { place = place; kind = c.args.kind }))) (omega arith)
    ∙ take_more_set e.list e.len _ (omega (arith, n, r))
