use Rattle.std.proofs.Common.{take, refl}
use Rattle.aes3_spoil.proofs.Listed.{at-errors, clear-both, clear-is, clear-one}
use Rattle.aes3_spoil.proofs.errors.Errors.clear_from.Goals as goal

pub loop-error-preserved : goal.loop-error-preserved
loop-error-preserved c =
    let e = c.args.self.now in
    clear-one (take e.len e.list) c.loop-error.error-index _ c.loop-error-test.true c.clear_with-clear.ensures.most
    c.loop-error.invariant c.clear_with-clear.ensures.clear

pub returns : goal.returns
returns c =
    let e = c.args.self.now in
    rw c.min.ensures
    (clear-is
    (λ kind i. at-errors e kind i (take e.len e.list) c.loop-error.error-index c.loop-error-test.false refl)
    (clear-both c.loop-error.clear c.cells_to_repeated.result c.loop-error.invariant c.cells_to_repeated.ensures))
