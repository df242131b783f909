use Rattle.std.proofs.Common.{arith}
use Rattle.aes3_spoil.proofs.Listed.{count-errors}
use Rattle.aes3_spoil.proofs.errors.Errors.room.Goals as goal

pub returns : goal.returns
returns c =
    let e = c.args.self.now in
    let n = count-errors e (omega arith) e.within in
    let w = e.within in
    omega (arith, n, w)
