use Rattle.std.proofs.Common.{arith}
use Rattle.aes3_spoil.proofs.Listed.{clear-first, clear-next}
use Rattle.aes3_spoil.proofs.kinds.cells_to_multiple.Goals as goal

pub returns-then-place-eq0 : goal.returns-then-place-eq0
returns-then-place-eq0 c = rw c.if-place-eq0.true (clear-first c.args.every)

pub returns-else-over-eq0 : goal.returns-else-over-eq0
returns-else-over-eq0 c =
    let no = c.if-every-eq0.false in
    clear-next c.args.every c.args.place (omega (arith, no)) c.if-over-eq0.false
