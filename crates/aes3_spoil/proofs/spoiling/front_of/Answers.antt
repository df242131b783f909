use Rattle.aes3_spoil.proofs.FrontBits.{front-below, front-other, front-same}
use Rattle.aes3_spoil.proofs.spoiling.front_of.Goals as goal
use Rattle.std.proofs.Common.{arith}

pub returns-then-is_inverted-clause-cells : goal.returns-then-is_inverted-clause-cells
returns-then-is_inverted-clause-cells c =
    rw c.if-is_inverted.true (front-other c.args.len c.args.word c.requires.few (omega arith))

pub returns-then-is_inverted-clause-no_more : goal.returns-then-is_inverted-clause-no_more
returns-then-is_inverted-clause-no_more c = front-below c.args.len _ c.requires.few

pub returns-else-is_inverted-clause-cells : goal.returns-else-is_inverted-clause-cells
returns-else-is_inverted-clause-cells c = rw c.if-is_inverted.false (front-same c.args.len c.args.word c.requires.few)

pub returns-else-is_inverted-clause-no_more : goal.returns-else-is_inverted-clause-no_more
returns-else-is_inverted-clause-no_more c = front-below c.args.len _ c.requires.few
