use Rattle.std.proofs.Common.{sym}
use Rattle.aes3_slot.proofs.Marks.{mark_at-zero, mark_at-odd, mark_at-even}
use Rattle.aes3_slot.proofs.mark.mark_of.Goals as goal

pub returns-then-subframe-eq0 : goal.returns-then-subframe-eq0
returns-then-subframe-eq0 c = sym (mark_at-zero c.args.subframe c.if-subframe-eq0.true)

pub returns-then-subframe-eq1 : goal.returns-then-subframe-eq1
returns-then-subframe-eq1 c = sym (mark_at-odd c.args.subframe c.if-subframe-eq1.true)

pub returns-else-subframe-eq1 : goal.returns-else-subframe-eq1
returns-else-subframe-eq1 c = sym (mark_at-even c.args.subframe c.if-subframe-eq0.false c.if-subframe-eq1.false)
