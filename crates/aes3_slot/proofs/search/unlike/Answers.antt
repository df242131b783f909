use Rattle.std.proofs.Common.{arith, rules}
use Rattle.aes3_slot.proofs.Windows.{unlike-bit}
use Rattle.aes3_slot.proofs.search.unlike.Goals as goal

pub returns : goal.returns
returns c = λ k h.
    search (rules, unlike-bit c.args.cells c.args.next c.args.distance k (omega arith) c.requires.0 c.requires.1 h)
