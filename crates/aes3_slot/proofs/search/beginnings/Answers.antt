use Rattle.std.proofs.Common.{arith}
use Rattle.aes3_slot.proofs.Windows.{says-and, says-not}
use Rattle.aes3_slot.proofs.search.beginnings.Goals as goal

pub returns : goal.returns
returns c = λ k h.
    (says-and
    (says-and (says-not (omega arith) h (record { is = c.unlike.ensures k h }))
    (says-not (omega arith) h (record { is = c.unlike-2.ensures k h })))
    (says-and (record { is = c.unlike-3.ensures k h }) (record { is = c.unlike-4.ensures k h }))).is
