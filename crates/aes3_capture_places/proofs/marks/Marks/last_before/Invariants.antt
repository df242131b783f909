use Rattle.aes3_capture_places.specs.Marks.{IsLast}
use Rattle.aes3_capture_places.proofs.marks.Marks.last_before.Given as goal

abbrev pub invariant-loop-i : goal.invariant-loop-i
invariant-loop-i l = IsLast l.self.kept l.i l.cell l.last
