use Rattle.aes3_capture_places.specs.Marks.{IsFirst}
use Rattle.aes3_capture_places.proofs.marks.Marks.first_after.Given as goal

abbrev pub invariant-loop-i : goal.invariant-loop-i
invariant-loop-i l = IsFirst l.self.kept l.i l.cell l.first
