use Rattle.std.proofs.Common.{◌≡◌, ◌+◌, ◌-◌, ◌≤◌, length}
use Rattle.aes3_slot.specs.Preambles.{MarksAreTold}
use Rattle.aes3_slot.proofs.search.find_marks_of_eights.Given as goal

abbrev pub invariant-loop-i : goal.invariant-loop-i
invariant-loop-i l = record {
  within : l.i ≤ length l.words;
  len : length l.out ≡ length l.words;
  told : MarksAreTold l.words l.next l.out l.i;
}

abbrev pub decreases-loop-i : goal.decreases-loop-i
decreases-loop-i l = length l.words + 1 - l.i
