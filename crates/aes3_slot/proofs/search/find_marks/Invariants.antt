use Rattle.std.proofs.Common.{◌≡◌, length}
use Rattle.aes3_slot.specs.Preambles.{MarksAreTold}
use Rattle.aes3_slot.proofs.search.find_marks.Given as goal

abbrev pub invariant-loop-i : goal.invariant-loop-i
invariant-loop-i l = record {
  len : length l.out ≡ length l.words;
  told : MarksAreTold l.words l.next l.out l.i;
}
