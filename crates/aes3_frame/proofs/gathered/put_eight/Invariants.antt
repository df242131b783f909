use Rattle.std.proofs.Common.{◌≡◌, length}
use Rattle.aes3_frame.specs.Gathered.{with_first}
use Rattle.aes3_frame.proofs.gathered.put_eight.Given as goal

abbrev pub invariant-loop-i : goal.invariant-loop-i
invariant-loop-i l = record {
  len : length l.words ≡ 384;
  kept : l.words ≡ with_first l.subframe l.fn.words l.subframes l.i;
}
