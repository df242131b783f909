use Rattle.std.proofs.Common.{◌≡◌, ◌≤◌, take}
use Rattle.aes3_frame.proofs.SlotWords.{odd_count}
use Rattle.aes3_frame.proofs.parity.wrong_parities.Given as goal

abbrev pub invariant-loop-cells : goal.invariant-loop-cells
invariant-loop-cells l = record {
  count : l.wrong ≡ odd_count (take l.cells-index l.words);
  few : l.wrong ≤ l.cells-index;
}
