use Rattle.std.proofs.Common.{◌≡◌, length, map, take}
use Rattle.aes3_watch.specs.Signals.{last_cells}
use Rattle.aes3_watch.proofs.signals.last_cells_of.Given as goal

abbrev pub invariant-loop-i : goal.invariant-loop-i
invariant-loop-i l = record {
  long : length l.lasts ≡ 384;
  lasts : take l.i l.lasts ≡ map last_cells (take l.i l.words);
}
