use Rattle.std.proofs.Common.{◌≡◌, ◌*◌, length}
use Rattle.aes3_watch.proofs.SignalWords.{Alike}
use Rattle.aes3_watch.proofs.signals.carry_the_same.Given as goal

abbrev pub invariant-loop-i : goal.invariant-loop-i
invariant-loop-i l = record {
  lanes : length l.unlike ≡ 16;
  alike : Alike (16 * l.i) l.unlike l.words l.lasts;
}
