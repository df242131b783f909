use Rattle.std.proofs.Common.{◌≡◌, ◌-◌, ◌%◌, ◌<◌, ◌≤◌, length, take}
use Rattle.aes3_capture_recovery.specs.Levels.{bit_of_line, bits_of_sample, levels_of_samples}
use Rattle.aes3_capture_recovery.specs.Taking.{Took}
use Rattle.aes3_capture_recovery.proofs.recovery_run.feed_chunks.Given as goal

abbrev pub invariant-loop-octets : goal.invariant-loop-octets
invariant-loop-octets g l = record {
  within : l.at ≤ length l.piece;
  places : l.at % 64 ≡ 0;
  quiet : g.T.Sink.failed l.sink ≡ g.T.Sink.failed l.fn.sink;
  took : bit_of_line l.fn.unit < bits_of_sample l.fn.unit → Took g.T.Sink.taken l.fn.recovery l.recovery l.fn.sink l.sink
      (levels_of_samples l.fn.unit (take l.at l.piece));
}

abbrev pub decreases-loop-octets : goal.decreases-loop-octets
decreases-loop-octets g l = length l.piece - l.at
