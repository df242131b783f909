use Rattle.std.proofs.Common.{◌≡◌, ◌≤◌, ◌-◌, replicate}
use Rattle.aes3_capture_recovery.specs.Endings.{level_if}
use Rattle.aes3_capture_recovery.proofs.Queueing.{Put}
use Rattle.aes3_capture_recovery.proofs.queue.CellQueue.put.Given as goal

abbrev pub invariant-loop-left : goal.invariant-loop-left
invariant-loop-left g l = record {
  within : l.left ≤ l.cells;
  quiet : g.T.Sink.failed l.sink ≡ g.T.Sink.failed l.fn.sink;
  put : Put g.T.Sink.taken l.fn.self l.self l.fn.sink l.sink (replicate (l.cells - l.left) (level_if l.high));
}

abbrev pub decreases-loop-left : goal.decreases-loop-left
decreases-loop-left g l = l.left
