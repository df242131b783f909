use Rattle.std.proofs.Common.{◌≡◌, ◌++◌, List, length}
use Rattle.aes3_level.specs.declared.level.Level.{Level}
use Rattle.aes3_level.specs.Remaining.{all_of}
use Rattle.aes3_level.specs.Words.{cells_in}
use Rattle.aes3_input.proofs.Handing.{Handed}
use Rattle.aes3_input.proofs.taker.take_all.Given as goal

abbrev pub invariant-loop-cells : goal.invariant-loop-cells
invariant-loop-cells g l = record {
  front : List Level;
  parts : cells_in l.words 0 l.len ≡ front ++ all_of l.cells;
  handed : Handed (g.K.Taker.state l.fn.taker).writes (g.K.Taker.state l.taker).writes
      (g.K.Taker.state l.fn.taker).follows
      (g.K.Taker.state l.taker).follows
      (g.T.Sink.taken l.fn.sink) (g.T.Sink.taken l.sink) front;
  quiet : g.T.Sink.failed l.sink ≡ g.T.Sink.failed l.fn.sink;
}

abbrev pub decreases-loop-cells : goal.decreases-loop-cells
decreases-loop-cells g l = length (all_of l.cells)
