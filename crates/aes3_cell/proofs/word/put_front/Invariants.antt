use Rattle.std.proofs.Common.{◌≡◌, ◌≤◌, ◌-◌, length, take}
use Rattle.std.specs.List.{flat_map}
use Rattle.aes3_cell.specs.Ends.{Grew}
use Rattle.aes3_level.specs.Words.{word_cells}
use Rattle.aes3_cell.specs.Written.{bytes_of}
use Rattle.aes3_cell.proofs.word.put_front.Given as goal

abbrev pub invariant-loop-many : goal.invariant-loop-many
invariant-loop-many g l = record {
  within : l.at ≤ length l.words;
  grew : Grew (g.T.Sink.taken l.fn.sink) (g.T.Sink.taken l.sink)
      (bytes_of l.form (flat_map word_cells (take l.at l.words)));
  quiet : g.T.Sink.failed l.sink ≡ g.T.Sink.failed l.fn.sink;
}

abbrev pub decreases-loop-many : goal.decreases-loop-many
decreases-loop-many g l = length l.words - l.at
