use Rattle.std.proofs.Common.{◌≡◌, take}
use Rattle.std.specs.List.{flat_map}
use Rattle.aes3_cell.specs.Ends.{Grew}
use Rattle.aes3_level.specs.Words.{word_cells}
use Rattle.aes3_cell.specs.Written.{bytes_of}
use Rattle.aes3_cell.proofs.word.put_each.Given as goal

abbrev pub invariant-loop-word : goal.invariant-loop-word
invariant-loop-word g l = record {
  grew : Grew (g.T.Sink.taken l.fn.sink) (g.T.Sink.taken l.sink)
      (bytes_of l.form (flat_map word_cells (take l.word-index l.words)));
  quiet : g.T.Sink.failed l.sink ≡ g.T.Sink.failed l.fn.sink;
}
