use Rattle.std.proofs.Common.{◌≡◌, map, take}
use Rattle.aes3_cell.specs.Ends.{Grew}
use Rattle.aes3_status.specs.Untaken.{untaken_lines}
use Rattle.aes3_program.proofs.remark.put_lines.Given as goal

abbrev pub invariant-lines : goal.invariant-lines
invariant-lines g l = record {
  grew : Grew (g.T.Sink.taken l.fn.sink) (g.T.Sink.taken l.sink)
      (untaken_lines l.channel l.settings l.taken 0 (take l.at (map (λ text. text.now) l.texts)));
  quiet : g.T.Sink.failed l.sink ≡ g.T.Sink.failed l.fn.sink;
}
