use Rattle.std.proofs.Common.{◌≡◌, ◌+◌, ◌-◌, ◌≤◌, length}
use Rattle.aes3_wave_runs.proofs.HeaderRuns.{ReadSo}
use Rattle.aes3_wave_runs.proofs.header.read_header.Given as goal

abbrev pub invariant-pieces : goal.invariant-pieces
invariant-pieces g l = record {
  so : ReadSo (g.S.Source.given l.fn.source) (g.S.Source.given l.source) l.reader l.seen;
  short : l.seen ≤ l.max_bytes;
  quiet : g.S.Source.failed l.source ≡ g.S.Source.failed l.fn.source;
  buffer : length l.piece ≡ 4096;
}

abbrev pub decreases-pieces : goal.decreases-pieces
decreases-pieces g l = l.max_bytes + 1 - l.seen
