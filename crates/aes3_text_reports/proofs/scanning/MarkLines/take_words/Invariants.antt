use Rattle.std.proofs.Common.{◌≡◌, ◌+◌, ◌≤◌, ◌++◌, List, length, take}
use Rattle.std.specs.List.{flat_map}
use Rattle.aes3_level.specs.declared.level.Level.{Level}
use Rattle.aes3_level.specs.Words.{word_cells}
use Rattle.aes3_input.specs.Taking.{behind}
use Rattle.aes3_text_lines.specs.Gathering.{AllButHeld}
use Rattle.aes3_text_reports.specs.Scanning.{Scanned, marking}
use Rattle.aes3_text_reports.proofs.scanning.MarkLines.take_words.Given as goal

abbrev pub invariant-loop-word : goal.invariant-loop-word
invariant-loop-word g l = record {
  next : (c : List Level) → Scanned l.fn.self.scan l.fn.self.marks c
      → Scanned l.self.scan l.self.marks (c ++ flat_map word_cells (take l.word-index l.words));
  held : (c : List Level) → Scanned l.fn.self.scan l.fn.self.marks c
      → AllButHeld (g.T.Sink.taken l.fn.sink) (g.T.Sink.taken l.sink) l.fn.self.lines l.self.lines
      (behind marking c (flat_map word_cells (take l.word-index l.words)));
  fits : length l.self.lines + 40 ≤ 4096;
  quiet : g.T.Sink.failed l.sink ≡ g.T.Sink.failed l.fn.sink;
}
