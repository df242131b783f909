use Rattle.std.proofs.Common.{◌≡◌, ◌<◌, ◌≤◌, ◌+◌, ◌-◌, ◌*◌, ◌∷◌, take}
use Rattle.std.specs.List.{flat_map}
use Rattle.aes3_level.specs.Words.{level_of, word_cells}
use Rattle.aes3_capture_recovery.specs.Endings.{level_if}
use Rattle.aes3_capture_recovery.specs.Turns.{turns}
use Rattle.aes3_capture_recovery.proofs.Turning.{level_behind}
use Rattle.aes3_capture_recovery.proofs.edges.Places.find.Given as goal

abbrev pub invariant-loop-i : goal.invariant-loop-i
invariant-loop-i l = record {
  most : l.count ≤ 64 * l.i;
  bit : l.before < 2;
  level : level_of l.before ≡ level_behind (level_if l.high) (flat_map word_cells (take l.i l.words));
  places : take (l.count + 1) l.self.places
      ≡ (128 - l.waiting) ∷ turns (level_if l.high) 128 (flat_map word_cells (take l.i l.words));
  runs : l.self.runs ≡ l.fn.self.runs;
}
