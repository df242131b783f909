use Rattle.std.proofs.Common.{◌≡◌, ◌≤◌, ◌-◌, ◌%◌, ◌++◌, List, Some, length, take}
use Rattle.std.specs.List.{flat_map}
use Rattle.aes3_level.specs.declared.level.Level.{Level}
use Rattle.aes3_level.specs.Words.{word_cells}
use Rattle.aes3_frame.specs.Blocks.{block_subframes}
use Rattle.aes3_lock.specs.Reports.{decided}
use Rattle.aes3_lock.specs.Following.{Follows}
use Rattle.aes3_lock.proofs.EightWords.{lock_behind}
use Rattle.aes3_lock.proofs.lock.Lock.take_eights.Given as goal

abbrev pub invariant-loop-taken : goal.invariant-loop-taken
invariant-loop-taken l = record {
  within : l.taken ≤ length l.words;
  eights : l.taken % 8 ≡ 0;
  seen : l.self-inside.seen ≡ l.fn.self.seen;
  candidate : l.self-inside.candidate ≡ Some l.candidate;
  count : length l.self-inside.words ≡ block_subframes;
  follows : (cells : List Level) → Follows l.fn.self cells
      → Follows (lock_behind l.self-inside.seen l.self-inside.recent l.candidate l.behind l.self-inside.words l.taken)
      (cells ++ flat_map word_cells (take l.taken l.words));
  none : (cells : List Level) → Follows l.fn.self cells
      → decided (cells ++ flat_map word_cells (take l.taken l.words)) ≡ decided cells;
}

abbrev pub decreases-loop-taken : goal.decreases-loop-taken
decreases-loop-taken l = length l.words - l.taken
