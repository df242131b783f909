use Rattle.std.proofs.Common.{◌≡◌, ◌≤◌, ◌+◌, ◌*◌, ◌-◌, ◌++◌, List, length, take}
use Rattle.std.specs.List.{flat_map}
use Rattle.aes3_level.specs.declared.level.Level.{Level}
use Rattle.aes3_level.specs.Words.{word_cells}
use Rattle.aes3_lock.specs.Reports.{decided}
use Rattle.aes3_lock.specs.Following.{Follows}
use Rattle.aes3_lock.proofs.lock.Lock.take_words.Given as goal

abbrev pub invariant-loop-taken : goal.invariant-loop-taken
invariant-loop-taken l = record {
  within : l.taken ≤ length l.words;
  seen : l.self.seen ≡ l.fn.self.seen + 64 * l.taken;
  follows : (cells : List Level) → Follows l.fn.self cells
      → Follows l.self (cells ++ flat_map word_cells (take l.taken l.words));
  none : (cells : List Level) → Follows l.fn.self cells
      → decided (cells ++ flat_map word_cells (take l.taken l.words)) ≡ decided cells;
}

abbrev pub decreases-loop-taken : goal.decreases-loop-taken
decreases-loop-taken l = length l.words - l.taken
