use Rattle.std.proofs.Common.{◌≡◌, ◌+◌, ◌-◌, ◌≤◌, ◌++◌, List}
use Rattle.aes3_level.specs.declared.level.Level.{Level}
use Rattle.aes3_level.specs.Words.{low_cells}
use Rattle.aes3_lock.specs.Reports.{decided}
use Rattle.aes3_lock.specs.Following.{Follows}
use Rattle.aes3_lock.proofs.lock.Lock.push_word.Given as goal

abbrev pub invariant-loop-taken : goal.invariant-loop-taken
invariant-loop-taken l = record {
  within : l.taken ≤ 64;
  seen : l.self.seen ≡ l.fn.self.seen + l.taken;
  follows : (cells : List Level) → Follows l.fn.self cells → Follows l.self (cells ++ low_cells l.taken l.word);
  reports : (cells : List Level) → Follows l.fn.self cells
      → decided (cells ++ low_cells l.taken l.word) ≡ decided cells ++ l.out.items;
}

abbrev pub decreases-loop-taken : goal.decreases-loop-taken
decreases-loop-taken l = 64 - l.taken
