use Rattle.std.proofs.Common.{length, ◌-◌, ◌≡◌, ◌≤◌, ◌+◌, ◌++◌, List, ℕ, take}
use Rattle.aes3_wave.specs.Following.{Follows}
use Rattle.aes3_wave.proofs.header_reader.HeaderReader.take.Given as goal

abbrev pub invariant-loop-at : goal.invariant-loop-at
invariant-loop-at l = record {
  within : l.at ≤ length l.piece;
  seen : l.self.seen ≡ l.fn.self.seen + l.at;
  follows : (b : List ℕ) → Follows l.fn.self b → Follows l.self (b ++ take l.at l.piece);
}

abbrev pub decreases-loop-at : goal.decreases-loop-at
decreases-loop-at l = length l.piece - l.at
