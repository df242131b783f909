use Rattle.std.proofs.Common.{◌≡◌, ◌<◌, ◌≤◌, ◌||◌, ℕ, false, get_or, length, take}
use Rattle.aes3_status.specs.Settings.{set_in_turn}
use Rattle.aes3_status.specs.Taken.{takes}
use Rattle.aes3_status.proofs.taken.Taken.add.Given as goal

abbrev pub invariant-loop-i : goal.invariant-loop-i
invariant-loop-i l = record {
  long : length l.self.codes ≡ 64;
  left : l.left ≡ set_in_turn (take l.i l.settings.codes) l.fn.status;
  before : (k : ℕ) → k < l.i
      → get_or l.self.codes k false ≡ (get_or l.fn.self.codes k false || takes l.settings.codes l.fn.status k);
  behind : (k : ℕ) → l.i ≤ k → get_or l.self.codes k false ≡ get_or l.fn.self.codes k false;
  wide : l.self.wide ≡ l.fn.self.wide;
}
