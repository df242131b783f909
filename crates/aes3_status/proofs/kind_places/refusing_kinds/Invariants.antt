use Rattle.std.proofs.Common.{◌≡◌, ◌<◌, ℕ, false, get_or, length, not}
use Rattle.aes3_status.specs.Taken.{example_of}
use Rattle.aes3_status.specs.TakingAll.{takes_all}
use Rattle.aes3_status.proofs.kind_places.refusing_kinds.Given as goal

abbrev pub invariant-loop-kind : goal.invariant-loop-kind
invariant-loop-kind l = record {
  long : length l.refusing ≡ 64;
  below : (k : ℕ) → k < l.kind → get_or l.refusing k false ≡ not (takes_all l.settings (example_of k));
}
