use Rattle.std.proofs.Common.{◌≡◌, ◌<◌, ℕ, get_or, length}
use Rattle.aes3_frame.specs.Files.{payload_of}
use Rattle.aes3_frame.specs.Samples.{sample_of}
use Rattle.aes3_c.proofs.sample_calls.put_samples.Given as goal

abbrev pub invariant-loop-slot : goal.invariant-loop-slot
invariant-loop-slot l = record {
  len : length l.samples ≡ 384;
  put : (k : ℕ) → k < l.slot → get_or l.samples k 0 ≡ sample_of (payload_of (get_or l.words k 0));
}
