use Rattle.std.proofs.Common.{◌≡◌, ◌<◌, ℕ, true, get_or, length}
use Rattle.aes3_frame.specs.Files.{is_lawful, payload_of, words_of}
use Rattle.aes3_frame.specs.Sampled.{payload_of_sample}
use Rattle.aes3_frame.proofs.block.Block.of_samples.Given as goal

abbrev pub invariant-loop-subframe : goal.invariant-loop-subframe
invariant-loop-subframe l = record {
  len : length l.words ≡ 384;
  lawful : (k : ℕ) → is_lawful (get_or l.words k 0) ≡ true;
  payloads : (k : ℕ) → k < l.subframe → payload_of (get_or l.words k 0) ≡ payload_of_sample (get_or (words_of l.bytes) k 0);
}
