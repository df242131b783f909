use Rattle.std.proofs.Common.{◌≡◌, ◌<◌, ◌*◌, [], ℕ, get_or, length}
use Rattle.aes3_frame.specs.Files.{payload_of}
use Rattle.aes3_c.proofs.watch_calls.block_of.Given as goal

abbrev pub invariant-loop-i : goal.invariant-loop-i
invariant-loop-i l = record {
  len : length l.block ≡ 384;
  payloads : (k : ℕ) → k < 2 * l.i → get_or l.block k [] ≡ payload_of (get_or l.words k 0);
}
