use Rattle.std.proofs.Common.{◌≡◌, ◌*◌, length, take}
use Rattle.std.specs.List.{flat_map}
use Rattle.aes3_frame.specs.Files.{word_bytes}
use Rattle.aes3_c.proofs.sample_calls.octets_of_samples.Given as goal

abbrev pub invariant-loop-i : goal.invariant-loop-i
invariant-loop-i l = record {
  octets : take (4 * l.i) l.octets ≡ flat_map word_bytes (take l.i l.samples);
  len : length l.octets ≡ 1536;
}
