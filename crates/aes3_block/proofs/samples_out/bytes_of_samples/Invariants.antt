use Rattle.std.proofs.Common.{◌≡◌, ◌*◌, length, map, take}
use Rattle.std.specs.List.{flat_map}
use Rattle.aes3_frame.specs.Files.{payload_of, word_bytes}
use Rattle.aes3_frame.specs.Samples.{sample_of}
use Rattle.aes3_block.proofs.samples_out.bytes_of_samples.Given as goal

abbrev pub invariant-loop-i : goal.invariant-loop-i
invariant-loop-i l = record {
  bytes : take (4 * l.i) l.bytes ≡ flat_map word_bytes (take l.i (map sample_of (map payload_of l.words)));
  len : length l.bytes ≡ 1536;
}
