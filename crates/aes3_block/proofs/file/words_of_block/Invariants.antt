use Rattle.std.proofs.Common.{◌≡◌, ◌*◌, length, take}
use Rattle.std.specs.List.{flat_map}
use Rattle.aes3_frame.specs.Files.{word_bytes}
use Rattle.aes3_block.proofs.file.words_of_block.Given as goal

abbrev pub invariant-loop-i : goal.invariant-loop-i
invariant-loop-i l = record {
  bytes : flat_map word_bytes (take l.i l.words) ≡ take (4 * l.i) l.bytes;
  len : length l.words ≡ 384;
}
