use Rattle.std.proofs.Common.{◌≡◌, ◌*◌, length, take}
use Rattle.std.specs.List.{flat_map}
use Rattle.aes3_frame.specs.Files.{word_bytes}
use Rattle.aes3_block.proofs.file_out.bytes_of_words.Given as goal

abbrev pub invariant-loop-i : goal.invariant-loop-i
invariant-loop-i l = record {
  bytes : take (4 * l.i) l.bytes ≡ flat_map word_bytes (take l.i l.words);
  len : length l.bytes ≡ 1536;
}
