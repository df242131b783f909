use Rattle.std.proofs.Common.{◌≡◌, ◌<◌, ℕ, true, get_or, length, take}
use Rattle.aes3_slot.specs.Slots.{payload_len}
use Rattle.aes3_slot.specs.ReadWords.{read_word}
use Rattle.aes3_frame.specs.Files.{is_lawful, payload_of}
use Rattle.aes3_frame.proofs.block.Block.of_cells.Given as goal

abbrev pub invariant-loop-subframe : goal.invariant-loop-subframe
invariant-loop-subframe l = record {
  len : length l.lawful ≡ 384;
  lawful : (k : ℕ) → is_lawful (get_or l.lawful k 0) ≡ true;
  payloads : (k : ℕ) → k < l.subframe
      → payload_of (get_or l.lawful k 0) ≡ take payload_len (read_word (get_or l.words k 0));
}
