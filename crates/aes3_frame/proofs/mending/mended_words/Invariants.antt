use Rattle.std.proofs.Common.{◌≡◌, ℕ, ◌++◌, true, drop, get_or, length, map, take}
use Rattle.aes3_slot.specs.ReadWords.{read_word}
use Rattle.aes3_frame.specs.Files.{is_lawful, payload_of}
use Rattle.aes3_frame.specs.Mending.{mended_behind}
use Rattle.aes3_frame.proofs.mending.mended_words.Given as goal

abbrev pub invariant-loop-number : goal.invariant-loop-number
invariant-loop-number l = record {
  len : length l.words ≡ 384;
  lawful : (k : ℕ) → is_lawful (get_or l.words k 0) ≡ true;
  held : is_lawful l.held ≡ true;
  other : is_lawful l.other ≡ true;
  made : mended_behind l.fill (payload_of l.initial.held) (payload_of l.initial.other) (map read_word l.cells)
      ≡ map payload_of (take l.number l.words)
      ++ mended_behind l.fill (payload_of l.held) (payload_of l.other) (map read_word (drop l.number l.cells));
}
