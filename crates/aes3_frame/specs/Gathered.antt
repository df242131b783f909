-- Words that are the cells of a block's subframes as they stand.
use Rattle.std.specs.Prelude.{ℕ, zero, suc, List, ◌≡◌, ◌<◌, ◌+◌, get_or, set, take}
use Rattle.aes3_level.specs.declared.level.Level.{Level}
use Rattle.aes3_level.specs.Cells.{line}
use Rattle.aes3_level.specs.Words.{word_cells}
use Rattle.aes3_slot.specs.declared.mark.Mark.{Mark}
use Rattle.aes3_slot.specs.ReadWords.{read_word}
use Rattle.aes3_slot.specs.Slots.{payload_len, subframe_runs}
use Rattle.aes3_frame.specs.Blocks.{mark_at}

-- the cells of a word are the subframe, with this preamble after level s, of the payload that they carry
abbrev pub IsRight : Level → Mark → ℕ → Type 0
IsRight s mark word = word_cells word ≡ line s (subframe_runs mark (take payload_len (read_word word)))

-- the first n words are a block's first subframes after level s
abbrev pub AreRight : Level → ℕ → List ℕ → Type 0
AreRight s n words = (j : ℕ) → j < n → IsRight s (mark_at j) (get_or words j 0)

-- a list with the first n of others from a place on
abbrev pub with_first : ℕ → List ℕ → List ℕ → ℕ → List ℕ
with_first place kept new zero = kept
with_first place kept new (suc n) = set (with_first place kept new n) (place + n) (get_or new n 0)
