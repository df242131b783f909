-- Block files: words of four bytes, lowest byte first; bit n of a word is time slot n.
use Rattle.std.specs.Prelude.{ℕ, zero, suc, List, [], ◌∷◌, Bool, not, length, ◌≡◌, ◌+◌, ◌*◌, ◌/◌, ◌%◌, ◌==◌, ◌&&◌, map}
use Rattle.std.specs.Prelude.{take, drop, take_while}
use Rattle.std.specs.List.{flat_map}
use Rattle.aes3_bits.specs.Bits.{number, odd_ones}
use Rattle.aes3_slot.specs.Slots.{payload_bits, slots_bits, with_parity}
use Rattle.aes3_frame.specs.Blocks.{block_subframes}

-- the word of a payload: slots 0 to 3 are zero, slot 31 is the parity bit
abbrev pub word_of : List Bool → ℕ
word_of bits = 16 * number (with_parity bits)

-- the number of some bytes, lowest first
abbrev pub bytes_number : List ℕ → ℕ
bytes_number [] = 0
bytes_number (x ∷ bytes) = x + 256 * bytes_number bytes

-- the n lowest bytes of a number
abbrev pub low_bytes : ℕ → ℕ → List ℕ
low_bytes zero w = []
low_bytes (suc n) w = w % 256 ∷ low_bytes n (w / 256)

-- the four bytes of a word
abbrev pub word_bytes : ℕ → List ℕ
word_bytes w = low_bytes 4 w

-- the file of a block, and of blocks one behind the other
unfoldable pub block_bytes : List (List Bool) → List ℕ
block_bytes b = flat_map word_bytes (map word_of b)

abbrev pub file : List (List (List Bool)) → List ℕ
file bs = flat_map block_bytes bs

-- a word as a block file may have it
abbrev pub has_code : ℕ → Bool
has_code w = (w % 16) == 0

abbrev pub has_parity : ℕ → Bool
has_parity w = not (odd_ones (slots_bits (w / 16)))

abbrev pub is_lawful : ℕ → Bool
is_lawful w = has_code w && has_parity w

-- the payload that a lawful word carries
abbrev pub payload_of : ℕ → List Bool
payload_of w = payload_bits (w / 16)

-- the whole words of bytes, and those before the first that is not lawful
abbrev pub words_of : List ℕ → List ℕ
words_of (a ∷ b ∷ c ∷ d ∷ rest) = bytes_number (a ∷ b ∷ c ∷ d ∷ []) ∷ words_of rest
words_of _ = []

unfoldable pub lawful_words : List ℕ → List ℕ
lawful_words bytes = take_while is_lawful (words_of bytes)

-- the first n blocks of words
abbrev pub blocks_in : ℕ → List ℕ → List (List (List Bool))
blocks_in zero words = []
blocks_in (suc n) words = map payload_of (take block_subframes words) ∷ blocks_in n (drop block_subframes words)

-- the blocks that stand whole in bytes before the first word that is not lawful
unfoldable pub file_blocks : List ℕ → List (List (List Bool))
file_blocks bytes = blocks_in (length (lawful_words bytes) / block_subframes) (lawful_words bytes)

-- bytes that are a block file: whole blocks of lawful words
pub record IsBlockFile (bytes : List ℕ) : Type 0 where
  pub whole : length bytes % (4 * block_subframes) ≡ 0
  pub lawful : lawful_words bytes ≡ words_of bytes
