-- A block file read byte by byte.
use Rattle.std.specs.Prelude.{ℕ, suc, List, [], ◌∷◌, ◌++◌, Bool, false, Option, Some, None, Result, Ok, Err, length}
use Rattle.std.specs.Prelude.{drop, ◌≡◌, ◌*◌, ◌/◌, ◌%◌, ◌==◌, map, if◌then◌else◌}
use Rattle.aes3_block.specs.declared.file.FileFault.{FileFault}
use Rattle.aes3_block.specs.declared.file.FileFault.TheVariants.{BadLength, BadCode, BadParity}
use Rattle.aes3_frame.specs.Blocks.{block_subframes}
use Rattle.aes3_frame.specs.Files.{bytes_number, words_of, has_code, has_parity, payload_of}

-- how many bytes a reader has taken, the words of the block begun, the bytes of the word begun, and what it refused
pub record FileReader : Type 0 where
  pub seen : ℕ
  pub words : List ℕ
  pub bytes : List ℕ
  pub fault : Option FileFault

-- the reader that has taken these bytes, none of which it refused
unfoldable pub reader_of : List ℕ → FileReader
reader_of b = record {
  seen = length b;
  words = drop (block_subframes * (length (words_of b) / block_subframes)) (words_of b);
  bytes = drop (4 * (length b / 4)) b;
  fault = None;
}

-- the fault of word number `at`, its code judged before its parity
abbrev pub word_fault : ℕ → ℕ → Option FileFault
word_fault at w = if has_code w then (if has_parity w then None else Some (BadParity at)) else Some (BadCode at)

-- whether one more byte ends a word, and that word
abbrev pub ends_word : FileReader → Bool
ends_word r = length r.bytes == 3

abbrev pub word_with : FileReader → ℕ → ℕ
word_with r x = bytes_number (r.bytes ++ x ∷ [])

-- the fault of one more byte
abbrev pub byte_fault : FileReader → ℕ → Option FileFault
byte_fault r x = if ends_word r then word_fault (r.seen / 4) (word_with r x) else None

-- whether one more byte ends a block, and that block
abbrev pub ends_block : FileReader → Bool
ends_block r = if ends_word r then (suc (length r.words) == block_subframes) else false

abbrev pub block_with : FileReader → ℕ → Option (List (List Bool))
block_with r x = if ends_block r then Some (map payload_of (r.words ++ word_with r x ∷ [])) else None

-- the reader behind one more byte that is no fault
abbrev pub words_with : FileReader → ℕ → List ℕ
words_with r x = if ends_block r then [] else (if ends_word r then r.words ++ word_with r x ∷ [] else r.words)

abbrev pub bytes_with : FileReader → ℕ → List ℕ
bytes_with r x = if ends_word r then [] else r.bytes ++ x ∷ []

abbrev pub reader_with : FileReader → ℕ → FileReader
reader_with r x = record { seen = suc r.seen; words = words_with r x; bytes = bytes_with r x; fault = None }

-- what a reader answers to one more byte: the fault that it refused before or that the byte is, or the block that it
-- ends
abbrev pub fault_with : FileReader → ℕ → Option FileFault
fault_with r x = first r.fault (byte_fault r x)
  where
    first : Option FileFault → Option FileFault → Option FileFault
    first (Some f) g = Some f
    first None g = g

abbrev pub answer_with : FileReader → ℕ → Result (Option (List (List Bool))) FileFault
answer_with r x = answer (fault_with r x)
  where
    answer : Option FileFault → Result (Option (List (List Bool))) FileFault
    answer (Some f) = Err f
    answer None = Ok (block_with r x)

abbrev pub next_with : FileReader → ℕ → FileReader
next_with r x = next (fault_with r x)
  where
    next : Option FileFault → FileReader
    next (Some f) = record r { fault = Some f }
    next None = reader_with r x

-- bytes that a reader takes one by one, none of which is refused or ends a block, and the reader behind them
abbrev pub TakesQuietly : FileReader → List ℕ → FileReader → Type 0
TakesQuietly r [] s = s ≡ r
TakesQuietly r (x ∷ b) s = (answer_with r x ≡ Ok None) × TakesQuietly (next_with r x) b s

-- bytes that a reader takes one by one, the last of which ends a block and each other is taken quietly, and the reader
-- behind them
pub record TakesBlock (r : FileReader) (b : List ℕ) (block : List (List Bool)) (s : FileReader) : Type 0 where
  pub quiet : List ℕ
  pub last : ℕ
  pub is : quiet ++ last ∷ [] ≡ b
  pub behind : FileReader
  pub taken : TakesQuietly r quiet behind
  pub ends : answer_with behind last ≡ Ok (Some block)
  pub next : s ≡ next_with behind last

-- what a reader answers to the end: the fault that it refused before; else nothing may be left of a block
abbrev pub left_of : FileReader → ℕ
left_of r = r.seen % (4 * block_subframes)

abbrev pub end_answer : FileReader → Result (Unit {0}) FileFault
end_answer r = answer r.fault
  where
    answer : Option FileFault → Result (Unit {0}) FileFault
    answer (Some f) = Err f
    answer None = if left_of r == 0 then Ok tt else Err (BadLength (left_of r))
