-- Many blocks in a call.
use Rattle.std.specs.Prelude.{ℕ, List, Bool, ◌*◌, ◌/◌, ◌==◌, ◌≡◌, ◌≢◌, ◌<◌, ◌≤◌, drop, false, get_or, if◌then◌else◌}
use Rattle.std.specs.Prelude.{map, min, take, true}
use Rattle.aes3_cell.specs.Packed.{octets_of}
use Rattle.aes3_forms_samples.specs.declared.sample_format.SampleFormat.{SampleFormat}
use Rattle.aes3_forms_samples.specs.declared.sample_format.SampleFormat.TheVariants.{S32, S24, S24In32, S16}
use Rattle.aes3_forms_samples.specs.Formats.{block_len, narrowed, widened}
use Rattle.aes3_forms_words.specs.declared.alsa_am824.Words.{Words}
use Rattle.aes3_forms_words.specs.declared.alsa_am824.Words.TheVariants.{Own, Alsa, Am824}
use Rattle.aes3_forms_words.specs.Forms.{own_word}
use Rattle.aes3_forms_words.specs.Lists.{each_word, written_of}
use Rattle.aes3_frame.specs.Blocks.{block_cells}
use Rattle.aes3_frame.specs.Files.{block_bytes, is_lawful, payload_of, words_of}
use Rattle.aes3_frame.specs.Sampled.{payload_of_sample}
use Rattle.aes3_frame.specs.Samples.{block_samples}
use Rattle.aes3_c.specs.declared.block_form.BlockForm.{BlockForm}
use Rattle.aes3_c.specs.declared.block_form.BlockForm.TheVariants.{Cells, Subframes, Samples}

-- the form of words and of samples by its number
abbrev pub words_form : ℕ → Words
words_form n = if n == 1 then Alsa else if n == 2 then Am824 else Own

abbrev pub sample_form : ℕ → SampleFormat
sample_form n = if n == 1 then S24 else if n == 2 then S24In32 else if n == 3 then S16 else S32

-- how many octets a block has in a form
abbrev pub form_len : BlockForm → ℕ
form_len (Cells before) = 3072
form_len (Subframes words) = 1536
form_len (Samples format) = block_len format

-- the octets of a block in a form: its cells as `encode` packs them, its words, or its samples as `to-pcm` writes them
abbrev pub octets_in : BlockForm → List (List Bool) → List ℕ
octets_in (Cells before) b = octets_of (block_cells before b)
octets_in (Subframes words) b = written_of words (block_bytes b)
octets_in (Samples format) b = narrowed format (block_samples b)

-- how many blocks there are in so many words and octets, where a block has `len` octets
abbrev pub blocks_within : (words octets len : ℕ) → ℕ
blocks_within words octets len = min (words / 384) (octets / len)

-- the answer of a call that judges the words of so many blocks in turn, each by its number: how many they are, or the
-- number of the first that no block file may have
pub record IsFirstWrong (word : ℕ → ℕ) (blocks answer : ℕ) : Type 0 where
  pub within : answer ≤ 384 * blocks
  pub lawful : (i : ℕ) → i < answer → is_lawful (word i) ≡ true
  pub unlawful : answer ≢ 384 * blocks → is_lawful (word answer) ≡ false

-- a word in memory by its number
abbrev pub word_in : List ℕ → ℕ → ℕ
word_in words i = get_or words i 0

-- word number i of the block file that octets in a form are read as, the first one that of a block
abbrev pub word_read : Words → List ℕ → ℕ → ℕ
word_read form octets i = word_in (words_of (each_word (own_word form) 0 octets)) i

-- piece number i of memory, of pieces of one length
abbrev pub piece_at : (len i : ℕ) → List ℕ → List ℕ
piece_at len i memory = take len (drop (len * i) memory)

-- the payloads of block number i of words
abbrev pub block_at : ℕ → List ℕ → List (List Bool)
block_at i words = map payload_of (piece_at 384 i words)

-- the first n pieces of memory are the first n blocks in a form
abbrev pub AreBlocks : BlockForm → List ℕ → ℕ → List ℕ → Type 0
AreBlocks form words n octets = (i : ℕ) → i < n
    → piece_at (form_len form) i octets ≡ octets_in form (block_at i words)

-- the first n blocks of words are those of samples in a form, with V, U and C 0
abbrev pub AreSampled : SampleFormat → List ℕ → ℕ → List ℕ → Type 0
AreSampled form octets n words = (i : ℕ) → i < n
    → block_at i words ≡ map payload_of_sample (words_of (widened form (piece_at (block_len form) i octets)))
