-- What `encode` makes of a block file.
use Rattle.std.specs.Prelude.{ℕ, List, [], Bool, true, false, Option, Some, None, Result, Ok, Err, ◌≡◌, ◌<◌, ◌≤◌, ◌+◌}
use Rattle.std.specs.Prelude.{◌*◌, ◌%◌, IsTrue, length, take, get_or}
use Rattle.aes3_level.specs.declared.level.Level.TheVariants.{Low}
use Rattle.aes3_refusals.specs.declared.run_error.RunError.{RunError}
use Rattle.aes3_refusals.specs.declared.run_error.RunError.TheVariants.{BadCell, BadLength, BadCode, BadParity, Read, Write}
use Rattle.aes3_refusals.specs.declared.run_error.RunError.TheVariants.{TooLong, Memory, BadStatusText, BadPadding, BadSample}
use Rattle.aes3_refusals.specs.declared.run_error.RunError.TheVariants.{SoundHeader, Inexact}
use Rattle.aes3_cell.specs.declared.counts.Counts.{Counts}
use Rattle.aes3_block.specs.declared.file.FileFault.{FileFault}
use Rattle.aes3_frame.specs.Blocks.{block_subframes, block_len, block_cells, stream}
use Rattle.aes3_frame.specs.Files.{words_of, lawful_words, has_code, has_parity, file_blocks, IsBlockFile}
use Rattle.aes3_block.specs.Readers.{FileReader, reader_of, byte_fault, block_with, end_answer}
use Rattle.aes3_block.specs.Refusals.{refusal_of}
use Rattle.aes3_input.specs.Converting.{Reading}
use Rattle.aes3_input.specs.Running.{InputState, Promise}
use Rattle.aes3_cell.specs.declared.form.Form.{Form}
use Rattle.aes3_cell.specs.Written.{bytes_of, ending, written}

-- the cells of the blocks that stand whole in a block file before its first fault, in the normal polarity, in the
-- output's form: without an ending
unfoldable pub encoded : Form → List ℕ → List ℕ
encoded form b = bytes_of form (stream Low (file_blocks b))

-- the same byte by byte
abbrev pub refused_by : Option FileFault → Option RunError
refused_by None = None
refused_by (Some f) = Some (refusal_of f)

abbrev pub refused_at_end : Result (Unit {0}) FileFault → Option RunError
refused_at_end (Ok u) = None
refused_at_end (Err f) = Some (refusal_of f)

abbrev pub block_written : Form → Option (List (List Bool)) → List ℕ
block_written form None = []
block_written form (Some b) = bytes_of form (block_cells Low b)

unfoldable pub encoding : Form → Reading
encoding form = record {
  fault = λ b x. refused_by (byte_fault (reader_of b) x);
  adds = λ b x. block_written form (block_with (reader_of b) x);
  end_fault = λ b. refused_at_end (end_answer (reader_of b));
  ends = λ b. ending form;
}

-- all words of these bytes are lawful
pub record AllLawful (b : List ℕ) : Type 0 where
  pub is : lawful_words b ≡ words_of b

-- word number `at` is the first that is not lawful: by its code, or by its parity alone
pub record BadCodeAt (b : List ℕ) (at : ℕ) : Type 0 where
  pub before : length (lawful_words b) ≡ at
  pub within : at < length (words_of b)
  pub code : has_code (get_or (words_of b) at 0) ≡ false

pub record BadParityAt (b : List ℕ) (at : ℕ) : Type 0 where
  pub before : length (lawful_words b) ≡ at
  pub within : at < length (words_of b)
  pub code : has_code (get_or (words_of b) at 0) ≡ true
  pub parity : has_parity (get_or (words_of b) at 0) ≡ false

-- the bytes end inside a block
pub record EndsInBlock (b : List ℕ) (left : ℕ) : Type 0 where
  pub lawful : AllLawful b
  pub count : left ≡ length b % (4 * block_subframes)
  pub some : 0 < left

-- why a run that read the bytes b was refused
abbrev pub IsCauseOf : ℕ → List ℕ → Bool → RunError → Type 0
IsCauseOf max b ended (BadCode at) = BadCodeAt (take max b) at
IsCauseOf max b ended (BadParity at) = BadParityAt (take max b) at
IsCauseOf max b ended (BadLength left) = EndsInBlock b left × (length b ≤ max) × IsTrue ended
IsCauseOf max b ended TooLong = AllLawful (take max b) × (length b ≡ max + 1)
IsCauseOf max b ended Read = AllLawful b × (length b ≤ max)
IsCauseOf max b ended Write = length b ≤ max + 1
IsCauseOf max b ended (BadCell at) = ⊥
IsCauseOf max b ended Memory = ⊥
IsCauseOf max b ended BadStatusText = ⊥
IsCauseOf max b ended (BadPadding at) = ⊥
IsCauseOf max b ended (BadSample at) = ⊥
IsCauseOf max b ended SoundHeader = ⊥
IsCauseOf max b ended (Inexact at) = ⊥

-- what a run over a whole block file counts
unfoldable pub encode_counts : List ℕ → Counts
encode_counts b = record {
  bytes = length b;
  cells = block_len * length (file_blocks b);
  blocks = length (file_blocks b);
  faults = 0;
  unfinished = 0;
  marks = 0;
}

-- what `encode` promises
abbrev pub encoded_file : Form → Promise Counts
encoded_file form = record {
  input = IsBlockFile;
  whole = λ b. written form (stream Low (file_blocks b));
  begun = encoded form;
  answer = λ b n. n ≡ encode_counts b;
  cause = IsCauseOf;
}

-- a conversion that has taken the bytes b, none of which it refused
pub record Encodes (file : FileReader) (blocks : ℕ) (b : List ℕ) : Type 0 where
  pub reader : file ≡ reader_of b
  pub lawful : AllLawful b
  pub count : blocks ≡ length (file_blocks b)

-- a block file as an input, of which so many blocks are written in this form
abbrev pub encoding_state : Form → FileReader → ℕ → InputState
encoding_state form file blocks = record {
  reads = encoding form;
  follows = Encodes file blocks;
  stopped = λ b. blocks ≡ length (file_blocks b);
  finished = Encodes file blocks;
}
