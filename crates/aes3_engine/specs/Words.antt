-- Block files whose words are in the form of another program.
use Rattle.std.specs.Prelude.{ℕ, List, [], ◌∷◌, ◌++◌, Bool, Result, ◌≡◌, ◌<◌, ◌≤◌, ◌+◌, ◌-◌, ◌*◌, ◌/◌, IsTrue}
use Rattle.std.specs.Prelude.{length, take}
use Rattle.std.specs.List.{flat_map}
use Rattle.aes3_level.specs.declared.level.Level.TheVariants.{Low}
use Rattle.aes3_cell.specs.declared.counts.Counts.{Counts}
use Rattle.aes3_cell.specs.declared.form.Form.{Form}
use Rattle.aes3_refusals.specs.declared.run_error.RunError.{RunError}
use Rattle.aes3_refusals.specs.declared.run_error.RunError.TheVariants.{BadCell, BadLength, BadCode, BadParity, Read, Write}
use Rattle.aes3_refusals.specs.declared.run_error.RunError.TheVariants.{TooLong, Memory, BadStatusText, BadPadding, BadSample}
use Rattle.aes3_refusals.specs.declared.run_error.RunError.TheVariants.{SoundHeader, Inexact}
use Rattle.aes3_cell.specs.Written.{written}
use Rattle.aes3_forms_words.specs.declared.alsa_am824.Words.{Words}
use Rattle.aes3_forms_words.specs.declared.alsa_am824.Words.TheVariants.{Own, Alsa, Am824}
use Rattle.aes3_forms_words.specs.Lists.{from_block, most_left_out, own_of, written_of}
use Rattle.aes3_forms_words.specs.Reading.{AreAhead, read_more, read_whole}
use Rattle.aes3_frame.specs.Blocks.{stream}
use Rattle.aes3_frame.specs.Files.{IsBlockFile, block_bytes, file_blocks}
use Rattle.aes3_input.specs.Converting.{Reading, fault_behind, out_behind}
use Rattle.aes3_input.specs.Running.{InputState, Movement, PieceRan, Promise}
use Rattle.aes3_block.specs.Readers.{FileReader}
use Rattle.aes3_engine.specs.declared.word_encoding.EncodedWords.{EncodedWords}
use Rattle.aes3_engine.specs.Encoding.{AllLawful, BadCodeAt, BadParityAt, Encodes, EndsInBlock}
use Rattle.aes3_engine.specs.Encoding.{encoded, encoded_file, encoding}

-- ---- as they are written

-- a block of a block file whose words are in this form, and blocks one behind the other
abbrev pub block_words : Words → List (List Bool) → List ℕ
block_words Own = block_bytes
block_words Alsa = λ b. written_of Alsa (block_bytes b)
block_words Am824 = λ b. written_of Am824 (block_bytes b)

-- the same of a block by its number
abbrev pub numbered_words : Words → ℕ → List (List Bool) → List ℕ
numbered_words form n b = block_words form b

abbrev pub words_file : Words → List (List (List Bool)) → List ℕ
words_file form bs = flat_map (block_words form) bs

-- ---- as they are read

-- what a run over them counts: the bytes
abbrev pub words_counts : List ℕ → Counts
words_counts b = record { bytes = length b; cells = 0; blocks = 0; faults = 0; unfinished = 0; marks = 0 }

-- why a run that read the bytes b was refused: words are counted from the first block on
abbrev pub IsWordsCause : Words → ℕ → List ℕ → Bool → RunError → Type 0
IsWordsCause form max b ended (BadCode at) = BadCodeAt (own_of form (take max b)) at
IsWordsCause form max b ended (BadParity at) = BadParityAt (own_of form (take max b)) at
IsWordsCause form max b ended (BadLength left) = EndsInBlock (own_of form b) left × (length b ≤ max) × IsTrue ended
IsWordsCause form max b ended TooLong = AllLawful (own_of form (take max b)) × (length b ≡ max + 1)
IsWordsCause form max b ended Read = AllLawful (own_of form b) × (length b ≤ max)
IsWordsCause form max b ended Write = length b ≤ max + 1
IsWordsCause form max b ended (BadCell at) = ⊥
IsWordsCause form max b ended Memory = ⊥
IsWordsCause form max b ended BadStatusText = ⊥
IsWordsCause form max b ended (BadPadding at) = ⊥
IsWordsCause form max b ended (BadSample at) = ⊥
IsWordsCause form max b ended SoundHeader = ⊥
IsWordsCause form max b ended (Inexact at) = ⊥

-- what `encode` promises of words in another form: what it does of the block file that they are read as
abbrev pub encoded_other : Words → Form → Promise Counts
encoded_other form output = record {
  input = λ b. IsBlockFile (own_of form b);
  whole = λ b. written output (stream Low (file_blocks (own_of form b)));
  begun = λ b. encoded output (own_of form b);
  answer = λ b n. n ≡ words_counts b;
  cause = IsWordsCause form;
}

abbrev pub encoded_words : Words → Form → Promise Counts
encoded_words Own output = encoded_file output
encoded_words Alsa output = encoded_other Alsa output
encoded_words Am824 output = encoded_other Am824 output

-- how many words stand before the first block and are left out, of four octets each
abbrev pub words_left_out : Words → List ℕ → ℕ
words_left_out form b = (length b - length (from_block form most_left_out b)) / 4

-- a promise over words in this form, where it is also told how many of them are left out
abbrev pub with_left_out : Words → Promise Counts → Promise EncodedWords
with_left_out form p = record {
  input = p.input;
  whole = p.whole;
  begun = p.begun;
  answer = λ b n. p.answer b n.counts × (n.left_out ≡ words_left_out form b);
  cause = p.cause;
}

-- what `encode_words` promises
abbrev pub told_words : Words → Form → Promise EncodedWords
told_words form output = with_left_out form (encoded_words form output)

-- the same byte by byte: the octets of a word count once it is whole
unfoldable pub words_reading : Words → Reading → Reading
words_reading form r = record {
  fault = λ b x. fault_behind r (read_whole form b) (read_more form b (x ∷ []));
  adds = λ b x. out_behind r (read_whole form b) (read_more form b (x ∷ []));
  end_fault = λ b. r.end_fault (own_of form b);
  ends = λ b. r.ends (own_of form b);
}

-- a conversion that has taken the bytes b: the block file that their whole words are read as, and the octets of the
-- word that is begun
pub record TakesWords (form : Words) (file : FileReader) (blocks left : ℕ) (has_begun : Bool) (begun b : List ℕ)
    : Type 0 where
  pub words : List ℕ
  pub count : ℕ
  pub whole : length words ≡ 4 * count
  pub is : b ≡ words ++ begun
  pub few : length begun < 4
  pub encodes : Encodes file blocks (own_of form words)
  pub ahead : AreAhead has_begun form left words

-- words as an input, of which so many blocks are written in this form
abbrev pub words_state : Words → Form → FileReader → ℕ → ℕ → Bool → List ℕ → InputState
words_state form output file blocks left has_begun begun = record {
  reads = words_reading form (encoding output);
  follows = TakesWords form file blocks left has_begun begun;
  stopped = λ b. Unit {0};
  finished = TakesWords form file blocks left has_begun begun;
}

-- a word is taken, of which some octets came before and these come now
abbrev pub WordRan : (List ℕ → InputState) → InputState → List ℕ → Movement → Result (Unit {0}) RunError → Type 0
WordRan old new word sink result =
    (begun piece : List ℕ) → begun ++ piece ≡ word → length begun < 4 → PieceRan (old begun) new piece sink result
