-- How spoiled cells are written.
use Rattle.std.specs.Prelude.{ℕ, List, ◌++◌, ◌≡◌, ◌+◌, ◌*◌, ◌/◌, length, take}
use Rattle.aes3_level.specs.declared.level.Level.{Level}
use Rattle.aes3_level.specs.Words.{low_cells, word_len}
use Rattle.aes3_cell.specs.declared.form.Form.{Form}
use Rattle.aes3_cell.specs.declared.counts.Counts.{Counts}
use Rattle.aes3_cell.specs.Pending.{begun_cells}
use Rattle.aes3_cell.specs.Written.{bytes_of}
use Rattle.aes3_capture_recovery.specs.Endings.{ending_of}
use Rattle.aes3_input.specs.Inputs.{cells_of}
use Rattle.aes3_input.specs.Taking.{TakerState, Writing}
use Rattle.aes3_spoil.specs.declared.cells_out.CellsOut.{CellsOut}
use Rattle.aes3_spoil.specs.declared.errors.Errors.{Errors}
use Rattle.aes3_spoil.specs.declared.kinds.ErrorKind.TheVariants.{Inverted}
use Rattle.aes3_spoil.specs.declared.spoiling.Spoiler.{Spoiler}
use Rattle.aes3_spoil.specs.Errors.{Clear, errors_before}
use Rattle.aes3_spoil.specs.Spoiled.{is_odd, spoiled, spoiled_at}

-- the cells of the whole words, of which the bytes are written before the end
unfoldable pub whole_words : List Level → List Level
whole_words cells = take (word_len * (length cells / word_len)) cells

-- the bytes of the words that more cells make whole behind fewer than a word
abbrev pub bytes_added : Form → List Level → List Level → List ℕ
bytes_added form begun more = bytes_of form (whole_words (begun ++ more))

-- the cells that are held until their word is whole
abbrev pub held : CellsOut → List Level
held out = low_cells out.len out.word

-- what the run counts
unfoldable pub spoil_counts : Form → List ℕ → Counts
spoil_counts form b = record {
  bytes = length b;
  cells = length (cells_of form b);
  blocks = 0;
  faults = 0;
  unfinished = 0;
  marks = 0;
}

-- a taker that writes cells with errors
unfoldable pub spoiling : Form → Errors → Writing Level
spoiling form errors = record {
  adds = λ c l. bytes_added form (begun_cells (spoiled errors c)) (spoiled_at errors (length c) l);
  ends = λ c. ending_of form (begun_cells (spoiled errors c));
}

-- it has taken the cells c
pub record Spoils (spoiler : Spoiler) (c : List Level) : Type 0 where
  pub place : spoiler.place ≡ length c
  pub inverted : spoiler.inverted ≡ is_odd (errors_before spoiler.errors Inverted (length c))
  pub held : held spoiler.out ≡ begun_cells (spoiled spoiler.errors c)
  pub clear : Clear spoiler.errors (length c) (length c + spoiler.clear)

abbrev pub spoiler_state : Spoiler → TakerState Level
spoiler_state spoiler = record {
  writes = spoiling spoiler.out.form spoiler.errors;
  follows = Spoils spoiler;
  finished = λ c. Unit {0};
}
