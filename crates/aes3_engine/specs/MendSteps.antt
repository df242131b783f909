-- What cells write where marked blocks are given too, and what has to be known of those taken for it.
use Rattle.std.specs.Prelude.{ℕ, List, [], ◌∷◌, ◌++◌, Bool, true, ◌≡◌, ◌+◌, length, drop}
use Rattle.aes3_level.specs.declared.level.Level.{Level}
use Rattle.aes3_slot.specs.ReadWords.{read_words}
use Rattle.aes3_frame.specs.declared.fill.Fill.{Fill}
use Rattle.aes3_frame.specs.Blocks.{zero_block}
use Rattle.aes3_frame.specs.Mending.{mended}
use Rattle.aes3_lock.specs.declared.report.Ending.{Ending}
use Rattle.aes3_lock.specs.declared.report.Ending.TheVariants.{Whole, Marked, Fault, Unfinished}
use Rattle.aes3_lock.specs.declared.report.Report.{Report}
use Rattle.aes3_lock.specs.Outcomes.{payloads_of}
use Rattle.aes3_lock.specs.Reports.{decided, reports}
use Rattle.aes3_input.specs.Taking.{Writing}
use Rattle.aes3_forms_samples.specs.declared.sample_format.SampleFormat.{SampleFormat}
use Rattle.aes3_forms_samples.specs.Formats.{narrowed}
use Rattle.aes3_engine.specs.declared.mended.MendedBlocks.{MendedBlocks}
use Rattle.aes3_engine.specs.Filling.{Placed, given, marked_given}
use Rattle.aes3_engine.specs.FillSteps.{behind_blocks, progress_behind, progress_of}

-- what stands whatever cells follow
abbrev pub begun : Fill → List Level → List Placed
begun fill c = given true fill c (decided c)

-- what one more cell writes, and what the end does
unfoldable pub mend_writing : SampleFormat → Fill → Writing Level
mend_writing format fill = record {
  adds = λ c l. narrowed format
      (behind_blocks fill (begun fill c) (drop (length (begun fill c)) (begun fill (c ++ l ∷ []))));
  ends = λ c. narrowed format
      (behind_blocks fill (begun fill c) (drop (length (begun fill c)) (given true fill c (reports c))));
}

-- the last block, where b is before all
abbrev pub block_before : List (List Bool) → List Placed → List (List Bool)
block_before b [] = b
block_before b (x ∷ xs) = block_before x.block xs

-- what is given of an ending with these words of cells, behind block b
abbrev pub given_in : Fill → List ℕ → List (List Bool) → Ending → List Placed
given_in fill words b (Whole at s) = record { place = at; block = payloads_of (read_words words) } ∷ []
given_in fill words b (Marked at s wrong) = record { place = at; block = mended fill b (read_words words) } ∷ []
given_in fill words b (Fault at cell why) = []
given_in fill words b (Unfinished at cells) = []

abbrev pub marked_in : Ending → ℕ
marked_in (Whole at s) = 0
marked_in (Marked at s wrong) = 1
marked_in (Fault at cell why) = 0
marked_in (Unfinished at cells) = 0

-- a listener that has heard of the reports r on the cells c
pub record IsMendedOf (k : MendedBlocks) (c : List Level) (r : List Report) : Type 0 where
  pub progress : k.filled.progress ≡ progress_of k.filled.fill (given true k.filled.fill c r)
  pub before : k.before ≡ block_before zero_block (given true k.filled.fill c r)
  pub marked : k.marked ≡ marked_given true r

-- a listener has written some more blocks, of which n are marked
pub record TookBlocks (old new : MendedBlocks) (xs : List Placed) (n : ℕ) : Type 0 where
  pub fill : new.filled.fill ≡ old.filled.fill
  pub format : new.filled.format ≡ old.filled.format
  pub progress : new.filled.progress ≡ progress_behind old.filled.fill old.filled.progress xs
  pub before : new.before ≡ block_before old.before xs
  pub marked : new.marked ≡ old.marked + n
