-- What a block adds behind others where samples keep time, and what has to be known of those for it.
use Rattle.std.specs.Prelude.{ℕ, List, [], ◌∷◌, ◌++◌, Option, Some, None, ◌+◌, ◌-◌, ◌≤◌}
use Rattle.aes3_frame.specs.declared.fill.Fill.{Fill}
use Rattle.aes3_frame.specs.Blocks.{block_len}
use Rattle.aes3_frame.specs.Samples.{block_samples}
use Rattle.aes3_lock.specs.declared.report.Report.{Report}
use Rattle.aes3_input.specs.Taking.{Writing}
use Rattle.aes3_forms_samples.specs.declared.sample_format.SampleFormat.{SampleFormat}
use Rattle.aes3_forms_samples.specs.Formats.{narrowed}
use Rattle.aes3_engine.specs.declared.filling.Progress.{Progress}
use Rattle.aes3_engine.specs.Filling.{Placed, placed, block_frames, frames_between, filling, repeated, filled_behind}
use Rattle.aes3_engine.specs.Filling.{filled}

-- the last of blocks that begin with x
abbrev pub last_of : Placed → List Placed → Placed
last_of x [] = x
last_of x (y ∷ more) = last_of y more

-- each block stands behind all of the one before it, and the first at place p or behind it
abbrev pub Apart : ℕ → List Placed → Type 0
Apart p [] = Unit {0}
Apart p (x ∷ more) = (p ≤ x.place) × Apart (x.place + block_len) more

-- what the blocks ys write behind the blocks xs
abbrev pub behind_blocks : Fill → List Placed → List Placed → List ℕ
behind_blocks fill [] ys = filled fill ys
behind_blocks fill (x ∷ xs) ys = filled_behind fill x.place (last_of x xs) ys

unfoldable pub fill_writing : SampleFormat → Fill → Writing Report
fill_writing format fill = record {
  adds = λ r x. narrowed format (behind_blocks fill (placed r) (placed (x ∷ [])));
  ends = λ r. [];
}

-- how far samples have come with block y, of which the first block is at place p; and with all blocks
abbrev pub reached : Fill → ℕ → Placed → Progress
reached fill p y = record {
  first = p;
  frames = frames_between p y.place + block_frames;
  frame = filling fill y.block;
}

abbrev pub progress_of : Fill → List Placed → Option Progress
progress_of fill [] = None
progress_of fill (x ∷ xs) = Some (reached fill x.place (last_of x xs))

-- the place of the first block, and the filling before a block at place q, so far
abbrev pub first_of : Option Progress → ℕ → ℕ
first_of None q = q
first_of (Some k) q = k.first

abbrev pub filling_before : Option Progress → ℕ → List ℕ
filling_before None q = []
filling_before (Some k) q = repeated (frames_between k.first q - k.frames) k.frame

-- how far samples have come with more blocks, and what these write
abbrev pub progress_behind : Fill → Option Progress → List Placed → Option Progress
progress_behind fill k [] = k
progress_behind fill k (y ∷ more) = progress_behind fill (Some (reached fill (first_of k y.place) y)) more

abbrev pub bytes_behind : SampleFormat → Fill → Option Progress → List Placed → List ℕ
bytes_behind format fill k [] = []
bytes_behind format fill k (y ∷ more) =
    narrowed format (filling_before k y.place) ++ narrowed format (block_samples y.block)
    ++ bytes_behind format fill (Some (reached fill (first_of k y.place) y)) more
