-- Samples that keep time: the blocks' samples, with frames between them that fill the time that no block gives.
use Rattle.std.specs.Prelude.{ℕ, List, [], ◌∷◌, ◌++◌, Bool, true, false, ◌+◌, ◌-◌, ◌*◌, ◌/◌, ◌≡◌, ◌<◌, ◌≤◌, length}
use Rattle.std.specs.Prelude.{drop, replicate}
use Rattle.std.specs.List.{filter, flat_map}
use Rattle.aes3_level.specs.declared.level.Level.{Level}
use Rattle.aes3_slot.specs.Reading.{read_slots}
use Rattle.aes3_frame.specs.declared.fill.Fill.{Fill}
use Rattle.aes3_frame.specs.declared.fill.Fill.TheVariants.{Zero, Hold}
use Rattle.aes3_frame.specs.Blocks.{block_len, block_subframes, zero_block}
use Rattle.aes3_frame.specs.Mending.{mended}
use Rattle.aes3_frame.specs.Samples.{block_samples}
use Rattle.aes3_lock.specs.declared.report.Report.{Report}
use Rattle.aes3_lock.specs.declared.report.Report.TheVariants.{Whole, Marked, Fault, Unfinished}

-- a whole block, and the place of its first cell
pub record Placed : Type 0 where
  pub place : ℕ
  pub block : List (List Bool)

-- the whole blocks of reports
abbrev pub placed : List Report → List Placed
placed [] = []
placed (Whole at s b ∷ r) = record { place = at; block = b } ∷ placed r
placed (Marked at s wrong ∷ r) = placed r
placed (Fault at cell why ∷ r) = placed r
placed (Unfinished at cells ∷ r) = placed r

-- the same with the marked blocks in order among them, read from the cells, their subframes of wrong parity filled
-- behind the block before; the first behind block b
abbrev pub mended_from : Fill → List Level → List (List Bool) → List Report → List Placed
mended_from fill c b [] = []
mended_from fill c b (Whole at s own ∷ r) = record { place = at; block = own } ∷ mended_from fill c own r
mended_from fill c b (Marked at s wrong ∷ r) =
    record { place = at; block = mended fill b (read_slots block_subframes (drop at c)) }
    ∷ mended_from fill c (mended fill b (read_slots block_subframes (drop at c))) r
mended_from fill c b (Fault at cell why ∷ r) = mended_from fill c b r
mended_from fill c b (Unfinished at cells ∷ r) = mended_from fill c b r

-- the blocks that are given of the reports on cells, with the marked ones or without; before the first stand zeros
abbrev pub given : Bool → Fill → List Level → List Report → List Placed
given true fill c r = mended_from fill c zero_block r
given false fill c r = placed r

-- how many marked blocks are given
abbrev pub is_marked : Report → Bool
is_marked (Whole at s b) = false
is_marked (Marked at s wrong) = true
is_marked (Fault at cell why) = false
is_marked (Unfinished at cells) = false

abbrev pub marked_given : Bool → List Report → ℕ
marked_given true r = length (filter is_marked r)
marked_given false r = 0

-- how many cells and how many bytes of samples a frame has, and how many frames a block
unfoldable pub frame_cells : ℕ
frame_cells = 128

unfoldable pub frame_bytes : ℕ
frame_bytes = 8

unfoldable pub block_frames : ℕ
block_frames = 192

-- how many frames stand before a block at place q, where the first block is at place p: the whole number nearest to the
-- cells between them over those of a frame; a half goes up
unfoldable pub frames_between : ℕ → ℕ → ℕ
frames_between p q = (q - p + frame_cells / 2) / frame_cells

-- a frame of filling behind a block: zeros, or the block's last frame, which is the last sample of each channel
unfoldable pub filling : Fill → List (List Bool) → List ℕ
filling Zero b = replicate frame_bytes 0
filling Hold b = drop (frame_bytes * (block_frames - 1)) (block_samples b)

-- a frame n times
unfoldable pub repeated : ℕ → List ℕ → List ℕ
repeated n frame = flat_map (λ f. f) (replicate n frame)

-- how many frames are missing between block x and the next block y, where the first block is at place p: as many as
-- stand before y, less those that stand up to behind x
abbrev pub missing : ℕ → Placed → Placed → ℕ
missing p x y = frames_between p y.place - (frames_between p x.place + block_frames)

-- the filling between them
abbrev pub between : Fill → ℕ → Placed → Placed → List ℕ
between fill p x y = repeated (missing p x y) (filling fill x.block)

-- the samples of the blocks behind block x, with the filling before each, and those of all blocks
abbrev pub filled_behind : Fill → ℕ → Placed → List Placed → List ℕ
filled_behind fill p x [] = []
filled_behind fill p x (y ∷ more) = between fill p x y ++ block_samples y.block ++ filled_behind fill p y more

abbrev pub filled : Fill → List Placed → List ℕ
filled fill [] = []
filled fill (x ∷ more) = block_samples x.block ++ filled_behind fill x.place x more

-- how many frames of filling stand behind block x, and how many among all blocks
abbrev pub frames_filled_behind : ℕ → Placed → List Placed → ℕ
frames_filled_behind p x [] = 0
frames_filled_behind p x (y ∷ more) = missing p x y + frames_filled_behind p y more

abbrev pub frames_filled : List Placed → ℕ
frames_filled [] = 0
frames_filled (x ∷ more) = frames_filled_behind x.place x more

-- blocks stand in a row, the first at place p and each directly behind the one before it
abbrev pub InRow : ℕ → List Placed → Type 0
InRow p [] = Unit {0}
InRow p (x ∷ more) = (x.place ≡ p) × InRow (p + block_len) more

-- among these samples are those of block y, of which b are the blocks behind it, in time: in front of them stand frames
-- that take as long as the cells from place `first` to it, to half a frame; behind the last block stands nothing
pub record StandsInTime (samples : List ℕ) (first : ℕ) (y : Placed) (b : List Placed) : Type 0 where
  pub frames : ℕ
  pub before : List ℕ
  pub after : List ℕ
  pub is : samples ≡ before ++ block_samples y.block ++ after
  pub count : length before ≡ frame_bytes * frames
  pub not_late : frame_cells * frames ≤ y.place - first + frame_cells / 2
  pub not_early : y.place - first < frame_cells * frames + frame_cells / 2
  pub last : b ≡ [] → after ≡ []

-- so each block does, from the first one on
abbrev pub KeepsTime : List ℕ → List Placed → Type 0
KeepsTime samples [] = samples ≡ []
KeepsTime samples (x ∷ more) =
    (a : List Placed) (y : Placed) (b : List Placed) → x ∷ more ≡ a ++ y ∷ b → StandsInTime samples x.place y b
