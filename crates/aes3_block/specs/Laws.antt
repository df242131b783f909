-- The laws of blocks, of their file form and of their channel status.
use Rattle.std.specs.Prelude.{ℕ, List, [], ◌++◌, Bool, Some, Ok, length, map, take, slice_get, slice_index}
use Rattle.std.specs.Prelude.{slice_index_or, All, ◌≡◌, ◌<◌, ◌+◌, ◌-◌, ◌*◌, ◌/◌, ◌%◌, ◌==◌}
use Rattle.std.specs.Int.{bit_at}
use Rattle.aes3_level.specs.declared.level.Level.{Level}
use Rattle.aes3_frame.specs.declared.block.Channel.{Channel}
use Rattle.aes3_frame.specs.declared.block.Channel.TheVariants.{First, Second}
use Rattle.aes3_frame.specs.Blocks.{IsBlock, block_len, block_cells, stream}
use Rattle.aes3_frame.specs.Files.{file, file_blocks, IsBlockFile}
use Rattle.aes3_block.specs.Readers.{reader_of, end_answer}
use Rattle.aes3_block.specs.Feeding.{blocks_fed, reader_fed}
use Rattle.aes3_frame.specs.Statuses.{of_channel, status_bit, status_place, status_len, status_of, with_status}

-- a block has 24,576 cells
abbrev pub BlocksHaveOneLength : Type 0
BlocksHaveOneLength =
    (s : Level) (b : List (List Bool)) → IsBlock b → (length (block_cells s b) ≡ block_len) × (block_len ≡ 24576)

-- the last cell of a block has the level before its first
abbrev pub BlocksKeepTheLevel : Type 0
BlocksKeepTheLevel =
    (s : Level) (b : List (List Bool)) → IsBlock b → slice_get (block_cells s b) (block_len - 1) ≡ Some s

-- the cells of blocks tell the level before them and the block
abbrev pub CellsTellTheBlock : Type 0
CellsTellTheBlock =
    (s t : Level) (b d : List (List Bool)) → IsBlock b → IsBlock d → block_cells s b ≡ block_cells t d
    → (s ≡ t) × (b ≡ d)

-- the cells of blocks one behind the other are those of each block after the same level
abbrev pub StreamsJoin : Type 0
StreamsJoin =
    (s : Level) (bs ds : List (List (List Bool))) → All IsBlock bs → stream s (bs ++ ds) ≡ stream s bs ++ stream s ds

-- they tell the blocks
abbrev pub StreamTellsTheBlocks : Type 0
StreamTellsTheBlocks =
    (s : Level) (bs ds : List (List (List Bool))) → All IsBlock bs → All IsBlock ds
    → stream s bs ≡ stream s ds → bs ≡ ds

-- the file of blocks is a block file that is read back as these blocks
abbrev pub FilesReadBack : Type 0
FilesReadBack = (bs : List (List (List Bool))) → All IsBlock bs → IsBlockFile (file bs) × (file_blocks (file bs) ≡ bs)

-- one byte of a file or of a status
abbrev pub IsByte : ℕ → Type 0
IsByte byte = byte < 256

-- each block file is the file of the blocks that are read from it
abbrev pub FilesAreOfBlocks : Type 0
FilesAreOfBlocks =
    (bytes : List ℕ) → All IsByte bytes → IsBlockFile bytes → All IsBlock (file_blocks bytes)
    × (file (file_blocks bytes) ≡ bytes)

-- a new reader answers the whole blocks of the bytes that it is fed
abbrev pub ReaderAnswersBlocks : Type 0
ReaderAnswersBlocks = (bytes : List ℕ) → blocks_fed (reader_of []) bytes ≡ file_blocks bytes

-- it lets a block file end, and nothing else
abbrev pub IsAccepted : List ℕ → Type 0
IsAccepted bytes = end_answer (reader_fed (reader_of []) bytes) ≡ Ok tt

abbrev pub ReaderAcceptsBlockFiles : Type 0
ReaderAcceptsBlockFiles = (bytes : List ℕ) → (IsBlockFile bytes → IsAccepted bytes)
    × (IsAccepted bytes → IsBlockFile bytes)

-- the payload of a channel in frame i
abbrev pub payload_in : List (List Bool) → Channel → ℕ → List Bool
payload_in b First i = slice_index_or b (2 * i) []
payload_in b Second i = slice_index_or b (2 * i + 1) []

-- bit i mod 8 of byte i / 8 of a status is the C bit of frame i
abbrev pub StatusBitsAreOfFrames : Type 0
StatusBitsAreOfFrames =
    (b : List (List Bool)) (channel : Channel) (i : ℕ) → IsBlock b → i < 192
    → (bit_at (slice_index (status_of b channel) (i / 8)) (i % 8) == 1) ≡ status_bit (payload_in b channel i)

-- the status that was set is read
abbrev pub StatusReadsBack : Type 0
StatusReadsBack =
    (b : List (List Bool)) (channel : Channel) (bytes : List ℕ) → IsBlock b → length bytes ≡ status_len
    → All IsByte bytes
    → status_of (with_status b channel bytes) channel ≡ bytes

-- a block with the status that it has is that block
abbrev pub StatusMayStay : Type 0
StatusMayStay = (b : List (List Bool)) (channel : Channel) → IsBlock b → with_status b channel (status_of b channel) ≡ b

-- a block with another status is a block with the same audio, V and U in each subframe, and the other channel is as it
-- was
abbrev pub other_channel : Channel → Channel
other_channel First = Second
other_channel Second = First

pub record SameButStatus (b d : List (List Bool)) (channel : Channel) : Type 0 where
  pub block : IsBlock d
  pub rest : map (take status_place) d ≡ map (take status_place) b
  pub other : of_channel (other_channel channel) d ≡ of_channel (other_channel channel) b
  pub status : status_of d (other_channel channel) ≡ status_of b (other_channel channel)

abbrev pub OnlyStatusChanges : Type 0
OnlyStatusChanges =
    (b : List (List Bool)) (channel : Channel) (bytes : List ℕ) → IsBlock b
    → SameButStatus b (with_status b channel bytes) channel
