-- Laws of the lines that tell changes of channel status.
use Rattle.std.specs.Prelude.{ℕ, zero, suc, List, [], ◌++◌, Bool, true, not, length, get_or, ◌≡◌, if◌then◌else◌}
use Rattle.std.specs.List.{flat_map, range_with_len}
use Rattle.std.specs.Str.{bytes_eq}
use Rattle.aes3_frame.specs.declared.block.Channel.{Channel}
use Rattle.aes3_frame.specs.declared.block.Channel.TheVariants.{First, Second}
use Rattle.aes3_frame.specs.Statuses.{status_of}
use Rattle.aes3_text.specs.Runs.{channel_line, change_lines, status_lines}

-- the line of a channel in block k of blocks
abbrev pub line_at : List (List (List Bool)) → Channel → ℕ → List ℕ
line_at bs channel k = channel_line channel k (get_or bs k [])

-- whether block k is the first, or the channel has another status in it than in the block before
abbrev pub is_new : List (List (List Bool)) → Channel → ℕ → Bool
is_new bs channel zero = true
is_new bs channel (suc k) =
    not (bytes_eq (status_of (get_or bs k []) channel) (status_of (get_or bs (suc k) []) channel))

abbrev pub new_line_at : List (List (List Bool)) → Channel → ℕ → List ℕ
new_line_at bs channel k = if is_new bs channel k then line_at bs channel k else []

-- all lines of blocks are those of each block and channel, in order
abbrev pub LinesAreOfEach : Type 0
LinesAreOfEach = (bs : List (List (List Bool)))
    → status_lines bs ≡ flat_map (λ k. line_at bs First k ++ line_at bs Second k) (range_with_len 0 (length bs))

-- and those that tell changes are the same without each that is not new
abbrev pub ChangesAreNew : Type 0
ChangesAreNew = (bs : List (List (List Bool)))
    → change_lines bs ≡ flat_map (λ k. new_line_at bs First k ++ new_line_at bs Second k) (range_with_len 0 (length bs))
