-- Runs that read cells and write something of each block that stands whole and closed in them.
use Rattle.std.specs.Prelude.{ℕ, suc, List, [], ◌∷◌, ◌++◌, Bool, ◌-◌, nat_lt, nat_le, ◌&&◌, drop, take, if◌then◌else◌}
use Rattle.aes3_level.specs.declared.level.Level.{Level}
use Rattle.aes3_level.specs.declared.level.Level.TheVariants.{Low}
use Rattle.aes3_cell.specs.declared.form.Form.{Form}
use Rattle.aes3_cell.specs.Written.{bytes_of, written}
use Rattle.aes3_frame.specs.Blocks.{block_cells, stream}
use Rattle.aes3_lock.specs.declared.report.Report.{Report}
use Rattle.aes3_lock.specs.declared.report.Report.TheVariants.{Whole, Marked, Fault, Unfinished}
use Rattle.aes3_lock.specs.Reports.{decided, wholes}

-- the blocks that are decided whatever cells follow
abbrev pub decided_blocks : List Level → List (List (List Bool))
decided_blocks c = wholes (decided c)

-- a block by its number, of blocks from 0, gives bytes; those of a report, and of blocks of which the first has number
-- n
abbrev pub report_bytes : (ℕ → List (List Bool) → List ℕ) → ℕ → Report → List ℕ
report_bytes f n (Whole at s b) = f n b
report_bytes f n (Marked at s wrong) = []
report_bytes f n (Fault at cell why) = []
report_bytes f n (Unfinished at cells) = []

abbrev pub numbered : (ℕ → List (List Bool) → List ℕ) → ℕ → List (List (List Bool)) → List ℕ
numbered f n [] = []
numbered f n (b ∷ bs) = f n b ++ numbered f (suc n) bs

-- in the normal polarity, and in the normal polarity from block `from` on, `count` at most
abbrev pub normal_block : Form → ℕ → List (List Bool) → List ℕ
normal_block form n b = bytes_of form (block_cells Low b)

abbrev pub cut_block : Form → ℕ → ℕ → ℕ → List (List Bool) → List ℕ
cut_block form from count n b = if nat_le from n && nat_lt (n - from) count then normal_block form n b else []

-- blocks one behind the other in the normal polarity as they are written: before the ending, and with it
abbrev pub begun_stream : Form → List (List (List Bool)) → List ℕ
begun_stream form bs = bytes_of form (stream Low bs)

abbrev pub written_stream : Form → List (List (List Bool)) → List ℕ
written_stream form bs = written form (stream Low bs)

-- the blocks of numbers from `from` on, `count` at most
abbrev pub cut_blocks : ℕ → ℕ → List (List (List Bool)) → List (List (List Bool))
cut_blocks from count bs = take count (drop from bs)
