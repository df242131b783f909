-- Where a block may begin, and how far the cells go on as a block's.
use Rattle.std.specs.Prelude.{ℕ, List, Bool, length, ◌*◌, ◌/◌, min}
use Rattle.std.specs.List.{prefix_len, range_with_len}
use Rattle.aes3_level.specs.declared.level.Level.{Level}
use Rattle.aes3_slot.specs.declared.mark.Mark.TheVariants.{Z}
use Rattle.aes3_slot.specs.Rules.{at, before, rule}
use Rattle.aes3_slot.specs.Preambles.{begins_with}
use Rattle.aes3_frame.specs.Blocks.{mark_at, block_len}

-- a candidate: the preamble of a block stands at the start
abbrev pub begins_block : List Level → Bool
begins_block c = begins_with Z c

-- whether cell i of cells after level s stands as it may in a block, whatever the bits of its subframes
unfoldable pub keeps : Level → List Level → ℕ → Bool
keeps s c i = rule mark_at i (at c i) (before s c (64 * (i / 64))) (before s c i)

-- how many cells, of a block's number at most, stand so before the first that does not
unfoldable pub front : Level → List Level → ℕ
front s c = prefix_len (keeps s c) (range_with_len 0 (min block_len (length c)))
