-- Blocks of which some subframes have a wrong parity bit, with those filled.
use Rattle.std.specs.Prelude.{List, [], ◌∷◌, Bool, false, ◌-◌, get_or, replicate, take, if◌then◌else◌}
use Rattle.aes3_bits.specs.Bits.{odd_ones}
use Rattle.aes3_slot.specs.Slots.{payload_len}
use Rattle.aes3_frame.specs.declared.fill.Fill.{Fill}
use Rattle.aes3_frame.specs.declared.fill.Fill.TheVariants.{Zero, Hold}
use Rattle.aes3_frame.specs.Blocks.{block_subframes}

-- what fills a subframe: zeros, or the payload of the one before it in its channel
abbrev pub filling_payload : Fill → List Bool → List Bool
filling_payload Zero held = replicate payload_len false
filling_payload Hold held = held

-- the payload of a subframe of 28 bits, filled where their parity is wrong
abbrev pub mended_payload : Fill → List Bool → List Bool → List Bool
mended_payload fill held bits = if odd_ones bits then filling_payload fill held else take payload_len bits

-- those of subframes behind two others with these payloads, the first of which is the one before in the same channel
abbrev pub mended_behind : Fill → List Bool → List Bool → List (List Bool) → List (List Bool)
mended_behind fill held other [] = []
mended_behind fill held other (bits ∷ slots) =
    mended_payload fill held bits ∷ mended_behind fill other (mended_payload fill held bits) slots

-- those of a block's subframes behind another block
unfoldable pub mended : Fill → List (List Bool) → List (List Bool) → List (List Bool)
mended fill before slots =
    mended_behind fill (get_or before (block_subframes - 2) []) (get_or before (block_subframes - 1) []) slots
