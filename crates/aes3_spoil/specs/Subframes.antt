-- The cells of a subframe at which its errors stand, by the place of its first.
use Rattle.std.specs.Prelude.{ℕ, List, [], ◌∷◌, ◌+◌, ◌-◌, ◌*◌}
use Rattle.aes3_spoil.specs.declared.kinds.CellError.{CellError}
use Rattle.aes3_spoil.specs.declared.kinds.ErrorKind.TheVariants.{Changed}

-- a wrong preamble's is its third, the last of its first run; that of a wrong parity bit is the last of all
abbrev pub preamble_cell : ℕ → ℕ
preamble_cell place = place + 2

abbrev pub parity_cell : ℕ → ℕ
parity_cell place = place + 63

-- that of a time slot from 4 to 31 is its first: behind the preamble's eight cells each slot has two
abbrev pub slot_cell : ℕ → ℕ → ℕ
slot_cell place slot = place + 8 + 2 * (slot - 4)

-- those of a wrong check byte in the block that begins at this place: in channel 1 of frame 184, the second cell of the
-- channel status bit's time slot and the first of the parity bit's
abbrev pub check_errors : ℕ → List CellError
check_errors place =
    record { place = place + 64 * (2 * 184) + 61; kind = Changed }
    ∷ record { place = place + 64 * (2 * 184) + 62; kind = Changed } ∷ []
