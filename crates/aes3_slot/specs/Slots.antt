-- The runs of a subframe: its preamble, its 27 bits, and the parity bit that makes their ones even.
use Rattle.std.specs.Prelude.{ℕ, zero, suc, List, [], ◌∷◌, ◌++◌, Bool, true, false, length, ◌≡◌, ◌%◌, ◌==◌}
use Rattle.std.specs.Prelude.{if◌then◌else◌}
use Rattle.std.specs.List.{flat_map}
use Rattle.aes3_slot.specs.declared.mark.Mark.{Mark}
use Rattle.aes3_slot.specs.declared.mark.Mark.TheVariants.{X, Y, Z}
use Rattle.aes3_bits.specs.Bits.{low_bits, odd_ones}

-- the lengths of a preamble's runs
abbrev pub mark_runs : Mark → List ℕ
mark_runs X = 3 ∷ 3 ∷ 1 ∷ 1 ∷ []
mark_runs Y = 3 ∷ 2 ∷ 1 ∷ 2 ∷ []
mark_runs Z = 3 ∷ 1 ∷ 1 ∷ 3 ∷ []

-- the preamble of a block's subframe by its number: Z and Y in frame 0, X and Y in the frames after it
unfoldable pub mark_at : ℕ → Mark
mark_at zero = Z
mark_at (suc j) = if (j % 2) == 0 then Y else X

-- biphase-mark: bit 0 is one run of two cells, bit 1 is two runs of one
abbrev pub bit_runs : Bool → List ℕ
bit_runs false = 2 ∷ []
bit_runs true = 1 ∷ 1 ∷ []

abbrev pub bits_runs : List Bool → List ℕ
bits_runs bits = flat_map bit_runs bits

-- bits and the bit that makes their ones even
abbrev pub with_parity : List Bool → List Bool
with_parity bits = bits ++ odd_ones bits ∷ []

-- how many bits a payload has: 24 of audio, lowest first, then validity, user and channel status
unfoldable pub payload_len : ℕ
payload_len = 27

abbrev pub IsPayload : List Bool → Type 0
IsPayload bits = length bits ≡ payload_len

-- the bits of a payload kept as a number
abbrev pub payload_bits : ℕ → List Bool
payload_bits payload = low_bits payload_len payload

-- how many slots stand behind a preamble, and the bits that they carry, kept as a number
unfoldable pub slots_len : ℕ
slots_len = 28

abbrev pub slots_bits : ℕ → List Bool
slots_bits slots = low_bits slots_len slots

-- a subframe whose slots behind the preamble carry these 28 bits
abbrev pub slot_runs : Mark → List Bool → List ℕ
slot_runs mark bits = mark_runs mark ++ bits_runs bits

-- a subframe with this payload
abbrev pub subframe_runs : Mark → List Bool → List ℕ
subframe_runs mark bits = slot_runs mark (with_parity bits)

-- subframes that carry these bits, their preambles by number
abbrev pub runs_of : (ℕ → Mark) → List (List Bool) → List ℕ
runs_of marks [] = []
runs_of marks (bits ∷ more) = slot_runs (marks 0) bits ++ runs_of (λ j. marks (suc j)) more
