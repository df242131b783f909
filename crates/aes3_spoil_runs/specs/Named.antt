-- The errors that options name.
use Rattle.std.specs.Prelude.{ℕ, List, [], ◌∷◌, ◌+◌, ◌-◌, ◌*◌, codes}
use Rattle.aes3_spoil.specs.declared.kinds.CellError.{CellError}
use Rattle.aes3_spoil.specs.declared.kinds.ErrorKind.TheVariants.{Changed, Inverted, Lost, Doubled}
use Rattle.aes3_spoil_runs.specs.declared.named.NamedError.{NamedError}
use Rattle.aes3_spoil_runs.specs.declared.named.NamedError.TheVariants as named

-- the option
abbrev pub name_of : NamedError → List ℕ
name_of named.Cell = codes "cell"
name_of named.Invert = codes "invert"
name_of named.Lost = codes "drop"
name_of named.Double = codes "double"
name_of named.Parity = codes "parity"
name_of named.Biphase = codes "biphase"
name_of named.Preamble = codes "preamble"
name_of named.CheckByte = codes "check-byte"

-- the cells at which it stands: of a parity bit the last of its subframe and all behind it, of a time slot its first,
-- of a preamble its third, of a check byte the second of slot 30 and the first of slot 31 of channel 1 in frame 184
abbrev pub errors_named : NamedError → ℕ → ℕ → List CellError
errors_named named.Cell cell slot = record { place = cell; kind = Changed } ∷ []
errors_named named.Invert cell slot = record { place = cell; kind = Inverted } ∷ []
errors_named named.Lost cell slot = record { place = cell; kind = Lost } ∷ []
errors_named named.Double cell slot = record { place = cell; kind = Doubled } ∷ []
errors_named named.Parity cell slot = record { place = cell + 63; kind = Inverted } ∷ []
errors_named named.Biphase cell slot = record { place = cell + 8 + 2 * (slot - 4); kind = Changed } ∷ []
errors_named named.Preamble cell slot = record { place = cell + 2; kind = Changed } ∷ []
errors_named named.CheckByte cell slot =
    record { place = cell + 64 * (2 * 184) + 61; kind = Changed }
    ∷ record { place = cell + 64 * (2 * 184) + 62; kind = Changed } ∷ []

-- how many these are
abbrev pub places_named : NamedError → ℕ
places_named named.CheckByte = 2
places_named named.Cell = 1
places_named named.Invert = 1
places_named named.Lost = 1
places_named named.Double = 1
places_named named.Parity = 1
places_named named.Biphase = 1
places_named named.Preamble = 1
