-- The values of options.
use Rattle.std.specs.Prelude.{ℕ, List, Option, Some, None, Bool, ◌==◌, length, nat_lt, codes, if◌then◌else◌}
use Rattle.std.specs.Prelude.{option_and_then, option_map}
use Rattle.std.specs.List.{before_first, after_first, position_or_len}
use Rattle.std.specs.Str.{bytes_eq}
use Rattle.aes3_cli.specs.Numbers.{number_in}
use Rattle.aes3_spoil.specs.declared.kinds.ErrorKind.{ErrorKind}
use Rattle.aes3_spoil.specs.declared.kinds.ErrorKind.TheVariants.{Changed, Inverted, Lost, Doubled}
use Rattle.aes3_spoil.specs.declared.kinds.Every.{Every}
use Rattle.aes3_spoil_runs.specs.declared.named.NamedError.{NamedError}
use Rattle.aes3_spoil_runs.specs.declared.named.NamedError.TheVariants as named

-- the greatest number of a cell: 2^43
abbrev pub most_cells : ℕ
most_cells = 8796093022208

abbrev pub is_colon : ℕ → Bool
is_colon byte = byte == 58

-- what stands before the first colon and behind it
abbrev pub parts_in : List ℕ → Option (List ℕ × List ℕ)
parts_in text = if nat_lt (position_or_len is_colon text) (length text)
    then Some (before_first is_colon text, after_first is_colon text) else None

-- the number of a cell, and that of a time slot behind a preamble
abbrev pub cell_in : List ℕ → Option ℕ
cell_in text = number_in 0 most_cells text

abbrev pub slot_in : List ℕ → Option ℕ
slot_in text = number_in 4 31 text

-- a cell and a time slot
abbrev pub cell_and_slot_in : List ℕ × List ℕ → Option (ℕ × ℕ)
cell_and_slot_in parts = option_and_then (λ cell. option_map (λ slot. (cell, slot)) (slot_in parts.1)) (cell_in parts.0)

-- where the error stands of which this is the value
abbrev pub spot_in : NamedError → List ℕ → Option (ℕ × ℕ)
spot_in named.Biphase text = option_and_then cell_and_slot_in (parts_in text)
spot_in error text = option_map (λ cell. (cell, 4)) (cell_in text)

-- the kind of this name
abbrev pub kind_in : List ℕ → Option ErrorKind
kind_in text = if bytes_eq text (codes "cell") then Some Changed
    else if bytes_eq text (codes "invert") then Some Inverted
    else if bytes_eq text (codes "drop") then Some Lost
    else if bytes_eq text (codes "double") then Some Doubled
    else None

-- the errors that come again and again of which this is the value
abbrev pub every_of_parts : List ℕ × List ℕ → Option Every
every_of_parts parts = option_and_then
    (λ cells. option_map (λ kind. record { cells = cells; kind = kind }) (kind_in parts.1))
    (number_in 1 most_cells parts.0)

abbrev pub every_in : List ℕ → Option Every
every_in text = option_and_then every_of_parts (parts_in text)
