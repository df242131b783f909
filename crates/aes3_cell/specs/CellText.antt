-- Cell text as it is read: `0` and `1` are cells, and LF, CR and space may stand anywhere between them.
use Rattle.std.specs.Prelude.{ℕ, List, [], ◌∷◌, Bool, true, false, length, ◌≡◌, ◌==◌, ◌||◌, if◌then◌else◌}
use Rattle.std.specs.List.{flat_map, take_while}
use Rattle.aes3_level.specs.declared.level.Level.{Level}
use Rattle.aes3_level.specs.declared.level.Level.TheVariants.{Low, High}

-- what a byte of the text is
pub data Kind : Type 0 where
  cell : Level → Kind
  separator : Kind
  bad : Kind

-- `0`, `1`, LF, CR and space by their codes; every other byte is bad
unfoldable pub kind_of : ℕ → Kind
kind_of byte =
    if byte == 48 then cell Low else
    (if byte == 49 then cell High else
    (if byte == 10 || (byte == 13 || byte == 32) then separator else bad))

-- whether a byte may stand in the text, and the cells that it adds: one or none
abbrev pub is_good : Kind → Bool
is_good (cell level) = true
is_good separator = true
is_good bad = false

abbrev pub kind_cells : Kind → List Level
kind_cells (cell level) = level ∷ []
kind_cells separator = []
kind_cells bad = []

abbrev pub is_good_byte : ℕ → Bool
is_good_byte byte = is_good (kind_of byte)

abbrev pub byte_cells : ℕ → List Level
byte_cells byte = kind_cells (kind_of byte)

-- the bytes before the first bad one, and how many they are
unfoldable pub good_bytes : List ℕ → List ℕ
good_bytes bytes = take_while is_good_byte bytes

abbrev pub good : List ℕ → ℕ
good bytes = length (good_bytes bytes)

-- the cells of the bytes before the first bad one
unfoldable pub cells_of_text : List ℕ → List Level
cells_of_text bytes = flat_map byte_cells (good_bytes bytes)

-- bytes none of which is bad
pub record IsCellText (bytes : List ℕ) : Type 0 where
  pub is : good bytes ≡ length bytes
