-- The fields of a status line.
use Rattle.std.specs.Prelude.{ℕ, List, [], ◌∷◌, ◌++◌, ◌+◌, ◌==◌, ◌&&◌, if◌then◌else◌, nat_le, codes, decimal}
use Rattle.std.specs.Int.{bit_at}

-- ` name=value`
unfoldable pub field_text : List ℕ → List ℕ → List ℕ
field_text name value = codes " " ++ name ++ codes "=" ++ value

-- a byte as a character: those from `!` to `~` as they are, `.` for every other
abbrev pub shown : ℕ → ℕ
shown byte = if nat_le 33 byte && nat_le byte 126 then byte else 46

-- the four lowest bits of a number as digits, the lowest first
unfoldable pub four_bits : ℕ → List ℕ
four_bits n = (48 + bit_at n 0) ∷ (48 + bit_at n 1) ∷ (48 + bit_at n 2) ∷ (48 + bit_at n 3) ∷ []

-- a number that stands for itself but for 0
unfoldable pub specified : ℕ → List ℕ
specified number = if number == 0 then codes "not-specified" else decimal number
