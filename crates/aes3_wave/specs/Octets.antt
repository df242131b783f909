-- Numbers and names in octets.
use Rattle.std.specs.Prelude.{ℕ, Bool, List, ◌+◌, ◌*◌, ◌==◌, get_or}
use Rattle.std.specs.List.{starts_with}

-- the number of two octets, of four and of eight from place `at` on, the lowest octet first
abbrev pub u16_at : List ℕ → ℕ → ℕ
u16_at b at = get_or b at 0 + 256 * get_or b (at + 1) 0

abbrev pub u32_at : List ℕ → ℕ → ℕ
u32_at b at = u16_at b at + 65536 * u16_at b (at + 2)

abbrev pub u64_at : List ℕ → ℕ → ℕ
u64_at b at = u32_at b at + 4294967296 * u32_at b (at + 4)

-- they begin with these octets
abbrev pub begins : List ℕ → List ℕ → Bool
begins b first = starts_with (λ x y. x == y) b first
