-- The preambles that end in a word of cells, and those of them that are not told yet.
use Rattle.std.specs.Prelude.{ℕ, zero, suc, List, [], ◌++◌, true, ◌≡◌, ◌==◌, ◌+◌, ◌-◌, ◌<◌, ◌≤◌, drop, option_to_list}
use Rattle.std.specs.Prelude.{option_map, if◌then◌else◌}
use Rattle.std.specs.Int.{bit_at}
use Rattle.aes3_level.specs.declared.level.Level.{Level}
use Rattle.aes3_slot.specs.declared.mark.Mark.{Mark}
use Rattle.aes3_slot.specs.declared.mark.Mark.TheVariants.{X, Y}
use Rattle.aes3_slot.specs.Preambles.{begins_with, begins_with_any}
use Rattle.aes3_lock.specs.Preambles.{first_mark, placed}

-- of the cells c, the first seven before cell p: the preamble that begins with cell i, if its bit in m is one
abbrev pub mark_of_bit : ℕ → List Level → ℕ → ℕ → List (ℕ × Mark × Level)
mark_of_bit p c m i =
    if bit_at m i == 1 then option_to_list (option_map (placed (p + i - 7)) (first_mark (drop i c))) else []

-- those that begin with the n cells from cell i on
abbrev pub marks_of_bits : ℕ → List Level → ℕ → ℕ → ℕ → List (ℕ × Mark × Level)
marks_of_bits p c m i zero = []
marks_of_bits p c m i (suc n) = mark_of_bit p c m i ++ marks_of_bits p c m (suc i) n

-- those that are left of all that end in a word behind p cells: c are the seven cells before it and its own
unfoldable pub marks_left : ℕ → List Level → ℕ → List (ℕ × Mark × Level)
marks_left p c m = marks_of_bits p c m 0 64

-- at each one in m a preamble begins that does not begin before cell 0, and x and y say which are X and Y
pub record MarksLeft (p m x y : ℕ) (c : List Level) : Type 0 where
  pub begun : (k : ℕ) → k < 64 → bit_at m k ≡ 1 → begins_with_any (drop k c) ≡ true
  pub behind : (k : ℕ) → k < 64 → bit_at m k ≡ 1 → 7 ≤ p + k
  pub x_is : (k : ℕ) → k < 64 → bit_at x k ≡ (if begins_with X (drop k c) then 1 else 0)
  pub y_is : (k : ℕ) → k < 64 → bit_at y k ≡ (if begins_with Y (drop k c) then 1 else 0)
