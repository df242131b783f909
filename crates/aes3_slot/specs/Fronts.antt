-- Fronts of a subframe, and where its cells can't stand.
use Rattle.std.specs.Prelude.{ℕ, List, [], ◌∷◌, ◌++◌, Bool, true, false, not, length, ◌≡◌, ◌==◌, ◌&&◌, ◌||◌}
use Rattle.aes3_level.specs.declared.level.Level.{Level}
use Rattle.aes3_level.specs.Cells.{line}
use Rattle.aes3_slot.specs.declared.mark.Mark.{Mark}
use Rattle.aes3_bits.specs.Bits.{odd_ones}
use Rattle.aes3_slot.specs.Slots.{slots_len, slot_runs, subframe_runs, with_parity, IsPayload}
use Rattle.aes3_slot.specs.Reading.{same}
use Rattle.aes3_slot.specs.Rules.{at, before, rule}

-- the cells begin a subframe with this mark after level s, whatever its parity bit
pub record IsFrontOf (s : Level) (mark : Mark) (cells : List Level) : Type 0 where
  pub bits : List Bool
  pub count : length bits ≡ slots_len
  pub rest : List Level
  pub is : line s (slot_runs mark bits) ≡ cells ++ rest

-- the cells begin a subframe with this mark after level s whose parity bit is right
pub record IsLawfulFrontOf (s : Level) (mark : Mark) (cells : List Level) : Type 0 where
  pub payload : List Bool
  pub count : IsPayload payload
  pub rest : List Level
  pub is : line s (subframe_runs mark payload) ≡ cells ++ rest

-- bits and a parity bit, right or wrong
abbrev pub with_some_parity : Bool → List Bool → List Bool
with_some_parity true bits = with_parity bits
with_some_parity false bits = bits ++ not (odd_ones bits) ∷ []

-- cell i may stand where it is in a subframe with this mark after level s
unfoldable pub stands : Level → Mark → List Level → ℕ → Bool
stands s mark cells i = rule (λ _. mark) i (at cells i) s (before s cells i)

-- and where it is the last it has the level s again, as with right parity
abbrev pub stands_even : Level → Mark → List Level → ℕ → Bool
stands_even s mark cells i = stands s mark cells i && (not (i == 63) || same (at cells i) s)
