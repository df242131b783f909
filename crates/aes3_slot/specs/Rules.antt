-- The local rule that each cell of a line of subframes keeps.
use Rattle.std.specs.Prelude.{ℕ, List, [], ◌∷◌, Bool, true, length, ◌≡◌, ◌<◌, ◌≤◌, ◌*◌, ◌/◌, ◌%◌, ◌==◌, nat_lt, cond}
use Rattle.std.specs.Prelude.{get_or, take, drop}
use Rattle.aes3_level.specs.declared.level.Level.{Level}
use Rattle.aes3_level.specs.declared.level.Level.TheVariants.{Low}
use Rattle.aes3_level.specs.Cells.{line, other}
use Rattle.aes3_slot.specs.declared.mark.Mark.{Mark}
use Rattle.aes3_slot.specs.Slots.{mark_runs}
use Rattle.aes3_slot.specs.Reading.{same, differs}

-- cell i
abbrev pub at : List Level → ℕ → Level
at c i = get_or c i Low

-- the cell before cell i, where s stands before the first
abbrev pub before : Level → List Level → ℕ → Level
before s c i = get_or (s ∷ c) i Low

-- cell k of a preamble after level s
abbrev pub shape : Mark → ℕ → Level → Level
shape m k s = get_or (line s (mark_runs m)) k Low

-- cell i stands as it may in a line of subframes that begins at cell 0
pub record Kept (marks : ℕ → Mark) (s : Level) (c : List Level) (i : ℕ) : Type 0 where
  pub preamble : i % 64 < 8 → at c i ≡ shape (marks (i / 64)) (i % 64) (before s c (64 * (i / 64)))
  pub slot : 8 ≤ i % 64 → i % 2 ≡ 0 → at c i ≡ other (before s c i)

abbrev pub AllKept : (ℕ → Mark) → Level → List Level → Type 0
AllKept marks s c = (i : ℕ) → i < length c → Kept marks s c i

-- the same as a test: whether x may be cell i, with b the level before its subframe and p the cell before it
abbrev pub rule : (ℕ → Mark) → ℕ → Level → Level → Level → Bool
rule marks i x b p =
    cond (nat_lt (i % 64) 8) (same x (shape (marks (i / 64)) (i % 64) b))
    (cond ((i % 2) == 0) (differs x p) true)

-- 28 bits each
abbrev pub Each28 : List (List Bool) → Type 0
Each28 [] = Unit {0}
Each28 (bits ∷ more) = (length bits ≡ 28) × Each28 more

-- the eight cells of m after level t stand at place p
pub record StandsMark (m : Mark) (t : Level) (c : List Level) (p : ℕ) : Type 0 where
  pub is : take 8 (drop p c) ≡ line t (mark_runs m)
