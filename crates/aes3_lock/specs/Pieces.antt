-- Pieces of a lawful stream.
use Rattle.std.specs.Prelude.{ℕ, zero, suc, List, [], ◌∷◌, ◌++◌, Bool, length, ◌≡◌, ◌≤◌, ◌+◌, ◌-◌, ◌*◌, ◌%◌, ◌&&◌}
use Rattle.std.specs.Prelude.{nat_le, take, drop, if◌then◌else◌}
use Rattle.std.specs.List.{All}
use Rattle.aes3_level.specs.declared.level.Level.{Level}
use Rattle.aes3_slot.specs.declared.mark.Mark.{Mark}
use Rattle.aes3_frame.specs.Blocks.{mark_at, block_subframes, block_len, stream, IsBlock}

-- the cells of a stream of blocks after level s from cell i up to, but without, cell j
pub record IsPiece (s : Level) (bs : List (List (List Bool))) (i j : ℕ) (c : List Level) : Type 0 where
  pub blocks : All IsBlock bs
  pub order : i ≤ j
  pub within : j ≤ length (stream s bs)
  pub is : c ≡ take (j - i) (drop i (stream s bs))

-- of blocks of which the first begins at cell p, what is given of those that lie in cells i to j: by the place of each
-- and the block
abbrev pub given_within : (ℕ → List (List Bool) → List (List (List Bool))) → ℕ → ℕ → ℕ → List (List (List Bool))
    → List (List (List Bool))
given_within given p i j [] = []
given_within given p i j (b ∷ bs) =
    (if nat_le i p && nat_le (p + block_len) j then given p b else []) ++ given_within given (p + block_len) i j bs

-- what is given of a piece's whole blocks, and these blocks themselves
unfoldable pub given_blocks : (ℕ → List (List Bool) → List (List (List Bool))) → List (List (List Bool)) → ℕ → ℕ
    → List (List (List Bool))
given_blocks given bs i j = given_within given 0 i j bs

unfoldable pub whole_blocks : List (List (List Bool)) → ℕ → ℕ → List (List (List Bool))
whole_blocks bs i j = given_within (λ p b. b ∷ []) 0 i j bs

-- the preambles of n subframes of a stream from subframe k on of which all eight cells lie in cells i to j, their
-- places counted from cell i; a lawful subframe ends at the level before it, so all are after level s
abbrev pub marks_within : ℕ → ℕ → Level → ℕ → ℕ → List (ℕ × Mark × Level)
marks_within zero k s i j = []
marks_within (suc n) k s i j =
    (if nat_le i (64 * k) && nat_le (64 * k + 8) j then (64 * k - i, mark_at (k % block_subframes), s) ∷ [] else [])
    ++ marks_within n (suc k) s i j

-- a piece's true preambles
unfoldable pub true_marks : Level → List (List (List Bool)) → ℕ → ℕ → List (ℕ × Mark × Level)
true_marks s bs i j = marks_within (block_subframes * length bs) 0 s i j
