-- What one more cell makes of what a lock keeps.
use Rattle.std.specs.Prelude.{ℕ, List, [], ◌∷◌, ◌++◌, Bool, true, false, ◌-◌, ◌&&◌, Option, Some, None, nat_lt, nat_le}
use Rattle.std.specs.Prelude.{option_map, length, drop, replicate, if◌then◌else◌}
use Rattle.aes3_level.specs.declared.level.Level.{Level}
use Rattle.aes3_level.specs.declared.level.Level.TheVariants.{Low}
use Rattle.aes3_slot.specs.declared.mark.Mark.{Mark}
use Rattle.aes3_slot.specs.declared.mark.Mark.TheVariants.{X, Y, Z}
use Rattle.aes3_frame.specs.Blocks.{block_len}
use Rattle.aes3_lock.specs.declared.candidate.Candidate.{Candidate}
use Rattle.aes3_slot.specs.Preambles.{entry}
use Rattle.aes3_lock.specs.Candidates.{begins_block}
use Rattle.aes3_lock.specs.Preambles.{first_mark, placed}
use Rattle.aes3_lock.specs.Outcomes.{Outcome, fault, unfinished, block_outcome}

-- the last eight cells, with Low before the first of all
unfoldable pub last_eight : List Level → List Level
last_eight c = drop (length c) (replicate 8 Low ++ c)

-- eight cells with one more
abbrev pub eight_with : List Level → Level → List Level
eight_with recent l = drop 1 recent ++ l ∷ []

-- whether a preamble is that of a block's first subframe
abbrev pub begins_a_block : Mark → Bool
begins_a_block X = false
begins_a_block Y = false
begins_a_block Z = true

-- the candidate whose preamble the last eight of n cells are
unfoldable pub begun : ℕ → List Level → Option Candidate
begun n recent =
    if nat_le 8 n && begins_block recent
    then Some (record { at = n - 8; before = entry recent; level = entry recent })
    else None

-- the preamble that the last eight of n cells are, with its place
unfoldable pub ended_mark : ℕ → List Level → Option (ℕ × Mark × Level)
ended_mark n recent = if nat_le 8 n then option_map (placed (n - 8)) (first_mark recent) else None

-- the outcome of a candidate after level s which the cell at an offset ends, whether or not that cell equals the one
-- before it, and where the cells end
abbrev pub ended : Level → ℕ → Bool → List (List Bool) → Outcome
ended s offset equal slots =
    if nat_lt offset block_len then fault offset else (if equal then fault offset else block_outcome s slots)

abbrev pub left : Level → ℕ → List (List Bool) → Outcome
left s cells slots = if nat_lt cells block_len then unfinished cells else block_outcome s slots
