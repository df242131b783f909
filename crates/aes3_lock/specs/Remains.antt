-- What is given of a block whose cells change, are lost or have one put in between, by its place, and which reports
-- cover a change.
use Rattle.std.specs.Prelude.{ℕ, suc, List, [], ◌∷◌, Bool, true, false, ◌+◌, ◌-◌, ◌==◌, ◌&&◌, ◌||◌, nat_lt, nat_le}
use Rattle.std.specs.Prelude.{take, drop, if◌then◌else◌}
use Rattle.aes3_level.specs.declared.level.Level.{Level}
use Rattle.aes3_slot.specs.Reading.{differs}
use Rattle.aes3_frame.specs.Blocks.{block_len}
use Rattle.aes3_lock.specs.declared.report.Report.{Report}
use Rattle.aes3_lock.specs.declared.report.Report.TheVariants.{Whole, Marked, Fault, Unfinished}
use Rattle.aes3_lock.specs.Damage.{places_apart, between_slots, exchanged}

-- whether cell k is one of the cells of a block that begins at cell p, or else the one directly behind them
abbrev pub holds : ℕ → ℕ → Bool
holds k p = nat_le p k && nat_lt k (p + block_len)

abbrev pub reaches : ℕ → ℕ → Bool
reaches k p = nat_le p k && nat_le k (p + block_len)

-- what is given of a block that begins at cell p: after cell k changed, after cells k and l changed, after cell k was
-- lost
abbrev pub after_change : ℕ → ℕ → List (List Bool) → List (List (List Bool))
after_change k p b = if reaches k p then [] else b ∷ []

abbrev pub after_two_changes : ℕ → ℕ → ℕ → List (List Bool) → List (List (List Bool))
after_two_changes k l p b =
    if holds k p && (l == suc k && between_slots (k - p)) then exchanged (k - p) b ∷ []
    else (if reaches k p || reaches l p then [] else b ∷ [])

abbrev pub after_loss : ℕ → ℕ → List (List Bool) → List (List (List Bool))
after_loss k p b = if holds k p then [] else b ∷ []

-- after cell x was put in before cell k of a stream after level s: the block stays where x stands before it, or behind
-- the cell that closes it, or closes it, or makes the first run of its preamble, three cells of the level that isn't s,
-- one cell longer
abbrev pub after_insertion : Level → ℕ → Level → ℕ → List (List Bool) → List (List (List Bool))
after_insertion s k x p b =
    if nat_le k p || (nat_lt (p + block_len) k || (differs s x && (nat_le k (p + 3) || k == p + block_len)))
    then b ∷ []
    else []

-- what is given of a block of which these cells changed, or the cell behind its last: two next to each other between
-- two slots make another block of it, and any other takes it
abbrev pub left_of : List ℕ → List (List Bool) → List (List (List Bool))
left_of [] b = b ∷ []
left_of (x ∷ []) b = []
left_of (x ∷ y ∷ more) b = if y == suc x && between_slots x then left_of more (exchanged x b) else []

-- of a block that begins at cell p, where the piece from cell i on was c and is d
abbrev pub after_changes : ℕ → List Level → List Level → ℕ → List (List Bool) → List (List (List Bool))
after_changes i c d p b =
    left_of (places_apart 0 (take (suc block_len) (drop (p - i) c)) (take (suc block_len) (drop (p - i) d))) b

-- the place of a report
abbrev pub place_of : Report → ℕ
place_of (Whole at s b) = at
place_of (Marked at s wrong) = at
place_of (Fault at cell why) = at
place_of (Unfinished at cells) = at

-- whether a report tells of a change in cell k: it isn't whole, and a fault's cell is none before that one
abbrev pub covers : ℕ → Report → Bool
covers k (Whole at s b) = false
covers k (Marked at s wrong) = true
covers k (Fault at cell why) = nat_le k cell
covers k (Unfinished at cells) = false
