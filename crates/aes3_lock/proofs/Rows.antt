-- The definitions on a few cells.
use Rattle.std.proofs.Common.{◌≡◌, List, [], ◌∷◌, ◌++◌, true, false, refl, replicate, take, ◌+◌}
use Rattle.aes3_level.specs.declared.level.Level.{Level}
use Rattle.aes3_level.specs.declared.level.Level.TheVariants.{Low, High}
use Rattle.aes3_slot.specs.declared.mark.Mark.{Mark}
use Rattle.aes3_slot.specs.declared.mark.Mark.TheVariants.{X, Y, Z}
use Rattle.aes3_level.specs.Words.{low_cells}
use Rattle.aes3_level.specs.Cells.{line}
use Rattle.aes3_slot.specs.Slots.{mark_runs, slot_runs, payload_len}
use Rattle.aes3_frame.specs.Blocks.{mark_at, block_len, block_subframes, block_cells, zero_block}
use Rattle.aes3_lock.specs.declared.report.Report.TheVariants.{Fault, Unfinished}
use Rattle.aes3_lock.specs.declared.report.Why.TheVariants.{Preamble, Biphase}
use Rattle.aes3_slot.specs.Preambles.{begins_with}
use Rattle.aes3_lock.specs.Candidates.{keeps, front}
use Rattle.aes3_lock.specs.Damage.{changed, between_slots, exchanged, places_apart}
use Rattle.aes3_lock.specs.Remains.{left_of}
use Rattle.aes3_lock.specs.Outcomes.{outcome}
use Rattle.aes3_lock.specs.Reports.{reports, outcome_at, decided, decided_at}
use Rattle.aes3_lock.specs.Preambles.{marks, first_mark}

-- a zero subframe after Low
zeros : Mark → List Level
zeros m = line Low (slot_runs m (replicate 28 false))

-- two subframes of the zero block, and then an X whose last cells begin a Z of the other polarity
broken : List Level
broken = zeros Z ++ zeros Y ++ low_cells 11 0x747

reports-broken : reports broken ≡ Fault 0 138 Biphase ∷ Unfinished 131 8 ∷ []
unfolding reports outcome_at outcome begins_with keeps front mark_at block_len block_subframes broken zeros
reports-broken = refl

decided-broken : decided broken ≡ Fault 0 138 Biphase ∷ []
unfolding decided decided_at outcome begins_with keeps front mark_at block_len block_subframes broken zeros
decided-broken = refl

marks-broken : marks broken ≡ (0, Z, Low) ∷ (64, Y, Low) ∷ (128, X, Low) ∷ (131, Z, High) ∷ []
unfolding marks first_mark begins_with broken zeros
marks-broken = refl

-- the first slot behind the preamble of the next subframe with the wrong parity bit before it
odd : List Level
odd = line Low (slot_runs Z (replicate 27 false ++ true ∷ [])) ++ line Low (mark_runs Y)

reports-odd : reports odd ≡ Fault 0 64 Preamble ∷ []
unfolding reports outcome_at outcome begins_with keeps front mark_at block_len block_subframes odd
reports-odd = refl

-- the first two slots of the zero block with the cells between them changed, and the last two: the second of these is
-- parity
exchanged-first : take 16 (block_cells Low (exchanged 9 zero_block)) ≡ line Low
    (3 ∷ 1 ∷ 1 ∷ 3 ∷ 1 ∷ 1 ∷ 1 ∷ 1 ∷ 2 ∷ 2 ∷ [])
unfolding block_cells zero_block mark_at block_subframes payload_len
exchanged-first = refl

exchanged-last : take 2 (exchanged (64 + 61) zero_block) ≡ replicate 27 false ∷ (replicate 26 false ++ true ∷ []) ∷ []
unfolding zero_block block_subframes payload_len
exchanged-last = refl

-- cells between slots: not those within one, nor those of which one is of a preamble
between-rows : (between_slots 7 ≡ false) × (between_slots 9 ≡ true) × (between_slots 10 ≡ false)
    × (between_slots 61 ≡ true) × (between_slots 63 ≡ false)
between-rows = (refl, refl, refl, refl, refl)

-- what changed cells leave of the zero block
left-rows : (left_of [] zero_block ≡ zero_block ∷ []) × (left_of (9 ∷ []) zero_block ≡ [])
    × (left_of (10 ∷ 11 ∷ []) zero_block ≡ [])
    × (left_of (9 ∷ 10 ∷ []) zero_block ≡ exchanged 9 zero_block ∷ []) × (left_of (9 ∷ 10 ∷ 24576 ∷ []) zero_block ≡ [])
left-rows = (refl, refl, refl, refl, refl)

changed-row : places_apart 0 broken (changed 100 (changed 3 broken)) ≡ 3 ∷ 100 ∷ []
unfolding broken zeros
changed-row = refl
