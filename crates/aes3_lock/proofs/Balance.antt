-- Half of the cells of each subframe are high, so two blocks' cells differ at an even number of places, whatever their
-- levels.
use Rattle.std.proofs.Common.{◌≡◌, ℕ, suc, ◌+◌, ◌*◌, ◌%◌, List, [], ◌∷◌, ◌++◌, Bool, true, false, map, refl, length}
use Rattle.std.proofs.Common.{take, ap, ◌∙◌, sym, arith}
use Rattle.aes3_level.specs.declared.level.Level.{Level}
use Rattle.aes3_level.specs.declared.level.Level.TheVariants.{Low, High}
use Rattle.aes3_level.specs.Cells.{line, after}
use Rattle.aes3_level.proofs.Runs.{after-append}
use Rattle.aes3_slot.specs.declared.mark.Mark.{Mark}
use Rattle.aes3_slot.specs.declared.mark.Mark.TheVariants.{X, Y, Z}
use Rattle.aes3_slot.specs.Slots.{bits_runs, mark_runs, subframe_runs, runs_of, with_parity, IsPayload}
use Rattle.aes3_slot.proofs.Subframes.{line-slots, after-mark, after-subframe}
use Rattle.aes3_frame.specs.Blocks.{mark_at, block_len, block_cells, IsBlock}
use Rattle.aes3_frame.proofs.CellLaws.{length-block_cells}
use Rattle.aes3_frame.proofs.Each.{each-payload}
use Rattle.aes3_frame.proofs.Runs.{Each27}
use Rattle.aes3_lock.specs.Damage.{apart, high_count}
use Rattle.aes3_lock.specs.Standing.{StandsClosed}
use Rattle.aes3_lock.proofs.Exchanged.{runs-cons}
use Rattle.aes3_lock.proofs.OwnPlace.{with_parity-28}

high-append : (a b : List Level) → high_count (a ++ b) ≡ high_count a + high_count b
high-append [] b = omega arith
high-append (Low ∷ a) b = high-append a b
high-append (High ∷ a) b = let r = high-append a b in omega arith

high-mark : (s : Level) (m : Mark) → high_count (line s (mark_runs m)) ≡ 4
high-mark Low X = refl
high-mark Low Y = refl
high-mark Low Z = refl
high-mark High X = refl
high-mark High Y = refl
high-mark High Z = refl

-- pairs of high and of low cells take turns
abbrev is_high : Level → ℕ
is_high Low = 0
is_high High = 1

high-bits : (s : Level) (bits : List Bool)
    → high_count (line s (bits_runs bits)) + is_high s ≡ length bits + is_high (after s (bits_runs bits))
high-bits s [] = refl
high-bits Low (false ∷ bits) = let r = high-bits High bits in omega arith
high-bits High (false ∷ bits) = let r = high-bits Low bits in omega arith
high-bits Low (true ∷ bits) = let r = high-bits Low bits in omega arith
high-bits High (true ∷ bits) = let r = high-bits High bits in omega arith

pub high-subframe : (s : Level) (m : Mark) (p : List Bool) → IsPayload p → high_count (line s (subframe_runs m p)) ≡ 32
high-subframe s m p h =
    let a = ap high_count (line-slots s m (with_parity p))
    ∙ high-append (line s (mark_runs m)) (line s (bits_runs (with_parity p))) in
    let b = high-mark s m in
    let c = high-bits s (with_parity p) in
    let d = with_parity-28 p h in
    let e : after s (bits_runs (with_parity p)) ≡ s =
    ap (λ t. after t (bits_runs (with_parity p))) (sym (after-mark s m))
    ∙ sym (after-append s (mark_runs m) (bits_runs (with_parity p))) ∙ after-subframe s m p h in
    let f = ap is_high e in
    omega arith

high-runs : (marks : ℕ → Mark) (s : Level) (ps : List (List Bool)) → Each27 ps
    → high_count (line s (runs_of marks (map with_parity ps))) ≡ 32 * length ps
high-runs marks s [] h = refl
high-runs marks s (p ∷ ps) h =
    let a = ap high_count (runs-cons marks s p ps h.0)
    ∙ high-append (line s (subframe_runs (marks 0) p)) (line s (runs_of (λ j. marks (suc j)) (map with_parity ps))) in
    let b = high-subframe s (marks 0) p h.0 in
    let c = high-runs (λ j. marks (suc j)) s ps h.1 in
    omega arith

high-block : (s : Level) (b : List (List Bool)) → IsBlock b → high_count (block_cells s b) ≡ 32 * length b
unfolding block_cells
high-block s b h = high-runs mark_at s b (each-payload b h.payloads)

-- each place at which cells differ makes one more or one less of them high
apart-high : (c d : List Level) → length c ≡ length d → (apart c d + high_count c + high_count d) % 2 ≡ 0
apart-high [] [] l = refl
apart-high [] (y ∷ d) l = absurd (omega arith)
apart-high (x ∷ c) [] l = absurd (omega arith)
apart-high (Low ∷ c) (Low ∷ d) l = apart-high c d (omega arith)
apart-high (Low ∷ c) (High ∷ d) l = let r = apart-high c d (omega arith) in omega arith
apart-high (High ∷ c) (Low ∷ d) l = let r = apart-high c d (omega arith) in omega arith
apart-high (High ∷ c) (High ∷ d) l = let r = apart-high c d (omega arith) in omega arith

pub even-apart : (s t : Level) (b d : List (List Bool)) → IsBlock b → IsBlock d
    → apart (block_cells s b) (block_cells t d) % 2 ≡ 0
even-apart s t b d h g =
    let a = apart-high (block_cells s b) (block_cells t d) (length-block_cells s b h
    ∙ sym (length-block_cells t d g)) in
    let u = high-block s b h in
    let v = high-block t d g in
    let n = h.count in
    let m = g.count in
    omega arith

pub changed-even : (b d : List (List Bool)) (s t : Level) (c e : List Level) → StandsClosed b s c → StandsClosed d t e
    → apart (take block_len c) (take block_len e) % 2 ≡ 0
changed-even b d s t c e h g =
    ap (λ x. apart x (take block_len e) % 2) h.cells ∙ ap (λ y. apart (block_cells s b) y % 2) g.cells
    ∙ even-apart s t b d h.block g.block
