-- The runs of samples, and what waits of a recovery.
use Rattle.std.proofs.Common.{ℕ, suc, List, [], ◌∷◌, ◌++◌, ◌≡◌, ◌≤◌, ◌+◌, ◌*◌, ◌⊎◌, inl, inr, refl, ap, ◌∙◌}
use Rattle.std.proofs.Common.{arith, get_or, length, take}
use Rattle.std.specs.List.{flat_map}
use Rattle.aes3_level.specs.declared.level.Level.{Level}
use Rattle.aes3_level.specs.declared.level.Level.TheVariants.{Low, High}
use Rattle.aes3_level.specs.Words.{word_cells}
use Rattle.aes3_level.proofs.WordCells.{word_len_64}
use Rattle.aes3_cell.specs.declared.form.Form.TheVariants.{Packed}
use Rattle.aes3_cell.specs.Packed.{octets_needed, octets_of}
use Rattle.aes3_cell.specs.Written.{bytes_of}
use Rattle.aes3_cell.proofs.ManyWords.{length-words}
use Rattle.aes3_cell.proofs.PackedCells.{length-first_octets}
use Rattle.aes3_capture_recovery.specs.Recovering.{IsInOrder, first_level, runs_to_end, runs_waiting, samples_of}
use Rattle.aes3_capture_recovery.specs.declared.recovery.Recovery.{Recovery}
use Rattle.aes3_capture_recovery.specs.declared.recovery.State.{State}
use Rattle.aes3_capture_recovery.specs.declared.recovery.State.TheVariants.{Still, Measuring, Following}
use Rattle.aes3_capture_recovery.proofs.Telling.{measuring-or}

-- each sample lies in a run
pub samples-runs : (s : Level) (n : ℕ) (levels : List Level) → samples_of (runs_to_end s n levels) ≡ n + length levels
samples-runs Low n [] = omega arith
samples-runs High n [] = omega arith
samples-runs Low n (Low ∷ levels) = let e = samples-runs Low (suc n) levels in omega (arith, e)
samples-runs High n (High ∷ levels) = let e = samples-runs High (suc n) levels in omega (arith, e)
samples-runs Low n (High ∷ levels) = let e = samples-runs High 1 levels in omega (arith, e)
samples-runs High n (Low ∷ levels) = let e = samples-runs Low 1 levels in omega (arith, e)

-- the first run has the samples before these at least
pub first-run : (s : Level) (n : ℕ) (levels : List Level) → n ≤ get_or (runs_to_end s n levels) 0 0
first-run Low n [] = omega arith
first-run High n [] = omega arith
first-run Low n (Low ∷ levels) = let e = first-run Low (suc n) levels in omega (arith, e)
first-run High n (High ∷ levels) = let e = first-run High (suc n) levels in omega (arith, e)
first-run Low n (High ∷ levels) = omega arith
first-run High n (Low ∷ levels) = omega arith

-- the first sample stays the first
pub first-more : (levels more : List Level) → 1 ≤ length levels → first_level (levels ++ more) ≡ first_level levels
first-more [] more some = absurd (omega (arith, some))
first-more (level ∷ levels) more some = refl

-- how many octets words of cells have
pub length-packed : (words : List ℕ) → length (bytes_of Packed (flat_map word_cells words)) ≡ 8 * length words
unfolding octets_of
length-packed words =
    let cells = flat_map word_cells words in
    let n = length-words words ∙ ap (λ k. length words * k) word_len_64 in
    let needed : octets_needed (length cells) ≡ 8 * length words = omega (arith, n) in
    length-first_octets (octets_needed (length cells)) cells ∙ needed

-- what was told of the run behind those that were told is not more than its samples
pub told-of-next : (past : ℕ) (now : Recovery) (behind : ℕ) (more : List Level) (s : Level) → IsInOrder past now
    → past ≤ behind → past ≤ get_or (runs_waiting now ++ runs_to_end s behind more) 0 0
told-of-next past now behind more s order few = elim (measuring-or now.state) [
  | inl is ↦ let none = order.none_past is in omega (arith, none)
  | inr not ↦
      let none : runs_waiting now ≡ [] = ap (λ n. take n now.runs) (order.none_wait not) in
      let first = first-run s behind more in
      let e = ap (λ l. get_or (l ++ runs_to_end s behind more) 0 0) none in
      omega (arith, first, e, few)
]
