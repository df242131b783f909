use Rattle.std.proofs.Common.{◌≡◌, ◌⊎◌, inl, inr, ℕ, ◌<◌, ◌≤◌, take, ap, ◌∙◌, sym, arith, w64}
use Rattle.std.proofs.lemmas.Bool.{cases_eq, leb-true, leb-false}
use Rattle.std.proofs.lemmas.Nat.Bits.{bit_at-trailing_zeros, bit_at-zero}
use Rattle.std.specs.Int.{bit_at, trailing_zeros}
use Rattle.std.specs.Int.Count.{trailing_of_zero}
use Rattle.aes3_level.specs.Words.{word_cells}
use Rattle.aes3_slot.specs.Fronts.{IsFrontOf, stands}
use Rattle.aes3_slot.proofs.Fronts.{front-before, front-fails}
use Rattle.aes3_slot.proofs.ReadSubframes.{length-word}
use Rattle.aes3_slot.proofs.WrongCells.{true-from_zero, false-from_one}
use Rattle.aes3_slot.proofs.subframe_reading.begins_subframe.Goals as goal

none-set : (w : ℕ) → w ≡ 0 → trailing_zeros w64 w ≡ 64
none-set w e = ap (trailing_zeros w64) e ∙ trailing_of_zero 64

pub returns-clause-yes : goal.returns-clause-yes
returns-clause-yes c = λ r.
    front-before c.args.before c.args.mark (word_cells c.args.cells) c.args.len
    (length-word c.args.cells) c.requires (λ i h.
    true-from_zero (stands c.args.before c.args.mark (word_cells c.args.cells) i)
    (sym (c.wrong_cells.ensures i (let l = c.requires in omega (arith, l, h)))
    ∙ go (cases_eq c.wrong_cells.result 0) (leb-true _ _ r) i h))
  where
    go : (c.wrong_cells.result ≡ 0) ⊎ (c.wrong_cells.result ≡ 0 → ⊥)
        → c.args.len ≤ trailing_zeros w64 c.wrong_cells.result → (i : ℕ) → i < c.args.len
        → bit_at c.wrong_cells.result i ≡ 0
    go (inl z) r i h = ap (λ w. bit_at w i) z ∙ bit_at-zero i
    go (inr s) r i h = (bit_at-trailing_zeros w64 c.wrong_cells.result (omega (arith, s)) (omega arith)).2 i
        (omega (arith, r, h))

pub returns-clause-no : goal.returns-clause-no
returns-clause-no c = λ r. go (cases_eq c.wrong_cells.result 0) (leb-false _ _ r)
  where
    go : (c.wrong_cells.result ≡ 0) ⊎ (c.wrong_cells.result ≡ 0 → ⊥)
        → trailing_zeros w64 c.wrong_cells.result < c.args.len
        → IsFrontOf c.args.before c.args.mark (take c.args.len (word_cells c.args.cells)) → ⊥
    go (inl z) r = absurd (let t = none-set c.wrong_cells.result z in let l = c.requires in omega (arith, t, l, r))
    go (inr s) r =
        let z = bit_at-trailing_zeros w64 c.wrong_cells.result (omega (arith, s)) (omega arith) in
        front-fails c.args.before c.args.mark
        (word_cells c.args.cells) c.args.len _ (length-word c.args.cells) c.requires r
        (false-from_one (stands c.args.before c.args.mark (word_cells c.args.cells) _)
        (sym (c.wrong_cells.ensures _ z.0) ∙ z.1))
