-- Which preamble a subframe of a block has.
use Rattle.std.proofs.Common.{◌≡◌, ◌≢◌, ℕ, zero, suc, ◌%◌, cond, refl, ap, arith, eq-eqb, ne_eqb}
use Rattle.aes3_slot.specs.declared.mark.Mark.{Mark}
use Rattle.aes3_slot.specs.declared.mark.Mark.TheVariants.{X, Y, Z}
use Rattle.aes3_slot.specs.Slots.{mark_at}

pub mark_at-zero : (i : ℕ) → i ≡ 0 → mark_at i ≡ Z
unfolding mark_at
mark_at-zero i e = ap mark_at e

pub mark_at-odd : (i : ℕ) → i % 2 ≡ 1 → mark_at i ≡ Y
unfolding mark_at
mark_at-odd zero e = absurd (omega arith)
mark_at-odd (suc j) e = ap (λ b. cond {A = Mark} b Y X) (eq-eqb (j % 2) 0 (omega arith))

pub mark_at-even : (i : ℕ) → i ≢ 0 → i % 2 ≢ 1 → mark_at i ≡ X
unfolding mark_at
mark_at-even zero n e = absurd (n refl)
mark_at-even (suc j) n e = ap (λ b. cond {A = Mark} b Y X) (ne_eqb (j % 2) 0 (λ q. e (omega arith)))
