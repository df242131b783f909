use Rattle.std.proofs.Common.{◌≡◌, ◌+◌, ◌-◌, ◌*◌, ◌/◌, ◌%◌, ◌^◌, ◌<◌, get_or, ap₂, sym, subst, refl, ◌∙◌, arith, lit<}
use Rattle.std.proofs.lemmas.Nat.{shr-shr}
use Rattle.std.specs.Int.Count.{ones, ones-le}
use Rattle.aes3_cell.specs.Scattered.{Holds, kept_cells}
use Rattle.aes3_cell.proofs.KeptCells.{fours, length-kept, length-kept-le, cells-held, all-kept}
use Rattle.aes3_cell.proofs.scattered.together.Goals as goal

pub loop-i-init : goal.loop-i-init
unfolding kept_cells
loop-i-init c = record { cells_of = refl; bound = lit< tt }

pub loop-i-preserved : goal.loop-i-preserved
loop-i-preserved c =
    let k = c.args.kept in
    let l = c.args.levels in
    let i = c.loop-i.i in
    let j = 7 - i in
    let few = c.loop-i-test.true in
    let p = get_or c.places-low.result j 0 in
    let q = get_or c.places-high.result j 0 in
    let s = 4 + 8 * j in
    let t = 64 - 8 * i in
    let high : q ≡ k / 2 ^ s % 16 + 16 * (l / 2 ^ s % 16) =
    c.places-high.ensures j (omega arith)
    ∙ ap₂ (λ u v. u % 16 + 16 * (v % 16)) (shr-shr k 4 (8 * j)) (shr-shr l 4 (8 * j)) in
    let short = length-kept-le (8 * i) (k / 2 ^ t) (l / 2 ^ t) in
    let inner = subst (λ z. Holds z c.behind_four.result) (fours k l (8 * i) s t q (omega arith) high)
    (c.behind_four.ensures (kept_cells (8 * i) (k / 2 ^ t) (l / 2 ^ t)) (omega arith) c.loop-i.invariant) in
    let longer = length-kept-le (4 + 8 * i) (k / 2 ^ s) (l / 2 ^ s) in
    let a : 4 + (4 + 8 * i) ≡ 8 * (i + 1) = omega arith in
    let b : 8 * j ≡ 64 - 8 * (i + 1) = omega arith in
    subst (λ z. Holds z c.behind_four-word.result)
    (fours k l (4 + 8 * i) (8 * j) s p (omega arith) (c.places-low.ensures j (omega arith))
    ∙ ap₂ (λ m n. kept_cells m (k / 2 ^ n) (l / 2 ^ n)) a b)
    (c.behind_four-word.ensures (kept_cells (4 + 8 * i) (k / 2 ^ s) (l / 2 ^ s)) (omega arith) inner)

pub invariant_of-result : goal.invariant_of-result
invariant_of-result c =
    let k = c.args.kept in
    let h = all-kept k c.args.levels c.loop-i.i c.loop-i.word (omega arith) c.loop-i.invariant in
    record {
      few = ones-le 64 k c.ranges.kept.fits;
      bound = subst (λ n. c.loop-i.word < 2 ^ n) (length-kept 64 k c.args.levels c.ranges.kept.fits) h.bound;
    }

pub returns : goal.returns
returns c =
    let k = c.args.kept in
    cells-held (ones k) (sym (length-kept 64 k c.args.levels c.ranges.kept.fits))
    (all-kept k c.args.levels c.loop-i.i c.loop-i.word (omega arith) c.loop-i.invariant)
