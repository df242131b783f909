use Rattle.std.proofs.Common.{◌≡◌, ◌%◌, ◌/◌, length, get_or, sym, subst, ap, ◌∙◌, arith}
use Rattle.aes3_cell.specs.declared.scattered.TheConstants.{TOGETHER, COUNTS}
use Rattle.aes3_cell.specs.Scattered.{Holds, kept_cells}
use Rattle.aes3_cell.proofs.KeptCells.{four, holds-behind, length-kept-le}
use Rattle.aes3_cell.proofs.scattered.behind_four.Goals as goal

pub overflow_shl-result : goal.overflow_shl-result
overflow_shl-result c =
    let p = c.args.place in
    let e : c.from-2.result ≡ length (kept_cells 4 (p % 16) (p / 16))
    = c.from-2.ensures ∙ ap (λ j. get_or COUNTS j 0) c.from.ensures ∙ (four p c.ranges.place.fits).count in
    let l = length-kept-le 4 (p % 16) (p / 16) in
    omega arith

pub returns : goal.returns
returns c = λ cells short h.
    let p = c.args.place in
    let f = four p c.ranges.place.fits in
    let e : c.from-2.result ≡ length (kept_cells 4 (p % 16) (p / 16))
    = c.from-2.ensures ∙ ap (λ j. get_or COUNTS j 0) c.from.ensures ∙ f.count in
    let t : get_or TOGETHER p 0 ≡ c.from-4.result
    = sym (c.from-4.ensures ∙ ap (λ j. get_or TOGETHER j 0) c.from-3.ensures) in
    let l = length-kept-le 4 (p % 16) (p / 16) in
    holds-behind (kept_cells 4 (p % 16) (p / 16)) cells c.from-4.result c.args.word
    (subst (Holds (kept_cells 4 (p % 16) (p / 16))) t f.holds) h
    c.from-2.result e (omega arith)
