use Rattle.std.proofs.Common.{◌%◌, ◌==◌, ◌∙◌, Fits, ap, refl, sym, arith, w64}
use Rattle.std.specs.Prelude.{if◌then◌else◌}
use Rattle.std.proofs.lemmas.Simd.{Each1-get_or}
use Rattle.aes3_level.specs.Cells.{line}
use Rattle.aes3_slot.specs.Slots.{mark_runs}
use Rattle.aes3_slot.proofs.EightSubframes.{Expected, in-turn, wrong-lanes}
use Rattle.aes3_slot.proofs.subframe_reading.wrong_cells_of_eight.Goals as goal

pub returns : goal.returns
returns c =
    let s = c.args.before in
    wrong-lanes s (λ i. if (i % 2) == 0 then c.args.even else c.args.odd) c.args.cells _ c.fits-cells.0 refl
    (λ i h. (Each1-get_or (Fits w64) c.args.cells i 0 (let n = c.fits-cells.0 in
    omega (arith, h, n)) c.fits-cells.1).fits)
    (in-turn (λ i p. Expected s (if (i % 2) == 0 then c.args.even else c.args.odd) p) _ _
    (λ i e. record {
      preamble = c.mark_cells-first.result;
      is = refl;
      cells = c.mark_cells-first.ensures.cells
          ∙ ap (λ n. line s (mark_runs (if n == 0 then c.args.even else c.args.odd))) (sym e);
      last = c.mark_cells-first.ensures.last;
    })
    (λ i e. record {
      preamble = c.mark_cells-second.result;
      is = refl;
      cells = c.mark_cells-second.ensures.cells
          ∙ ap (λ n. line s (mark_runs (if n == 0 then c.args.even else c.args.odd))) (sym e);
      last = c.mark_cells-second.ensures.last;
    }))
