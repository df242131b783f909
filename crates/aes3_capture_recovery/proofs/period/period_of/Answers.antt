use Rattle.std.proofs.Common.{◌≡◌, ◌+◌, ◌-◌, ◌*◌, ◌/◌, ◌∙◌, refl, ap, ap₂, sym, arith, length}
use Rattle.std.specs.Prelude.{min, max}
use Rattle.aes3_capture.specs.Captures.{sum_to}
use Rattle.aes3_capture.proofs.Telescope.{sum-next}
use Rattle.aes3_capture_recovery.specs.Finding.{sums_to}
use Rattle.aes3_capture_recovery.proofs.Periods.{early-more, early-stays, late-more, late-stays, sums-none}
use Rattle.aes3_capture_recovery.proofs.period.period_of.Goals.{then-i-lt-ENDS, else-i-lt-ENDS, then-i-runs, else-i-runs}
use Rattle.aes3_capture_recovery.proofs.period.period_of.Goals as goal

pub loop-i-init : goal.loop-i-init
loop-i-init c =
    let many = c.requires.many in
    let none : 0 - (length c.args.runs.now - 16) ≡ 0 = omega arith in
    record {
      at_is = refl;
      cell_is = refl;
      early_is = sym (sums-none c.args.runs.now 0);
      early_cells_is = sym (sums-none c.args.cells.now 0);
      late_is = rw none (sym (sums-none c.args.runs.now (length c.args.runs.now - 15)));
      late_cells_is = rw none (sym (sums-none c.args.cells.now (length c.args.runs.now - 15)));
      at_few = omega arith;
      cell_few = omega arith;
      early_few = omega arith;
      early_cells_few = omega arith;
      late_few = omega arith;
      late_cells_few = omega arith;
    }

pub loop-i-preserved : goal.loop-i-preserved
loop-i-preserved c =
    let v = c.loop-i.invariant in
    let below = c.loop-i-test.true in
    let few = c.requires.few in
    let many = c.requires.many in
    let told = c.told-cells in
    let runs = c.args.runs.now in
    let cells = c.args.cells.now in
    let i = c.loop-i.i in
    let at = v.at_is in
    let cell = v.cell_is in
    let run_is = c.from-at.ensures in
    let cell_is = c.from-cell.ensures in
    let next = sum-next runs i below in
    let next_cell = sum-next cells i (omega (arith, below, few, told)) in
    let at_next : c.loop-i.at + c.from-at.result ≡ sum_to runs (i + 1) = omega (arith, at, run_is, next) in
    let cell_next : c.loop-i.cell + c.from-cell.result ≡ sum_to cells (i + 1) = omega (arith, cell, cell_is, next_cell) in
    record {
      at_is = at_next;
      cell_is = cell_next;
      early_is = elim c.if-i-lt-ENDS.branch [
        | then-i-lt-ENDS w ↦ early-more runs i c.loop-i.early c.loop-i.at c.if-i-lt-ENDS.early w.if-i-lt-ENDS.true v.early_is at w.early-is
        | else-i-lt-ENDS w ↦ early-stays runs i c.loop-i.early c.if-i-lt-ENDS.early w.if-i-lt-ENDS.false v.early_is w.early-is
      ];
      early_cells_is = elim c.if-i-lt-ENDS.branch [
        | then-i-lt-ENDS w ↦ early-more cells i c.loop-i.early_cells c.loop-i.cell c.if-i-lt-ENDS.early_cells w.if-i-lt-ENDS.true v.early_cells_is cell w.early_cells-is
        | else-i-lt-ENDS w ↦ early-stays cells i c.loop-i.early_cells c.if-i-lt-ENDS.early_cells w.if-i-lt-ENDS.false v.early_cells_is w.early_cells-is
      ];
      late_is = elim c.if-i-runs.branch [
        | then-i-runs w ↦ late-more runs (length runs) i c.loop-i.late (c.loop-i.at + c.from-at.result) c.if-i-runs.late (omega (arith, many)) w.if-i-runs.true v.late_is at_next w.late-is
        | else-i-runs w ↦ late-stays runs (length runs) i c.loop-i.late c.if-i-runs.late w.if-i-runs.false v.late_is w.late-is
      ];
      late_cells_is = elim c.if-i-runs.branch [
        | then-i-runs w ↦ late-more cells (length runs) i c.loop-i.late_cells (c.loop-i.cell + c.from-cell.result) c.if-i-runs.late_cells (omega (arith, many)) w.if-i-runs.true v.late_cells_is cell_next w.late_cells-is
        | else-i-runs w ↦ late-stays cells (length runs) i c.loop-i.late_cells c.if-i-runs.late_cells w.if-i-runs.false v.late_cells_is w.late_cells-is
      ];
      at_few = let f = c.from-at.type_inv in omega (arith, v, run_is, f);
      cell_few = let f = c.from-cell.type_inv in omega (arith, v, cell_is, f);
      early_few = elim c.if-i-lt-ENDS.branch [
        | then-i-lt-ENDS w ↦ let e = w.early-is in omega (arith, v, e, below, few)
        | else-i-lt-ENDS w ↦ let e = w.early-is in omega (arith, v, e)
      ];
      early_cells_few = elim c.if-i-lt-ENDS.branch [
        | then-i-lt-ENDS w ↦ let e = w.early_cells-is in omega (arith, v, e, below, few)
        | else-i-lt-ENDS w ↦ let e = w.early_cells-is in omega (arith, v, e)
      ];
      late_few = elim c.if-i-runs.branch [
        | then-i-runs w ↦ let e = w.late-is in let f = c.from-at.type_inv in omega (arith, v, run_is, f, e, below, few)
        | else-i-runs w ↦ let e = w.late-is in omega (arith, v, e)
      ];
      late_cells_few = elim c.if-i-runs.branch [
        | then-i-runs w ↦ let e = w.late_cells-is in let f = c.from-cell.type_inv in omega (arith, v, cell_is, f, e, below, few)
        | else-i-runs w ↦ let e = w.late_cells-is in omega (arith, v, e)
      ];
    }

pub returns : goal.returns
returns c =
    let v = c.loop-i.invariant in
    let past = c.loop-i-test.false in
    let end = c.loop-i.auto.i-end in
    let many = c.requires.many in
    let runs = c.args.runs.now in
    let cells = c.args.cells.now in
    let all : c.loop-i.i ≡ length runs = omega (arith, past, end) in
    let m : min c.loop-i.i 16 ≡ 16 = omega (arith, all, many) in
    let n : c.loop-i.i - (length runs - 16) ≡ 16 = omega (arith, all, many) in
    let early : c.loop-i.early ≡ sums_to runs 0 16 = rw m at v.early_is in
    let early_cells : c.loop-i.early_cells ≡ sums_to cells 0 16 = rw m at v.early_cells_is in
    let late : c.loop-i.late ≡ sums_to runs (length runs - 15) 16 = rw n at v.late_is in
    let late_cells : c.loop-i.late_cells ≡ sums_to cells (length runs - 15) 16 = rw n at v.late_cells_is in
    ap₂ (λ x y. x * 65536 / y) (c.saturating_sub.ensures ∙ ap₂ (λ x y. x - y) late early)
    (c.max.ensures ∙ ap (λ x. max x 1) (c.saturating_sub-2.ensures ∙ ap₂ (λ x y. x - y) late_cells early_cells))
