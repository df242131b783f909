use Rattle.std.proofs.Common.{◌≡◌, ◌+◌, ◌%◌, ◌^◌, ◌<◌, [], ◌∷◌, ◌++◌, true, sym, ap, ◌∙◌, arith}
use Rattle.aes3_level.specs.Words.{low_cells}
use Rattle.aes3_slot.specs.Rules.{at, rule}
use Rattle.aes3_frame.specs.Blocks.{mark_at}
use Rattle.aes3_lock.proofs.OnePlace.{walk-inside, walk-whole, walk-same, walk-full, walk-stops, walk-all}
use Rattle.aes3_lock.proofs.all_reports.go_through.Goals as goal
use Rattle.aes3_frame.proofs.BlockLemmas.{block_subframes_384}
use Rattle.aes3_frame.proofs.CellLaws.{block_len_24576}

pub returns-then-offset-eq-BLOCK_CELLS-clause-front : goal.returns-then-offset-eq-BLOCK_CELLS-clause-front
returns-then-offset-eq-BLOCK_CELLS-clause-front c =
    let i = c.loop-cell.invariant.count in
    elim c.then-offset-eq-BLOCK_CELLS.branch [
      | goal.then-offset-eq-BLOCK_CELLS-via-then-offset-eq-BLOCK_CELLS w ↦
          walk-full _ _ _ _ _ _ c.loop-cell.offset c.loop-cell.invariant.walked
          (omega arith) w.if-offset-eq-BLOCK_CELLS.true
      | goal.then-offset-eq-BLOCK_CELLS-via-else-offset-eq-BLOCK_CELLS+then-not-may_stand w ↦
          walk-stops _ _ _ _ _ _ c.loop-cell.offset c.loop-cell.invariant.walked (omega arith)
          (ap (λ k. rule mark_at c.loop-cell.offset (at c.args.cells.now k) c.loop-cell.level c.loop-cell.previous) i
          ∙ sym w.may_stand.ensures ∙ w.if-not-may_stand.true)
    ]

pub loop-cell-preserved : goal.loop-cell-preserved
loop-cell-preserved c =
    let i = c.loop-cell.invariant.count in
    let n = block_len_24576 in
    let m = block_subframes_384 in
    let few = c.loop-cell.invariant.walked.few in
    let l = c.if-offset-eq-BLOCK_CELLS.false in
    let right : rule mark_at c.loop-cell.offset
    (at c.args.cells.now c.loop-cell.offset) c.loop-cell.level c.loop-cell.previous ≡ true =
    ap (λ k. rule mark_at c.loop-cell.offset (at c.args.cells.now k) c.loop-cell.level c.loop-cell.previous) i
    ∙ sym c.may_stand.ensures ∙ c.if-not-may_stand.false in
    let cells : c.loop-cell.subframe < 2 ^ (c.loop-cell.offset % 64)
    → low_cells (c.loop-cell.offset % 64 + 1) c.with_next-subframe.result ≡ low_cells
    (c.loop-cell.offset % 64) c.loop-cell.subframe ++ at c.args.cells.now c.loop-cell.offset ∷ [] =
    λ f. c.with_next-subframe.ensures.cells f
    ∙ ap (λ k. low_cells (c.loop-cell.offset % 64) c.loop-cell.subframe ++ at c.args.cells.now k ∷ []) (sym i) in
    let here : at c.args.cells.now c.loop-cell.offset ≡ at c.args.cells.now c.loop-cell.cell-index =
    ap (at c.args.cells.now) i in
    record {
      count = ap (λ k. k + 1) i;
      walked = elim c.if-len.branch [
        | goal.then-len w ↦
            walk-same _ _
            _ (walk-whole c.args.level_before c.args.cells.now c.loop-cell.subframe c.with_next-subframe.result
            c.loop-cell.words c.loop-cell.level c.loop-cell.previous c.loop-cell.offset
            c.loop-cell.invariant.walked (omega arith) (omega arith) right cells (omega arith) (let e = w.if-len.true in
            omega arith))
            w.subframe-is w.words-is (w.level-is ∙ sym here) (sym here)
        | goal.else-len w ↦
            walk-same _ _
            _ (walk-inside c.args.level_before c.args.cells.now c.loop-cell.subframe c.with_next-subframe.result
            c.loop-cell.words c.loop-cell.level c.loop-cell.previous c.loop-cell.offset
            c.loop-cell.invariant.walked (omega arith) (omega arith) right cells (let e = w.if-len.false in
            omega arith) c.with_next-subframe.ensures.few)
            w.subframe-is w.words-is w.level-is (sym here)
      ];
    }

pub bounds-words-offset : goal.bounds-words-offset
bounds-words-offset c = let n = block_len_24576 in let w = c.loop-cell.invariant.walked.few in omega arith

pub returns-clause-front : goal.returns-clause-front
returns-clause-front c =
    let i = c.loop-cell.invariant.count in
    walk-all _ _ _ _ _ _ c.loop-cell.offset c.loop-cell.invariant.walked (omega arith)
