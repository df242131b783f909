use Rattle.std.proofs.Common.{rules, ◌∙◌, ap, arith, length-set, take}
use Rattle.std.proofs.lemmas.Nat.{le_or_l, le_or_r}
use Rattle.aes3_level.specs.Cells.{line}
use Rattle.aes3_slot.specs.Slots.{payload_len, subframe_runs}
use Rattle.aes3_frame.specs.Blocks.{block_cells, mark_at}
use Rattle.aes3_frame.proofs.BlockLemmas.{block_subframes_384}
use Rattle.aes3_frame.proofs.ReadCells.{carried-payload, payloads-carried}
use Rattle.aes3_frame.proofs.Runs.{cells-more, cells-whole}
use Rattle.aes3_frame.proofs.SlotWords.{carried}
use Rattle.aes3_block.proofs.read_cells.turn_all.Goals as goal

pub loop-subframe-preserved : goal.loop-subframe-preserved
loop-subframe-preserved c =
    let words = c.args.words.now in
    let i = c.loop-subframe.subframe in
    let n = block_subframes_384 in
    let len = c.loop-subframe.invariant.len in
    record {
      len = length-set c.loop-subframe.cells i c.invert_if-same.result ∙ len;
      cells = λ z.
          let p = le_or_l c.loop-subframe.wrong c.wrong_in-wrong.result in
          let q = le_or_r c.loop-subframe.wrong c.wrong_in-wrong.result in
          cells-more carried carried-payload c.args.before words c.loop-subframe.cells i c.invert_if-same.result
          (omega arith) (omega arith)
          (c.loop-subframe.invariant.cells (omega (arith, z, p)))
          (c.wrong_in-wrong.ensures (omega (arith, z, q))
          ∙ ap (λ m. line c.args.before (subframe_runs m (carried c.invert_if-same.result))) c.mark_of.ensures
          ∙ ap (λ bits. line c.args.before (subframe_runs (mark_at i) (take payload_len bits))) c.invert_if-same.ensures);
    }

pub returns : goal.returns
returns c = λ r.
    let n = block_subframes_384 in
    let len = c.loop-subframe.invariant.len in
    cells-whole carried carried-payload c.args.before c.args.words.now c.loop-subframe.cells c.loop-subframe.subframe
    (omega arith) (omega arith) (c.loop-subframe.invariant.cells (search rules))
    ∙ ap (block_cells c.args.before) (payloads-carried c.args.words.now)
