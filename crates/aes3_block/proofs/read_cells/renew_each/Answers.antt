use Rattle.std.proofs.Common.{◌∙◌, ap, get_or, arith, length-set}
use Rattle.aes3_level.specs.Cells.{line}
use Rattle.aes3_slot.specs.Slots.{subframe_runs}
use Rattle.aes3_frame.specs.Blocks.{block_cells}
use Rattle.aes3_frame.proofs.BlockLemmas.{block_subframes_384}
use Rattle.aes3_frame.proofs.ReadCells.{carried-payload, payloads-carried}
use Rattle.aes3_frame.proofs.Runs.{cells-more, cells-whole}
use Rattle.aes3_frame.proofs.SlotWords.{carried}
use Rattle.aes3_block.proofs.read_cells.renew_each.Goals as goal

pub loop-subframe-preserved : goal.loop-subframe-preserved
loop-subframe-preserved c =
    let words = c.args.words.now in
    let i = c.loop-subframe.subframe in
    let n = block_subframes_384 in
    let len = c.loop-subframe.invariant.len in
    record {
      len = length-set c.loop-subframe.cells i c.renew.result ∙ len;
      cells = cells-more carried carried-payload c.args.before words c.loop-subframe.cells i c.renew.result
          (omega arith) (omega arith) c.loop-subframe.invariant.cells
          (c.renew.ensures
          ∙ ap (λ m. line c.args.before (subframe_runs m (carried (get_or words i 0)))) c.mark_of.ensures);
    }

pub returns : goal.returns
returns c =
    let n = block_subframes_384 in
    let len = c.loop-subframe.invariant.len in
    cells-whole carried carried-payload c.args.before c.args.words.now c.loop-subframe.cells c.loop-subframe.subframe
    (omega arith) (omega arith) c.loop-subframe.invariant.cells
    ∙ ap (block_cells c.args.before) (payloads-carried c.args.words.now)
