use Rattle.std.proofs.Common.{◌∙◌, ap, sym, arith, length-set, map}
use Rattle.std.specs.List.{flat_map}
use Rattle.std.proofs.lemmas.List.{take_all}
use Rattle.aes3_level.specs.Cells.{other}
use Rattle.aes3_level.specs.Words.{word_cells}
use Rattle.aes3_frame.proofs.GatheredWords.{inverted-more}
use Rattle.aes3_block.proofs.read_cells.invert_all.Goals as goal

pub loop-subframe-preserved : goal.loop-subframe-preserved
loop-subframe-preserved c =
    let i = c.loop-subframe.subframe in
    let len = c.loop-subframe.invariant.len in
    record {
      len = length-set c.loop-subframe.cells i c.invert.result ∙ len;
      cells = inverted-more c.args.words.now c.loop-subframe.cells i c.invert.result (omega arith)
          (omega (arith, len)) c.loop-subframe.invariant.cells c.invert.ensures;
    }

pub returns : goal.returns
returns c =
    let len = c.loop-subframe.invariant.len in
    ap (flat_map word_cells) (sym (take_all c.loop-subframe.subframe c.loop-subframe.cells (omega (arith, len))))
    ∙ c.loop-subframe.invariant.cells
    ∙ ap (λ ws. map other (flat_map word_cells ws)) (take_all c.loop-subframe.subframe c.args.words.now (omega arith))
