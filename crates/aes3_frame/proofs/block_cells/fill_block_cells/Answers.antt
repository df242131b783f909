use Rattle.std.proofs.Common.{◌+◌, ◌*◌, ◌∙◌, ap, arith, get_or, length-set}
use Rattle.aes3_frame.specs.Blocks.{block_cells}
use Rattle.aes3_frame.specs.Files.{payload_of}
use Rattle.aes3_frame.proofs.BlockLemmas.{block_subframes_384}
use Rattle.aes3_frame.proofs.FourCells.{four-more, four-read, lawful-code, length-put, with-block-mark}
use Rattle.aes3_frame.proofs.Runs.{cells-each, payload-length}
use Rattle.aes3_frame.proofs.block_cells.fill_block_cells.Goals as goal

pub slots_cells_of_four-subframes-requires : goal.slots_cells_of_four-subframes-requires
slots_cells_of_four-subframes-requires c = λ i h.
    let words = c.words-words.result.now in
    let at = 4 * c.loop-i.i in
    let n = block_subframes_384 in
    let e = four-read words at i (omega arith) h in
    let z = lawful-code (get_or words (at + i) 0) (c.words-words.ensures.lawful (at + i) (omega (arith, h, n))) in
    omega (arith, e, z)

pub loop-i-preserved : goal.loop-i-preserved
loop-i-preserved c =
    let at = 4 * c.loop-i.i in
    let new = c.slots_cells_of_four-subframes.result in
    let len = c.loop-i.invariant.len in
    let four = c.slots_cells_of_four-subframes.ensures.len in
    record {
      len = length-put at c.loop-i.cells new len four (omega arith);
      cells = λ k h. four-more at c.loop-i.cells new len four (omega arith) c.args.before c.words-words.result.now
          (omega arith) c.loop-i.invariant.cells
          c.slots_cells_of_four-subframes.ensures.cells k (omega (arith, h));
    }

pub returns : goal.returns
returns c =
    let words = c.words-words.result.now in
    let cells = c.loop-i.cells in
    let n = block_subframes_384 in
    cells-each payload_of payload-length c.args.before words _ 384 (c.words-words.ensures.count ∙ n)
    (length-set cells 0 c.slots_cells.result ∙ c.loop-i.invariant.len)
    (with-block-mark c.args.before words cells c.slots_of_word.result c.slots_cells.result c.loop-i.invariant.len
    (λ k h. c.words-words.ensures.lawful k (omega (arith, h, n)))
    (λ k h. c.loop-i.invariant.cells k (omega (arith, h))) c.slots_of_word.ensures.value c.slots_cells.ensures)
    ∙ ap (block_cells c.args.before) c.words-words.ensures.payloads
