use Rattle.std.proofs.Common.{ap, ◌∙◌, arith, length, length-set}
use Rattle.std.proofs.lemmas.List.{length-replicate}
use Rattle.aes3_frame.specs.Blocks.{block_subframes}
use Rattle.aes3_frame.proofs.BlockLemmas.{zeros-lawful, block_subframes_384}
use Rattle.aes3_frame.proofs.SlotWords.{lawful-more, payload-more, carried, carried-all}
use Rattle.aes3_frame.proofs.block.Block.of_cells.Goals as goal

pub loop-subframe-init : goal.loop-subframe-init
loop-subframe-init c = record {
  len = ap length c.zero_words-lawful.ensures ∙ length-replicate block_subframes 0 ∙ block_subframes_384;
  lawful = zeros-lawful c.zero_words-lawful.result c.zero_words-lawful.ensures;
  payloads = λ k h. absurd (omega arith);
}

pub loop-subframe-preserved : goal.loop-subframe-preserved
loop-subframe-preserved c = record {
  len = length-set c.loop-subframe.lawful c.loop-subframe.subframe c.word_of_cells.result ∙ c.loop-subframe.invariant.len;
  lawful = λ k. lawful-more c.loop-subframe.lawful c.loop-subframe.subframe c.word_of_cells.result k
      (omega arith) c.word_of_cells.ensures.lawful (c.loop-subframe.invariant.lawful k);
  payloads = payload-more carried c.loop-subframe.lawful c.args.words.now c.loop-subframe.subframe c.word_of_cells.result
      (omega arith) c.word_of_cells.ensures.payload
      c.loop-subframe.invariant.payloads;
}

pub returns : goal.returns
returns c = c.of_words.ensures
    ∙ carried-all c.loop-subframe.lawful c.args.words.now (omega arith)
    (λ k h. c.loop-subframe.invariant.payloads k (omega arith))
