use Rattle.std.proofs.Common.{ap, ◌∙◌, arith, length, length-set}
use Rattle.std.proofs.lemmas.List.{length-replicate}
use Rattle.aes3_frame.specs.Blocks.{block_subframes}
use Rattle.aes3_frame.specs.Files.{words_of}
use Rattle.aes3_frame.specs.Sampled.{payload_of_sample}
use Rattle.aes3_frame.proofs.BlockLemmas.{zeros-lawful, block_subframes_384}
use Rattle.aes3_frame.proofs.SlotWords.{lawful-more, payload-more, payloads-all}
use Rattle.aes3_frame.proofs.Words.{length-words}
use Rattle.aes3_frame.proofs.block.Block.of_samples.Goals as goal

pub loop-subframe-init : goal.loop-subframe-init
loop-subframe-init c = record {
  len = ap length c.zero_words-words.ensures ∙ length-replicate block_subframes 0 ∙ block_subframes_384;
  lawful = zeros-lawful c.zero_words-words.result c.zero_words-words.ensures;
  payloads = λ k h. absurd (omega arith);
}

pub loop-subframe-preserved : goal.loop-subframe-preserved
loop-subframe-preserved c = record {
  len = length-set c.loop-subframe.words c.loop-subframe.subframe c.word_of_sample.result ∙ c.loop-subframe.invariant.len;
  lawful = λ k. lawful-more c.loop-subframe.words c.loop-subframe.subframe c.word_of_sample.result k
      (omega arith) c.word_of_sample.ensures.lawful (c.loop-subframe.invariant.lawful k);
  payloads = payload-more payload_of_sample c.loop-subframe.words
      (words_of c.args.bytes.now) c.loop-subframe.subframe c.word_of_sample.result (omega arith)
      (c.word_of_sample.ensures.payload ∙ ap payload_of_sample c.sample_at.ensures) c.loop-subframe.invariant.payloads;
}

pub of_words-requires : goal.of_words-requires
of_words-requires c = λ i h. c.loop-subframe.invariant.lawful i

pub returns : goal.returns
returns c =
    let l = length-words c.args.bytes.now in
    c.of_words.ensures ∙ payloads-all payload_of_sample c.loop-subframe.words (words_of c.args.bytes.now) (omega arith)
    (λ k h. c.loop-subframe.invariant.payloads k (omega arith))
