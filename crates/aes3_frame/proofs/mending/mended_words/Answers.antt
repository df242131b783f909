use Rattle.std.proofs.Common.{ap, ◌∙◌, refl, arith, rules, length, length-set}
use Rattle.std.proofs.lemmas.List.{length-replicate, drop_all}
use Rattle.aes3_frame.specs.Blocks.{block_subframes}
use Rattle.aes3_frame.proofs.BlockLemmas.{zeros-lawful, block_subframes_384}
use Rattle.aes3_frame.proofs.MendedBlocks.{made-more, made-all}
use Rattle.aes3_frame.proofs.SlotWords.{lawful-more}
use Rattle.aes3_frame.proofs.mending.mended_words.Goals as goal

pub loop-number-init : goal.loop-number-init
loop-number-init c = record {
  len = ap length c.zero_words-words.ensures ∙ length-replicate block_subframes 0 ∙ block_subframes_384;
  lawful = zeros-lawful c.zero_words-words.result c.zero_words-words.ensures;
  held = c.requires.held;
  other = c.requires.other;
  made = refl;
}

pub mended_word-word-requires : goal.mended_word-word-requires
mended_word-word-requires c = c.loop-number.invariant.held

pub loop-number-preserved : goal.loop-number-preserved
loop-number-preserved c =
    let i = c.loop-number.invariant in
    let word = c.mended_word-word.result in
    record {
      len = length-set c.loop-number.words c.loop-number.number word ∙ i.len;
      lawful = λ k. lawful-more c.loop-number.words c.loop-number.number word k (omega arith)
          c.mended_word-word.ensures.lawful (i.lawful k);
      held = search (rules, i.other);
      other = search (rules, c.mended_word-word.ensures.lawful);
      made = search (
        rules,
        made-more c.args.fill c.loop-number.held c.loop-number.other word c.loop-number.words c.args.cells.now
            c.loop-number.number _ (omega arith) (omega arith) c.mended_word-word.ensures.payload i.made,
      );
    }

pub returns-clause-lawful : goal.returns-clause-lawful
returns-clause-lawful c = λ k h. c.loop-number.invariant.lawful k

pub returns-clause-payloads : goal.returns-clause-payloads
returns-clause-payloads c =
    made-all c.args.fill c.loop-number.held c.loop-number.other c.loop-number.words c.args.cells.now c.loop-number.number _
    (omega arith) (drop_all c.loop-number.number c.args.cells.now (omega arith)) c.loop-number.invariant.made
