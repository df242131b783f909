use Rattle.std.proofs.Common.{◌≡◌, ◌+◌, ◌*◌, ap, ◌∙◌, arith, get_or, length}
use Rattle.std.proofs.lemmas.List.{length-replicate}
use Rattle.aes3_frame.specs.Blocks.{block_subframes}
use Rattle.aes3_frame.specs.Files.{is_lawful, payload_of}
use Rattle.aes3_frame.proofs.BlockLemmas.{zeros-lawful, block_subframes_384}
use Rattle.aes3_frame.proofs.FourWords.{all-four, lawful-placed, payloads-placed}
use Rattle.aes3_frame.proofs.GatheredWords.{length-with_first}
use Rattle.aes3_frame.proofs.SlotWords.{carried, carried-all}
use Rattle.aes3_frame.proofs.gathered.block_of_fours.Goals as goal

pub loop-i-init : goal.loop-i-init
loop-i-init c = record {
  len = ap length c.zero_words-lawful.ensures ∙ length-replicate block_subframes 0 ∙ block_subframes_384;
  lawful = zeros-lawful c.zero_words-lawful.result c.zero_words-lawful.ensures;
  payloads = λ k h. absurd (omega arith);
}

pub words_of_four-requires : goal.words_of_four-requires
words_of_four-requires c = λ e.
    let n = block_subframes_384 in
    let at = 4 * c.loop-i.i in
    all-four _ (c.requires e at (omega arith)) (c.requires e (at + 1) (omega arith))
    (c.requires e (at + 2) (omega arith)) (c.requires e (at + 3) (omega arith))

pub loop-i-preserved : goal.loop-i-preserved
loop-i-preserved c =
    let at = 4 * c.loop-i.i in
    let words = c.args.words.now in
    let kept = c.loop-i.lawful in
    let four = c.words_of_four.result in
    let len = c.loop-i.invariant.len in
    let e = c.words_of_four.ensures.payload in
    let none : at ≡ at + 0 = omega arith in
    record {
      len = ap length c.put_four.ensures ∙ length-with_first at kept four 4 ∙ len;
      lawful = λ k. ap (λ ws. is_lawful (get_or ws k 0)) c.put_four.ensures
          ∙ lawful-placed at kept four (omega (arith, len)) c.loop-i.invariant.lawful c.words_of_four.ensures.lawful k;
      payloads = λ k h. ap (λ ws. payload_of (get_or ws k 0)) c.put_four.ensures
          ∙ payloads-placed at words kept four (omega (arith, len)) c.loop-i.invariant.payloads
          (all-four (λ i. payload_of (get_or four i 0) ≡ carried (get_or words (at + i) 0))
          (e 0 (omega arith) ∙ ap (λ j. carried (get_or words j 0)) none) (e 1 (omega arith)) (e 2 (omega arith))
          (e 3 (omega arith))) k (omega (arith, h));
    }

pub returns : goal.returns
returns c = c.of_words.ensures
    ∙ carried-all c.loop-i.lawful c.args.words.now (omega arith) (λ k h. c.loop-i.invariant.payloads k (omega arith))
