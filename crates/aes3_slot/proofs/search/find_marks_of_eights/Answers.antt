use Rattle.std.proofs.Common.{◌∙◌, arith}
use Rattle.std.proofs.lemmas.Simd.{length-put_chunk}
use Rattle.aes3_slot.proofs.EightWords.{eight-more}
use Rattle.aes3_slot.proofs.search.find_marks_of_eights.Goals as goal

pub loop-i-preserved : goal.loop-i-preserved
loop-i-preserved c = record {
  within = omega arith;
  len = length-put_chunk c.loop-i.i c.loop-i.out c.block_preambles_of_eight.result ∙ c.loop-i.invariant.len;
  told = eight-more c.args.words.now c.loop-i.out c.block_preambles_of_eight.result c.args.next c.loop-i.i
      c.loop-i.invariant.len (omega arith) c.loop-i.invariant.told
      c.block_preambles_of_eight.ensures;
}
