use Rattle.std.proofs.Common.{arith}
use Rattle.aes3_cell.proofs.ManyWords.{octets-more}
use Rattle.aes3_cell.proofs.packed_words.words_of_octets.Goals as goal

pub loop-i-preserved : goal.loop-i-preserved
loop-i-preserved c = record {
  cells = octets-more c.loop-i.words c.args.octets.now c.loop-i.i c.word_of_octets.result (omega arith)
      c.loop-i.invariant.cells c.word_of_octets.ensures;
}
