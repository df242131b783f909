use Rattle.std.proofs.Common.{arith, rules}
use Rattle.aes3_cell.proofs.EightWords.{words-put}
use Rattle.aes3_cell.proofs.packed_words.words_of_front.Goals as goal

pub loop-i-preserved : goal.loop-i-preserved
loop-i-preserved c =
    let len = c.loop-i.auto.words in
    record {
      cells = words-put c.loop-i.words c.eight_words-eight.result c.args.octets.now c.loop-i.i
          c.eight_words-eight.ensures.len (omega (arith, len)) c.loop-i.invariant.cells
          c.eight_words-eight.ensures.cells;
    }

pub loop-i-init : goal.loop-i-init
loop-i-init c = search rules
