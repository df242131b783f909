use Rattle.std.proofs.Common.{arith, rules}
use Rattle.aes3_level.specs.Words.{word_cells, word_len}
use Rattle.aes3_slot.proofs.WrongCells.{wrong-bit}
use Rattle.aes3_slot.proofs.subframe_reading.wrong_cells.Goals as goal

pub returns : goal.returns
unfolding word_cells word_len
returns c = λ i h.
    search (
      rules,
      wrong-bit c.args.before c.args.mark c.args.cells c.mark_cells.result i
          (omega arith) c.mark_cells.ensures.cells h,
    )
