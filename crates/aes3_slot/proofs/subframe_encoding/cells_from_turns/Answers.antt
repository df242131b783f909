use Rattle.aes3_level.specs.Words.{word_cells, word_len}
use Rattle.aes3_slot.proofs.Turns.{sums-itself, sums-doubled, cells-sums}
use Rattle.aes3_slot.proofs.subframe_encoding.cells_from_turns.Goals as goal

pub returns : goal.returns
unfolding word_cells word_len
returns c = cells-sums
    (sums-doubled 32
    (sums-doubled 16
    (sums-doubled 8 (sums-doubled 4 (sums-doubled 2 (sums-doubled 1 (sums-itself 64 c.args.turns)))))))
