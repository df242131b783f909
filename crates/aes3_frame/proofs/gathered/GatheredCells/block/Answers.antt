use Rattle.std.proofs.Common.{get_or, arith}
use Rattle.aes3_frame.specs.Blocks.{mark_at}
use Rattle.aes3_frame.proofs.BlockLemmas.{block_subframes_384}
use Rattle.aes3_frame.proofs.GatheredWords.{even-right}
use Rattle.aes3_frame.proofs.gathered.GatheredCells.block.Goals as goal

pub block_of_fours-requires : goal.block_of_fours-requires
block_of_fours-requires c = λ e i h.
    let v = c.self.inside in
    let n = block_subframes_384 in
    even-right v.before (mark_at i) (get_or v.words i 0)
    (c.self.invariant i (omega (arith, h, n, c.if-self-ge-SUBFRAMES.true)))
