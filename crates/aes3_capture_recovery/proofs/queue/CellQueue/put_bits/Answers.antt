use Rattle.std.proofs.Common.{refl}
use Rattle.aes3_level.specs.Words.{low_cells}
use Rattle.aes3_capture_recovery.proofs.WordBits.{cells-fit, fit-bound, cells-split, split-bound}
use Rattle.aes3_capture_recovery.proofs.Queueing.{waits-puts, waits-more}
use Rattle.aes3_capture_recovery.proofs.queue.CellQueue.put_bits.Goals as goal

pub invariant_of-self-clause-no_more : goal.invariant_of-self-clause-no_more
invariant_of-self-clause-no_more g c =
    fit-bound c.args.self.now.word c.args.bits c.args.self.now.len c.args.count c.if-len-lt64.true
    c.args.self.now.no_more c.requires.no_more

pub returns-then-len-lt64-clause-cells : goal.returns-then-len-lt64-clause-cells
returns-then-len-lt64-clause-cells g c =
    let q = c.args.self.now in
    waits-puts q _ tt _ refl (waits-more q.words q.count (low_cells q.len q.word) _ _
    (cells-fit q.word c.args.bits q.len c.args.count _ c.if-len-lt64.true q.no_more
    c.requires.no_more refl))

pub end_word-requires-clause-no_more : goal.end_word-requires-clause-no_more
end_word-requires-clause-no_more g c =
    split-bound c.args.bits c.args.self.now.len c.args.count c.args.self.now.cells_left
    c.if-len-lt64.false c.requires.no_more

pub returns-clause-cells : goal.returns-clause-cells
returns-clause-cells g c =
    let q = c.args.self.now in
    c.end_word.ensures.cells _
    (cells-split q.word c.args.bits q.len c.args.count _ q.cells_left c.if-len-lt64.false q.no_more
    refl)
