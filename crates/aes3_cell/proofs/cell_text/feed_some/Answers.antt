use Rattle.std.proofs.Common.{arith, sym}
use Rattle.std.proofs.lemmas.List.{take_more}
use Rattle.aes3_cell.proofs.TextReads.{read-is, read-join}
use Rattle.aes3_cell.proofs.cell_text.feed_some.Goals as goal

pub loop-at-preserved : goal.loop-at-preserved
loop-at-preserved c =
    let v = c.loop-at.invariant in
    let q = c.in-Ok.ensures in
    record {
      some = omega arith;
      within = omega arith;
      read = read-is (sym (take_more c.args.piece.now c.loop-at.at 0 c.loop-at-test.true)) (sym q.cells)
          (read-join v.read q.read);
    }
