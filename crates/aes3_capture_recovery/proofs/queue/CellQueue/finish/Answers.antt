use Rattle.std.proofs.Common.{arith}
use Rattle.std.proofs.lemmas.Result.{err_from_is_err_and}
use Rattle.aes3_level.specs.Words.{low_cells}
use Rattle.aes3_level.proofs.WordCells.{length-low_cells}
use Rattle.aes3_capture_recovery.proofs.Queueing.{ends-finish, stops-finish, put-is}
use Rattle.aes3_capture_recovery.proofs.queue.CellQueue.finish.Goals as goal

pub returns-clause-cells : goal.returns-clause-cells
returns-clause-cells g c =
    let m = c.pass_on.new.self in
    let l = length-low_cells m.len m.word in
    ends-finish c.args.self.now m c.args.sink.now c.pass_on.new.sink c.put_last.new.sink c.put_last.result
    (low_cells m.len m.word)
    (put-is tt c.in_ok-pass_on.ensures.cells) c.pass_on.ensures.few (omega (arith, l, m.cells_left))
    c.put_last.ensures

pub returns-in_err-pass_on-clause-cells : goal.returns-in_err-pass_on-clause-cells
returns-in_err-pass_on-clause-cells g c =
    let error = err_from_is_err_and c.from_residual.result c.from_residual.ensures.1 in
    rw error.1 (stops-finish c.args.self.now _ c.args.sink.now c.pass_on.new.sink _ _ c.in_err-pass_on.ensures.cells)
