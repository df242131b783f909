use Rattle.std.proofs.Common.{take, sym, arith, length-take-le}
use Rattle.aes3_level.specs.Words.{low_cells}
use Rattle.aes3_lock.proofs.LastEight.{last_eight-nil}
use Rattle.aes3_lock.proofs.OnePlace.{octet-more, octet-all}
use Rattle.aes3_lock.proofs.all_reports.first_eight.Goals as goal

pub loop-cell-init : goal.loop-cell-init
loop-cell-init c = record { octet = sym last_eight-nil }

pub loop-cell-preserved : goal.loop-cell-preserved
loop-cell-preserved c = record {
  octet = octet-more (take 8 c.args.cells.now) (low_cells 8 c.loop-cell.recent)
      (low_cells 8 c.with_cell-recent.result) c.loop-cell.cell-index
      (let n = length-take-le 8 c.args.cells.now (omega arith) in
      omega arith) c.loop-cell.invariant.octet c.with_cell-recent.ensures;
}

pub returns : goal.returns
returns c =
    let n = length-take-le 8 c.args.cells.now (omega arith) in
    octet-all (take 8 c.args.cells.now) (low_cells 8 c.loop-cell.recent) c.loop-cell.cell-index n
    (omega arith) c.loop-cell.invariant.octet
