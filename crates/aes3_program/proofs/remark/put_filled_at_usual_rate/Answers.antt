use Rattle.std.proofs.Common.{◌++◌, ap₂}
use Rattle.std.proofs.lemmas.Result.{err_from_is_err_and}
use Rattle.aes3_cell.proofs.Growing.{front-is, front-more}
use Rattle.aes3_cell.proofs.Writing.{wrote-behind, wrote-is}
use Rattle.aes3_program.specs.Lines.{usual_rate_line}
use Rattle.aes3_program.proofs.remark.put_filled_at_usual_rate.Goals as goal

pub returns : goal.returns
returns g c =
    wrote-is (ap₂ ◌++◌ c.line_of_filled.ensures c.usual_rate.ensures)
    (wrote-behind c.write_to-2.result c.in_ok-write_to.ensures.no_failure c.in_ok-write_to.ensures.grew c.write_to-2.ensures)

pub returns-in_err-write_to : goal.returns-in_err-write_to
returns-in_err-write_to g c =
    let p = err_from_is_err_and c.from_residual.result c.from_residual.ensures.1 in
    let f = c.in_err-write_to.ensures.err in
    rw p.1 (record { grew = tt; no_failure = tt; err = (f.0, front-more (front-is c.line_of_filled.ensures f.1) usual_rate_line) })
