use Rattle.std.proofs.lemmas.Result.{err_from_is_err_and}
use Rattle.aes3_cell.proofs.Growing.{front-more}
use Rattle.aes3_cell.proofs.Writing.{wrote-behind}
use Rattle.aes3_program.specs.Lines.{unsaid_width_line}
use Rattle.aes3_program.proofs.remark.put_unsaid.Goals as goal

pub returns : goal.returns
returns g c =
    wrote-behind c.put_unsaid_width.result c.in_ok-put_unsaid_rate.ensures.no_failure c.in_ok-put_unsaid_rate.ensures.grew
    c.put_unsaid_width.ensures

pub returns-in_err-put_unsaid_rate : goal.returns-in_err-put_unsaid_rate
returns-in_err-put_unsaid_rate g c =
    let p = err_from_is_err_and c.from_residual.result c.from_residual.ensures.1 in
    let f = c.in_err-put_unsaid_rate.ensures.err in
    rw p.1 (record {
      grew = tt;
      no_failure = tt;
      err = (f.0, front-more f.1 (unsaid_width_line c.args.unsaid.now.bits));
    })
