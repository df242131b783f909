use Rattle.std.proofs.Common.{◌++◌}
use Rattle.std.proofs.lemmas.Result.{err_from_is_err_and}
use Rattle.aes3_cell.proofs.Growing.{front-more}
use Rattle.aes3_cell.proofs.Writing.{wrote-behind}
use Rattle.aes3_status.specs.Untaken.{texts_of}
use Rattle.aes3_program.specs.Lines.{met_lines}
use Rattle.aes3_program.proofs.remark.put_status.Goals as goal

pub returns : goal.returns
returns g c =
    wrote-behind c.put_settings.result c.in_ok-put_unsaid.ensures.no_failure c.in_ok-put_unsaid.ensures.grew c.put_settings.ensures

pub returns-in_err-put_unsaid : goal.returns-in_err-put_unsaid
returns-in_err-put_unsaid g c =
    let p = err_from_is_err_and c.from_residual.result c.from_residual.ensures.1 in
    let f = c.in_err-put_unsaid.ensures.err in
    rw p.1 (record {
      grew = tt;
      no_failure = tt;
      err = (
        f.0,
        front-more f.1 (met_lines 1 (texts_of c.args.typed.now.first) c.args.first.now
            ++ met_lines 2 (texts_of c.args.typed.now.second) c.args.second.now),
      );
    })
