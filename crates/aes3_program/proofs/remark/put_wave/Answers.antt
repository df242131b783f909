use Rattle.std.proofs.lemmas.Result.{err_from_is_err_and}
use Rattle.aes3_cell.proofs.Growing.{front-more}
use Rattle.aes3_cell.proofs.Writing.{wrote-behind}
use Rattle.aes3_program.specs.Lines.{wave_lines}
use Rattle.aes3_program.proofs.remark.put_wave.Goals as goal

pub returns : goal.returns
returns g c =
    wrote-behind c.put_status.result c.in_ok-put_missing.ensures.no_failure c.in_ok-put_missing.ensures.grew c.put_status.ensures

pub returns-in_err-put_missing : goal.returns-in_err-put_missing
returns-in_err-put_missing g c =
    let p = err_from_is_err_and c.from_residual.result c.from_residual.ensures.1 in
    let f = c.in_err-put_missing.ensures.err in
    rw p.1 (record {
      grew = tt;
      no_failure = tt;
      err = (
        f.0,
        front-more f.1 (wave_lines c.args.typed.now c.args.unsaid.now c.args.first.now c.args.second.now),
      );
    })
