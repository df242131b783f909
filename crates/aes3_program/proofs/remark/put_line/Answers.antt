use Rattle.std.proofs.Common.{◌++◌, ◌∙◌, ap}
use Rattle.std.proofs.lemmas.Result.{err_from_is_err_and}
use Rattle.aes3_cell.proofs.Growing.{front-is, front-more}
use Rattle.aes3_cell.proofs.Writing.{wrote-behind, wrote-is}
use Rattle.aes3_program.proofs.RemarkLines.{line-joined}
use Rattle.aes3_program.proofs.remark.put_line.Goals as goal

pub returns : goal.returns
returns g c =
    wrote-is (ap (λ head. head ++ (c.args.text.now ++ c.args.remedy.now)) c.head.ensures
    ∙ line-joined c.args.channel c.args.text.now c.args.remedy.now)
    (wrote-behind c.put_rest.result c.in_ok-write_to.ensures.no_failure c.in_ok-write_to.ensures.grew c.put_rest.ensures)

pub returns-in_err-write_to : goal.returns-in_err-write_to
returns-in_err-write_to g c =
    let p = err_from_is_err_and c.from_residual.result c.from_residual.ensures.1 in
    let f = c.in_err-write_to.ensures.err in
    rw p.1 (record {
      grew = tt;
      no_failure = tt;
      err = (
        f.0,
        front-is (line-joined c.args.channel c.args.text.now c.args.remedy.now)
            (front-more (front-is c.head.ensures f.1) (c.args.text.now ++ c.args.remedy.now)),
      );
    })
