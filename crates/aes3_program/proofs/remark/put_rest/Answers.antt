use Rattle.std.proofs.Common.{◌++◌, ap₂, List, ℕ}
use Rattle.std.proofs.lemmas.Result.{err_from_is_err_and}
use Rattle.aes3_cell.proofs.Growing.{front-is, front-more}
use Rattle.aes3_cell.proofs.Writing.{wrote-behind, wrote-is}
use Rattle.aes3_program.proofs.remark.put_rest.Goals as goal

pub returns : goal.returns
returns g c =
    wrote-is (ap₂ (λ (text remedy : List ℕ). text ++ remedy) c.as_bytes.ensures.value c.as_bytes-2.ensures.value)
    (wrote-behind c.write_all-2.result c.in_ok-write_all.ensures.no_failure c.in_ok-write_all.ensures.grew c.write_all-2.ensures)

pub returns-in_err-write_all : goal.returns-in_err-write_all
returns-in_err-write_all g c =
    let p = err_from_is_err_and c.from_residual.result c.from_residual.ensures.1 in
    let f = c.in_err-write_all.ensures.err in
    rw p.1 (record {
      grew = tt;
      no_failure = tt;
      err = (f.0, front-more (front-is c.as_bytes.ensures.value f.1) c.args.remedy.now);
    })
