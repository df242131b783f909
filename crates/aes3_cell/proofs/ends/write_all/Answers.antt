use Rattle.std.proofs.Common.{rules}
use Rattle.std.proofs.lemmas.List.{take-append-drop, take_rest}
use Rattle.std.proofs.lemmas.Result.{err_from_is_err_and}
use Rattle.aes3_cell.proofs.Growing.{grew-write, front-is, front-join, front-none}
use Rattle.aes3_cell.proofs.ends.write_all.Goals as goal

pub loop-at-preserved : goal.loop-at-preserved
loop-at-preserved g c = record {
  within = search rules;
  grew = grew-write c.args.bytes.now c.loop-at.at c.in_ok-at.field-0 _ (take_rest c.args.bytes.now c.loop-at.at)
      c.loop-at.invariant.grew c.in_ok-at.ensures.bytes;
  count = search rules;
}

pub returns-in_err-at : goal.returns-in_err-at
returns-in_err-at g c =
    let error = err_from_is_err_and c.from_residual.result c.from_residual.ensures.1 in
    rw error.1 (record {
      grew = tt;
      no_failure = tt;
      err = (
        search rules,
        front-is (take-append-drop c.loop-at.at c.args.bytes.now)
            (front-join c.loop-at.invariant.grew (front-none c.in_err-at.ensures.err.1 _)),
      );
    })
