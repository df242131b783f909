use Rattle.std.proofs.Common.{◌+◌, refl, sym, ap, ◌∙◌, arith}
use Rattle.std.proofs.lemmas.Result.{err_from_is_err_and}
use Rattle.aes3_cell.proofs.Growing.{grew-none, grew-is, grew-join, front-is, front-join, front-more}
use Rattle.aes3_engine.proofs.FillSteps.{repeated-none, repeated-more, repeated-rest}
use Rattle.aes3_engine.proofs.filling.put_frames.Goals as goal

pub frames-init : goal.frames-init
frames-init g c = record {
  grew = grew-is (sym (repeated-none c.args.frame.now)) (grew-none refl);
  quiet = refl;
}

pub frames-preserved : goal.frames-preserved
frames-preserved g c = record {
  grew = grew-is (sym (repeated-more c.frames._written c.args.frame.now))
      (grew-join c.frames.invariant.grew c.in_ok-write_all.ensures.grew);
  quiet = c.in_ok-write_all.ensures.no_failure ∙ c.frames.invariant.quiet;
}

pub returns-in_err-write_all : goal.returns-in_err-write_all
returns-in_err-write_all g c =
    let p = err_from_is_err_and c.from_residual.result c.from_residual.ensures.1 in
    rw p.1 (record {
      grew = tt;
      no_failure = tt;
      err = (
        c.in_err-write_all.ensures.err.0 ∙ ap (λ n. n + 1) c.frames.invariant.quiet,
        front-is (repeated-rest c.frames._written c.args.count c.args.frame.now (omega arith))
            (front-more (front-join c.frames.invariant.grew c.in_err-write_all.ensures.err.1) _),
      );
    })
