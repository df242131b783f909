use Rattle.std.proofs.Common.{◌++◌, ◌-◌, length, subst, take, drop, arith}
use Rattle.std.proofs.lemmas.List.{length-drop, length-take, take_rest}
use Rattle.std.proofs.lemmas.Result.{err_from_is_err_and}
use Rattle.aes3_wave.specs.Following.{FollowsAt, IsRefused}
use Rattle.aes3_wave.proofs.Following.{piece-more, piece-refused}
use Rattle.aes3_wave.proofs.header_reader.HeaderReader.take.Goals as goal

pub loop-at-preserved : goal.loop-at-preserved
loop-at-preserved c =
    let p = c.args.piece.now in
    let at = c.loop-at.at in
    let n = c.in_ok-at.field-0 in
    let r = c.take_front.new.self in
    let l = length-drop at p in
    let m = length-take (length p - at) (drop at p) in
    let test = c.loop-at-test.true in
    let seen = c.loop-at.invariant.seen in
    let within = c.in_ok-at.ensures.within in
    let on = c.in_ok-at.ensures.seen in
    record {
      within = omega arith;
      seen = omega arith;
      follows = λ b w.
          let d = c.in_ok-at.ensures.took (b ++ take at p) (c.loop-at.invariant.follows b w) in
          piece-more r.seen r.stage r.at (take r.len r.held) r.left b p at n
          (subst (λ v. FollowsAt r.seen r.stage r.at (take r.len r.held) r.left (b ++ take at p ++ take n v))
          (take_rest p at) d);
    }

pub returns-in_err-at-clause-took : goal.returns-in_err-at-clause-took
returns-in_err-at-clause-took c =
    let p = c.args.piece.now in
    let at = c.loop-at.at in
    let error = err_from_is_err_and c.from_residual.result c.from_residual.ensures.1 in
    rw (error.1, error.2) (λ b w.
    let d = c.in_err-at.ensures.took (b ++ take at p) (c.loop-at.invariant.follows b w) in
    piece-refused b p at _ c.loop-at.invariant.within
    (subst (λ v. IsRefused (b ++ take at p) v c.in_err-at.field-0.0) (take_rest p at) d))
