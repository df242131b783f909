use Rattle.std.proofs.Common.{◌≡◌, ◌+◌, ◌-◌, ◌^◌, ◌≤◌, ◌++◌, [], length, take, drop, arith, ap, ◌∙◌, refl, append-nil}
use Rattle.std.proofs.Common.{length-append, length-drop}
use Rattle.std.proofs.lemmas.List.{length-take-le, take-append-drop, take_rest}
use Rattle.std.proofs.lemmas.Result.{err_from_is_err_and}
use Rattle.aes3_input.proofs.Feeding.{fed-none, fed-front, ran-join}
use Rattle.aes3_input.proofs.conversion.feed_fronts.Goals as goal

pub loop-at-init : goal.loop-at-init
loop-at-init g c = record { within = omega arith; fed = fed-none _ _ _; quiet = refl }

pub take_front-requires-clause-following : goal.take_front-requires-clause-following
take_front-requires-clause-following g c =
    let q = c.requires.following in
    let xs = c.args.piece.now in
    let at = c.loop-at.at in
    let l : length q.0 + length xs ≤ 2 ^ 40 = q.1 in
    let p = take at xs in
    let n = length-append q.0 p in
    let k : length p ≡ at = length-take-le at xs c.loop-at.invariant.within in
    let d = length-drop at xs in
    (q.0 ++ p, omega arith, c.loop-at.invariant.fed.follows q.0 q.2)

pub loop-at-preserved : goal.loop-at-preserved
loop-at-preserved g c =
    let r = c.in_ok-at.ensures in
    let xs = c.args.piece.now in
    let at = c.loop-at.at in
    let d = length-drop at xs in
    record {
      within = omega arith;
      fed = fed-front xs (take (length xs - at) (drop at xs)) at c.in_ok-at.field-0 (take_rest xs at)
          c.loop-at.invariant.fed r.2;
      quiet = r.3 ∙ c.loop-at.invariant.quiet;
    }

pub returns-in_err-at : goal.returns-in_err-at
returns-in_err-at g c =
    let xs = c.args.piece.now in
    let at = c.loop-at.at in
    let rest = take (length xs - at) (drop at xs) in
    let error = err_from_is_err_and c.from_residual.result c.from_residual.ensures.1 in
    rw (error.1, error.2) (ran-join (g.I.Input.state c.args.input.now c.args.taker.now)
    (g.I.Input.state c.loop-at.input c.loop-at.taker)
    (g.I.Input.state c.take_front.new.self c.take_front.new.taker)
    (g.T.Sink.taken c.take_front.new.sink) (g.T.Sink.failed c.take_front.new.sink)
    rest [] xs _ c.loop-at.invariant.fed c.loop-at.invariant.quiet
    (ap (λ v. take at xs ++ v) (append-nil rest ∙ take_rest xs at) ∙ take-append-drop at xs) c.in_err-at.ensures)
