use Rattle.std.proofs.Common.{rules, ◌≡◌, ◌+◌, ◌-◌, arith, refl, ap, ◌∙◌, [], length, take}
use Rattle.std.proofs.lemmas.List.{length-take-le}
use Rattle.std.proofs.lemmas.Result.{err_from_is_err_and}
use Rattle.aes3_cell.proofs.Growing.{grew-none, grew-is}
use Rattle.aes3_input.proofs.Feeding.{fed-none, fed-is}
use Rattle.aes3_input.proofs.Pieces.{allowed-within, upto-more, ran-read, ran-end, ran-end_err, ran-piece, ran-long}
use Rattle.aes3_input.proofs.conversion.convert.Goals as goal

pub pieces-init : goal.pieces-init
pieces-init g c = record {
  upto = record { bytes = []; given = grew-none refl; count = refl; fed = fed-none _ _ _ };
  short = omega arith;
  quiet_source = refl;
  quiet_sink = refl;
  passed = λ h. h;
  gone = λ some. absurd (omega (arith, some));
  buffer = c.blank_piece-piece.ensures;
}

pub returns-in-Err-clause-run : goal.returns-in-Err-clause-run
returns-in-Err-clause-run g c =
    let v = c.pieces.invariant in
    ran-read c.args.max_bytes (g.I.Input.state c.args.input.now c.args.taker.now)
    (g.I.Input.state c.pieces.input c.pieces.taker) _ (g.S.Source.has_ended c.read_next.new.source) _ _ _ _ _
    v.upto c.requires.start v.short v.quiet_source v.quiet_sink c.in-Err.ensures.err.0 c.in-Err.ensures.err.1

pub returns-then-n-eq0-clause-run : goal.returns-then-n-eq0-clause-run
returns-then-n-eq0-clause-run g c =
    let v = c.pieces.invariant in
    ran-end c.args.max_bytes (g.I.Input.state c.args.input.now c.args.taker.now)
    (g.I.Input.state c.pieces.input c.pieces.taker)
    (g.I.Input.state c.finish.new.input c.finish.new.taker) _ _ _ _ _ _ _
    v.upto c.requires.start v.short (c.in-Ok.ensures.no_failure ∙ v.quiet_source) v.quiet_sink
    (grew-is (ap (λ z. take z c.read_next.new.piece) c.if-n-eq0.true) c.in-Ok.ensures.bytes)
    (c.in-Ok.ensures.end.0 c.if-n-eq0.true) c.in_ok-finish.ensures.ran c.in_ok-finish.ensures.passed_on

pub returns-in_err-finish-clause-run : goal.returns-in_err-finish-clause-run
returns-in_err-finish-clause-run g c =
    let v = c.pieces.invariant in
    let error = err_from_is_err_and c.from_residual.result c.from_residual.ensures.1 in
    rw (error.1, error.2) (ran-end_err c.args.max_bytes (g.I.Input.state c.args.input.now c.args.taker.now)
    (g.I.Input.state c.pieces.input c.pieces.taker)
    (g.I.Input.state c.finish.new.input c.finish.new.taker) _ _ _ _ _ _ _ _
    v.upto c.requires.start v.short (c.in-Ok.ensures.no_failure ∙ v.quiet_source) v.quiet_sink
    (grew-is (ap (λ z. take z c.read_next.new.piece) c.if-n-eq0.true) c.in-Ok.ensures.bytes)
    (c.in-Ok.ensures.end.0 c.if-n-eq0.true) c.in_err-finish.ensures.ran)

pub returns-in_err-feed-clause-run : goal.returns-in_err-feed-clause-run
returns-in_err-feed-clause-run g c =
    let v = c.pieces.invariant in
    let room = c.args.max_bytes + 1 - c.pieces.seen in
    let error = err_from_is_err_and c.from_residual-in_err-feed.result c.from_residual-in_err-feed.ensures.1 in
    rw (error.1, error.2) (ran-piece c.args.max_bytes (g.I.Input.state c.args.input.now c.args.taker.now)
    (g.I.Input.state c.pieces.input c.pieces.taker) (g.I.Input.state c.feed.new.input c.feed.new.taker) _ _ _ _ _ _ _
    c.in-Ok.n c.allowed_of-allowed.result room c.read_next.new.piece _
    v.upto c.requires.start v.short (c.in-Ok.ensures.no_failure ∙ v.quiet_source) v.quiet_sink
    c.in-Ok.ensures.bytes refl c.in-Ok.ensures.bound.1 c.in-Ok.ensures.bound.0 c.allowed_of-allowed.ensures.last
    c.allowed_of-allowed.ensures.all c.in_err-feed.ensures.ran)

pub returns-then-seen-max_bytes-clause-run : goal.returns-then-seen-max_bytes-clause-run
returns-then-seen-max_bytes-clause-run g c =
    let v = c.pieces.invariant in
    let room = c.args.max_bytes + 1 - c.pieces.seen in
    ran-long c.args.max_bytes (g.I.Input.state c.args.input.now c.args.taker.now)
    (g.I.Input.state c.pieces.input c.pieces.taker)
    (g.I.Input.state c.feed.new.input c.feed.new.taker) (g.S.Source.has_ended c.read_next.new.source) _ _ _ _ _
    c.in-Ok.n c.allowed_of-allowed.result room c.read_next.new.piece
    v.upto c.requires.start v.short (c.in-Ok.ensures.no_failure ∙ v.quiet_source) v.quiet_sink c.in_ok-feed.ensures.ran.1
    c.in-Ok.ensures.bytes refl c.in-Ok.ensures.bound.1 c.in-Ok.ensures.bound.0 c.allowed_of-allowed.ensures.last
    c.allowed_of-allowed.ensures.all (omega arith) c.in_ok-feed.ensures.ran.0

pub pieces-preserved : goal.pieces-preserved
pieces-preserved g c =
    let v = c.pieces.invariant in
    let b = c.read_next.new.piece in
    let n = c.in-Ok.n in
    let e : c.allowed_of-allowed.result ≡ n = c.allowed_of-allowed.ensures.all (omega arith) in
    let d = fed-is (ap (λ z. take z b) e) c.in_ok-feed.ensures.ran.0 in
    let k : length (take n b) ≡ n = length-take-le n b c.in-Ok.ensures.bound.0 in
    let u = upto-more v.upto c.in-Ok.ensures.bytes d in
    record {
      upto = rw k at u;
      short = omega arith;
      quiet_source = c.in-Ok.ensures.no_failure ∙ v.quiet_source;
      quiet_sink = c.in_ok-feed.ensures.ran.1 ∙ v.quiet_sink;
      passed = λ _. c.in_ok-feed.ensures.passed_on;
      gone = λ _. c.in_ok-feed.ensures.passed_on;
      buffer = search rules;
    }

pub read_next-requires-clause-passed : goal.read_next-requires-clause-passed
read_next-requires-clause-passed g c = c.pieces.invariant.gone

pub finish-requires-clause-following : goal.finish-requires-clause-following
finish-requires-clause-following g c =
    let v = c.pieces.invariant in
    let s = v.short in
    let k = v.upto.count in
    let m = c.requires.limit in
    (v.upto.bytes, omega arith, v.upto.fed.follows [] c.requires.start)

pub feed-requires-clause-following : goal.feed-requires-clause-following
feed-requires-clause-following g c =
    let v = c.pieces.invariant in
    let s = v.short in
    let k = v.upto.count in
    let m = c.requires.limit in
    let a = c.allowed_of-allowed.ensures in
    let h = c.in-Ok.ensures.bound in
    let j = c.allowed_of-allowed.result in
    let w = allowed-within c.in-Ok.n j (c.args.max_bytes + 1 - c.pieces.seen) h.1 a.last a.all in
    let l = length-take-le j c.read_next.new.piece (omega (arith, w.0, h.0)) in
    (v.upto.bytes, omega (arith, w.1, l, s, k, m), v.upto.fed.follows [] c.requires.start)

pub returns-in-Err-clause-passed_before : goal.returns-in-Err-clause-passed_before
returns-in-Err-clause-passed_before g c = λ e h. c.pieces.invariant.passed h

pub returns-then-n-eq0-clause-passed_before : goal.returns-then-n-eq0-clause-passed_before
returns-then-n-eq0-clause-passed_before g c = λ e h. c.in_ok-finish.ensures.passed_on

pub returns-in_err-finish-clause-passed_before : goal.returns-in_err-finish-clause-passed_before
returns-in_err-finish-clause-passed_before g c =
    λ e h. absurd (let q = c.in-Ok.ensures.no_failure ∙ c.pieces.invariant.quiet_source in omega arith)

pub returns-in_err-feed-clause-passed_before : goal.returns-in_err-feed-clause-passed_before
returns-in_err-feed-clause-passed_before g c =
    λ e h. absurd (let q = c.in-Ok.ensures.no_failure ∙ c.pieces.invariant.quiet_source in omega arith)

pub returns-then-seen-max_bytes-clause-passed_before : goal.returns-then-seen-max_bytes-clause-passed_before
returns-then-seen-max_bytes-clause-passed_before g c = λ e h. c.in_ok-feed.ensures.passed_on
