use Rattle.std.proofs.Common.{◌≡◌, ◌+◌, ◌-◌, ◌%◌, ◌∙◌, inl, inr, refl, sym, ap, arith, rules, length, take, drop}
use Rattle.std.proofs.lemmas.List.{length-set}
use Rattle.aes3_cell.proofs.Growing.{grew-is, grew-none}
use Rattle.aes3_capture_recovery.proofs.Reading.{kept-none, kept-part, none-kept, one-kept, run-ended, run-paused, run-read, run-write}
use Rattle.aes3_capture_recovery.proofs.Reading.{upto-none, upto-piece}
use Rattle.aes3_capture_recovery.proofs.Taking.{took-nothing}
use Rattle.aes3_capture_recovery.proofs.recovery_run.recover.Goals.{then-kept-eq1, else-kept-eq1+else-is_due}
use Rattle.aes3_capture_recovery.proofs.recovery_run.recover.Goals as goal

pub pieces-init : goal.pieces-init
pieces-init g c = record {
  buffer = c.blank_piece-piece.ensures;
  part = omega arith;
  quiet_source = refl;
  quiet_sink = refl;
  passed = λ h. h;
  gone = λ some. absurd (omega (arith, some));
  upto = upto-none c.args.unit (g.S.Source.given c.args.source.now) g.T.Sink.taken c.args.recovery.now c.args.sink.now;
}

pub read_some-requires-clause-passed : goal.read_some-requires-clause-passed
read_some-requires-clause-passed g c = c.pieces.invariant.gone

pub returns-in-Err-clause-read : goal.returns-in-Err-clause-read
returns-in-Err-clause-read g c =
    run-read (g.S.Source.has_ended c.read_some.new.source) c.pieces.invariant.upto c.in-Err.ensures.err.1

pub returns-then-n-eq0-clause-read : goal.returns-then-n-eq0-clause-read
returns-then-n-eq0-clause-read g c =
    run-ended (g.S.Source.has_ended c.read_some.new.source) c.end.new.recovery c.end.new.sink _ c.end.result
    c.pieces.invariant.upto
    (grew-is (ap (λ z. take z (drop c.pieces.kept c.read_some.new.piece)) c.if-n-eq0.true) c.in-Ok.ensures.octets)
    (inl (c.in-Ok.ensures.end.0 c.if-n-eq0.true)) c.end.ensures.ended c.end.ensures.err c.end.ensures.took

pub returns-in-Err-feed_blocks-clause-read : goal.returns-in-Err-feed_blocks-clause-read
returns-in-Err-feed_blocks-clause-read g c =
    run-write (g.S.Source.has_ended c.read_some.new.source) c.feed_blocks.new.recovery c.feed_blocks.new.sink
    c.pieces.invariant.upto c.in-Ok.ensures.octets

pub returns-in-Err-pass_on-clause-read : goal.returns-in-Err-pass_on-clause-read
returns-in-Err-pass_on-clause-read g c =
    run-write (g.S.Source.has_ended c.read_some.new.source) c.pass_on.new.self c.pass_on.new.sink
    c.pieces.invariant.upto c.in-Ok.ensures.octets

pub returns-then-is_due-clause-read : goal.returns-then-is_due-clause-read
returns-then-is_due-clause-read g c =
    let v = c.pieces.invariant in
    let piece = c.read_some.new.piece in
    let kept = c.pieces.kept in
    let n = c.in-Ok.n in
    let size = c.len.result in
    let k = (kept + n) % size in
    let bits = c.len.ensures.bits in
    let some = c.if-n-eq0.false in
    let bound = c.in-Ok.ensures.bound in
    let most = c.piece_len-to.ensures.most in
    let long : length piece ≡ 131072 = search rules in
    let none = kept-none c.args.unit k (kept-part c.args.unit size (kept + n) k bits refl) c.if-kept-eq1.false in
    run-paused (g.S.Source.has_ended c.read_some.new.source)
    (upto-piece c.pieces.piece piece piece kept n size k _ v.upto c.in-Ok.ensures.octets c.read_some.ensures.front
    (omega (arith, some)) (omega (arith, bound, most, long)) bits (omega arith) (omega arith)
    (none-kept piece (drop (kept + n - k) piece) k none) c.in-Ok-feed_blocks.ensures.took
    (took-nothing g.T.Sink.taken c.feed_blocks.new.recovery c.pass_on.new.self c.feed_blocks.new.sink c.pass_on.new.sink
    c.in-Ok-pass_on.ensures.recovered c.in-Ok-pass_on.ensures.awaits c.pass_on.ensures.measured c.pass_on.ensures.samples
    c.pass_on.ensures.state c.in-Ok-pass_on.ensures.follows c.in-Ok-pass_on.ensures.stays))
    (ap (λ i. take i piece) none)

pub pieces-preserved : goal.pieces-preserved
pieces-preserved g c =
    let v = c.pieces.invariant in
    let piece = c.read_some.new.piece in
    let kept = c.pieces.kept in
    let n = c.in-Ok.n in
    let size = c.len.result in
    let k = (kept + n) % size in
    let len = kept + n - k in
    let bits = c.len.ensures.bits in
    let few = c.len.ensures.few in
    let some = c.if-n-eq0.false in
    let bound = c.in-Ok.ensures.bound in
    let most = c.piece_len-to.ensures.most in
    let long : length piece ≡ 131072 = search rules in
    let part = kept-part c.args.unit size (kept + n) k bits refl in
    let left : take k c.if-kept-eq1.piece ≡ take k (drop len piece)
    = elim c.if-kept-eq1.branch [
      | then-kept-eq1 w ↦
          let one = w.if-kept-eq1.true in
          ap (λ i. take i c.if-kept-eq1.piece) one ∙ ap (take 1) w.piece-is
          ∙ one-kept piece len _ (omega (arith, one, some, bound, most, long)) (omega arith)
          ∙ sym (ap (λ i. take i (drop len piece)) one)
      | else-kept-eq1+else-is_due w ↦
          none-kept c.if-kept-eq1.piece (drop len piece) k (kept-none c.args.unit k part w.if-kept-eq1.false)
    ] in
    record {
      buffer = elim c.if-kept-eq1.branch [
        | then-kept-eq1 w ↦ ap length w.piece-is ∙ length-set piece 0 _ ∙ long
        | else-kept-eq1+else-is_due w ↦ ap length w.piece-is ∙ long
      ];
      part = omega (arith, part, bits, few);
      quiet_source = c.in-Ok.ensures.no_failure ∙ v.quiet_source;
      quiet_sink = c.in-Ok-pass_on.ensures.no_failure ∙ c.in-Ok-feed_blocks.ensures.no_failure ∙ v.quiet_sink;
      passed = λ h. c.in-Ok-pass_on.ensures.passed;
      gone = λ h. c.in-Ok-pass_on.ensures.passed;
      upto = upto-piece c.pieces.piece piece c.if-kept-eq1.piece kept n size _ _ v.upto c.in-Ok.ensures.octets
          c.read_some.ensures.front (omega (arith, some)) (omega (arith, bound, most, long)) bits (omega arith) (omega arith) left
          c.in-Ok-feed_blocks.ensures.took
          (took-nothing g.T.Sink.taken c.feed_blocks.new.recovery c.pass_on.new.self c.feed_blocks.new.sink c.pass_on.new.sink
          c.in-Ok-pass_on.ensures.recovered c.in-Ok-pass_on.ensures.awaits c.pass_on.ensures.measured c.pass_on.ensures.samples
          c.pass_on.ensures.state c.in-Ok-pass_on.ensures.follows c.in-Ok-pass_on.ensures.stays);
    }

pub returns-clause-read : goal.returns-clause-read
returns-clause-read g c =
    let far = c.pieces-test.false in
    run-ended (g.S.Source.has_ended c.pieces.source) c.end-2.new.recovery c.end-2.new.sink _ c.end-2.result
    c.pieces.invariant.upto (grew-none refl) (inr (omega (arith, far))) c.end-2.ensures.ended c.end-2.ensures.err
    c.end-2.ensures.took
