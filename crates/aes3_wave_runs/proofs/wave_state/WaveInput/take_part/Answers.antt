use Rattle.std.proofs.Common.{◌≡◌, ◌+◌, ◌-◌, ◌++◌, length, take, refl, ap, ◌∙◌, arith}
use borrow.Rule.Slice.PartMut.{put_mid}
use Rattle.std.proofs.lemmas.List.{length-take-le}
use Rattle.std.proofs.lemmas.Result.{err_from_is_err_and}
use Rattle.aes3_engine.proofs.SampleReads.{put-behind}
use Rattle.aes3_wave_runs.specs.States.{samples_state}
use Rattle.aes3_wave_runs.specs.Wave.{frames_state}
use Rattle.aes3_wave_runs.proofs.FrameSteps.{frames-following, last-fed, last-refused, part-fed}
use Rattle.aes3_wave_runs.proofs.wave_state.WaveInput.take_part.Goals as goal

pub returns-then-at-count : goal.returns-then-at-count
returns-then-at-count g c =
    let s = c.args.self.now in
    let xs = c.args.octets.now in
    let n = c.min-count.result in
    let m = c.min-count.ensures in
    let len = c.frame_len-len.ensures.len in
    let most = c.frame_len-len.ensures.few in
    let few = s.few in
    let some = c.requires.some in
    let room = c.requires.samples in
    let new = put_mid s.at (s.at + n - s.at) s.begun c.copy_from_slice.new.self in
    let put = put-behind s.at n s.begun xs c.copy_from_slice.new.self (omega arith) (omega arith)
    c.copy_from_slice.ensures.after in
    let front = put.0 in
    let all = put.1 in
    let h : length (take s.at s.begun) ≡ s.at = length-take-le s.at s.begun (omega arith) in
    let i = ap length front in
    let t = c.if-at-count.true in (
      omega arith,
      omega arith,
      part-fed s.format s.channels s.len s.left (s.left - n) n (take s.at s.begun) (take (s.at + n) new) xs
          (samples_state s.samples c.args.change.now) (g.T.Sink.taken c.args.sink.now) c.requires.following.2.pairs
          (omega arith) (omega arith) front (omega arith) room refl,
      refl,
    )

pub feed_fronts-requires-clause-following : goal.feed_fronts-requires-clause-following
feed_fronts-requires-clause-following g c =
    let s = c.args.self.now in
    let xs = c.args.octets.now in
    let n = c.min-count.result in
    let m = c.min-count.ensures in
    let len = c.frame_len-len.ensures.len in
    let few = s.few in
    let most = s.most in
    let room = c.requires.samples in
    let t = c.if-at-count.false in
    let h : length (take s.at s.begun) ≡ s.at = length-take-le s.at s.begun (omega arith) in
    frames-following s.format s.channels s.len s.left 1 (length c.two_samples-pair.result) (take s.at s.begun)
    (samples_state s.samples c.args.change.now) c.requires.following.0 (omega arith) most (omega arith) (omega arith)
    c.requires.following.2

pub returns : goal.returns
returns g c =
    let s = c.args.self.now in
    let xs = c.args.octets.now in
    let n = c.min-count.result in
    let m = c.min-count.ensures in
    let len = c.frame_len-len.ensures.len in
    let few = s.few in
    let some = c.requires.some in
    let room = c.requires.samples in
    let new = put_mid s.at (s.at + n - s.at) s.begun c.copy_from_slice.new.self in
    let put = put-behind s.at n s.begun xs c.copy_from_slice.new.self (omega arith) (omega arith)
    c.copy_from_slice.ensures.after in
    let front = put.0 in
    let all = put.1 in
    let h : length (take s.at s.begun) ≡ s.at = length-take-le s.at s.begun (omega arith) in
    let t = c.if-at-count.false in
    let w = c.frame_len-len.result in
    let e : w ≡ s.at + n = omega arith in
    let frame : take w new ≡ take s.at s.begun ++ take n xs = ap (λ v. take v new) e ∙ front in
    let i = ap length frame in (
      omega arith,
      omega arith,
      last-fed s.format s.channels s.len s.left (s.left - n) n (take s.at s.begun) (take 0 new) (take w new) xs
          c.two_samples-pair.result (samples_state s.samples c.args.change.now)
          (samples_state c.feed_fronts.new.input c.feed_fronts.new.taker) c.requires.following.2.pairs (omega arith) refl
          frame (omega arith) c.two_samples-pair.ensures (omega arith) room refl c.in_ok-feed_fronts.ensures.0,
      c.in_ok-feed_fronts.ensures.1,
    )

pub returns-in_err-feed_fronts : goal.returns-in_err-feed_fronts
returns-in_err-feed_fronts g c =
    let error = err_from_is_err_and c.from_residual.result c.from_residual.ensures.1 in
    let s = c.args.self.now in
    let xs = c.args.octets.now in
    let n = c.min-count.result in
    let m = c.min-count.ensures in
    let len = c.frame_len-len.ensures.len in
    let few = s.few in
    let some = c.requires.some in
    let room = c.requires.samples in
    let new = put_mid s.at (s.at + n - s.at) s.begun c.copy_from_slice.new.self in
    let put = put-behind s.at n s.begun xs c.copy_from_slice.new.self (omega arith) (omega arith)
    c.copy_from_slice.ensures.after in
    let front = put.0 in
    let all = put.1 in
    let h : length (take s.at s.begun) ≡ s.at = length-take-le s.at s.begun (omega arith) in
    let t = c.if-at-count.false in
    let w = c.frame_len-len.result in
    let e : w ≡ s.at + n = omega arith in
    let frame : take w new ≡ take s.at s.begun ++ take n xs = ap (λ v. take v new) e ∙ front in
    let i = ap length frame in
    rw (error.1, error.2) (last-refused s.format s.channels s.len s.left n (take s.at s.begun) (take w new) xs
    c.two_samples-pair.result (samples_state s.samples c.args.change.now) (samples_state c.feed_fronts.new.input c.feed_fronts.new.taker)
    (frames_state s.format s.channels s.len s.left (take s.at new)
    (samples_state c.feed_fronts.new.input c.feed_fronts.new.taker))
    (g.T.Sink.taken c.args.sink.now) (g.T.Sink.taken c.feed_fronts.new.sink) (g.T.Sink.failed c.args.sink.now)
    (g.T.Sink.failed c.feed_fronts.new.sink) _ c.requires.following.2.pairs (omega arith) frame (omega arith)
    c.two_samples-pair.ensures (omega arith) room (λ b. tt) c.in_err-feed_fronts.ensures)
