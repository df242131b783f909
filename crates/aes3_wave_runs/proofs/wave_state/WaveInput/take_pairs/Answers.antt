use Rattle.std.proofs.Common.{◌≡◌, ◌-◌, ◌*◌, ◌∙◌, [], length, take, refl, ap, arith}
use Rattle.std.proofs.Math.Nat.{mul-le-mul_right}
use Rattle.std.proofs.lemmas.Result.{err_from_is_err_and}
use Rattle.aes3_wave.specs.Formats.{frame_len}
use Rattle.aes3_wave.specs.Samples.{two_samples}
use Rattle.aes3_wave_runs.specs.States.{samples_state}
use Rattle.aes3_wave_runs.specs.Wave.{frames_state}
use Rattle.aes3_wave_runs.proofs.FrameSteps.{eight, frames-following, whole-fed, whole-refused}
use Rattle.aes3_wave_runs.proofs.Parts.{length-parts}
use Rattle.aes3_wave_runs.proofs.wave_state.WaveInput.take_pairs.Goals as goal

pub feed_fronts-requires-clause-following : goal.feed_fronts-requires-clause-following
feed_fronts-requires-clause-following g c =
    let s = c.args.self.now in
    let xs = c.args._octets.now in
    let count = c.args.count in
    let len = c.frame_len-len.ensures.len in
    let room = c.requires.samples in
    let few = s.few in
    let e : count * c.frame_len-len.result ≡ count * frame_len s.format = ap (λ k. count * k) len in
    let fits = c.requires.frames in
    let most = s.most in
    frames-following s.format s.channels s.len s.left count (length c.args.pairs.now)
    (take s.at s.begun) (samples_state s.samples c.args.change.now) c.requires.following.0 (omega arith) most
    (omega arith)
    (ap length c.requires.pairs
    ∙ length-parts (two_samples s.format s.channels) (frame_len s.format) count xs (eight s.format s.channels))
    c.requires.following.2

pub returns : goal.returns
returns g c =
    let s = c.args.self.now in
    let xs = c.args._octets.now in
    let count = c.args.count in
    let len = c.frame_len-len.ensures.len in
    let room = c.requires.samples in
    let few = s.few in
    let e : count * c.frame_len-len.result ≡ count * frame_len s.format = ap (λ k. count * k) len in
    let fits = c.requires.frames in
    let l = mul-le-mul_right {m = 1} {n = count} (frame_len s.format) c.requires.some in
    let none : take s.at s.begun ≡ [] = ap (λ k. take k s.begun) c.requires.none in (
      omega arith,
      omega arith,
      whole-fed s.format s.channels s.len s.left (s.left - count * c.frame_len-len.result) count (count * c.frame_len-len.result)
          (take s.at s.begun) xs c.args.pairs.now (samples_state s.samples c.args.change.now)
          (samples_state c.feed_fronts.new.input c.feed_fronts.new.taker) c.requires.following.2.pairs none (omega arith)
          e (omega arith) room refl c.requires.pairs c.in_ok-feed_fronts.ensures.0,
      c.in_ok-feed_fronts.ensures.1,
    )

pub returns-in_err-feed_fronts : goal.returns-in_err-feed_fronts
returns-in_err-feed_fronts g c =
    let error = err_from_is_err_and c.from_residual.result c.from_residual.ensures.1 in
    let s = c.args.self.now in
    let xs = c.args._octets.now in
    let count = c.args.count in
    let len = c.frame_len-len.ensures.len in
    let room = c.requires.samples in
    let few = s.few in
    let e : count * c.frame_len-len.result ≡ count * frame_len s.format = ap (λ k. count * k) len in
    let fits = c.requires.frames in
    let l = mul-le-mul_right {m = 1} {n = count} (frame_len s.format) c.requires.some in
    let none : take s.at s.begun ≡ [] = ap (λ k. take k s.begun) c.requires.none in
    rw (error.1, error.2) (whole-refused s.format s.channels s.len s.left count (count * c.frame_len-len.result)
    (take s.at s.begun) xs c.args.pairs.now (samples_state s.samples c.args.change.now)
    (samples_state c.feed_fronts.new.input c.feed_fronts.new.taker)
    (frames_state s.format s.channels s.len s.left (take s.at s.begun)
    (samples_state c.feed_fronts.new.input c.feed_fronts.new.taker))
    (g.T.Sink.taken c.args.sink.now) (g.T.Sink.taken c.feed_fronts.new.sink) (g.T.Sink.failed c.args.sink.now)
    (g.T.Sink.failed c.feed_fronts.new.sink) _ c.requires.following.2.pairs none (omega arith)
    e (omega arith) room c.requires.pairs (λ b. tt) c.in_err-feed_fronts.ensures)
