use Rattle.std.proofs.Common.{◌≡◌, length, take, ap, arith}
use Rattle.std.proofs.lemmas.List.{length-take-le}
use Rattle.aes3_wave_runs.specs.States.{samples_state}
use Rattle.aes3_wave_runs.specs.Wave.{frames_state}
use Rattle.aes3_wave_runs.proofs.FrameSteps.{frames-cut, frames-end, frames-following}
use Rattle.aes3_wave_runs.proofs.wave_input.WaveInputInputChange.finish.Goals as goal

pub returns-then-self-gt0 : goal.returns-then-self-gt0
returns-then-self-gt0 g c =
    let s = c.args.self.now in
    let few = s.few in
    let some = c.if-self-gt0.true in
    let room = s.room in
    let l : length (take s.at s.begun) ≡ s.at = length-take-le s.at s.begun (omega arith) in
    frames-cut s.format s.channels s.len s.left s.at (take s.at s.begun) (samples_state s.samples c.args.change.now)
    (frames_state s.format s.channels s.len s.left (take s.at s.begun) (samples_state s.samples c.args.change.now))
    (g.T.Sink.taken c.args.sink.now) (g.T.Sink.failed c.args.sink.now) (omega arith) (omega arith) (omega arith)
    (λ b. tt)

pub finish-requires-clause-following : goal.finish-requires-clause-following
finish-requires-clause-following g c =
    let s = c.args.self.now in
    let few = s.few in
    let most = s.most in
    let q = frames-following s.format s.channels s.len s.left 0 0 (take s.at s.begun)
    (samples_state s.samples c.args.change.now) c.requires.following.0 (omega arith) most (omega arith) (omega arith)
    c.requires.following.2 in
    let w = q.1 in
    (q.0, omega arith, q.2)

pub returns : goal.returns
returns g c =
    let s = c.args.self.now in
    let few = s.few in
    let none : s.at ≡ 0 = omega (arith, c.if-self-gt0.false) in
    frames-end s.format s.channels s.len s.left (take s.at s.begun) (samples_state s.samples c.args.change.now)
    (samples_state c.finish.new.self c.finish.new.change) _ c.finish.result (ap (λ k. take k s.begun) none) (omega arith)
    c.finish.ensures
