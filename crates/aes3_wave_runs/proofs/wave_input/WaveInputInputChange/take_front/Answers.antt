use Rattle.std.proofs.Common.{length, take, refl, sym, arith}
use Rattle.std.proofs.lemmas.List.{length-take-le, take_all}
use Rattle.aes3_input.proofs.Feeding.{fed-is}
use Rattle.aes3_wave_runs.specs.States.{samples_state, state_of}
use Rattle.aes3_wave_runs.proofs.FrameSteps.{front-longer, frames-ignored}
use Rattle.aes3_wave_runs.proofs.wave_input.WaveInputInputChange.take_front.Goals as goal

pub returns-then-samples-eq0 : goal.returns-then-samples-eq0
returns-then-samples-eq0 g c =
    let s = c.args.self.now in
    let piece = c.args.piece.now in
    let few = s.few in
    let some = c.requires.some in
    let z = c.if-samples-eq0.true in
    let m = c.min-samples.ensures in
    let h = length-take-le s.at s.begun (omega (arith, s.room)) in (
      omega arith,
      omega arith,
      fed-is (sym (take_all (length piece) piece (omega arith)))
          (frames-ignored s.format s.channels s.len s.left (take s.at s.begun) piece (samples_state s.samples c.args.change.now)
          (g.T.Sink.taken c.args.sink.now) c.requires.following.2.pairs (omega arith) (omega arith)),
      refl,
    )

pub returns-then-frame_len-samples : goal.returns-then-frame_len-samples
returns-then-frame_len-samples g c =
    let m = c.min-samples.ensures in
    front-longer (state_of c.args.self.now c.args.change.now) (state_of c.take_frames.new.self c.take_frames.new.change)
    _ c.args.piece.now (g.T.Sink.taken c.args.sink.now) (g.T.Sink.taken c.take_frames.new.sink)
    (g.T.Sink.failed c.args.sink.now) (g.T.Sink.failed c.take_frames.new.sink) c.take_frames.result (omega arith)
    c.take_frames.ensures

pub returns-else-self-eq0 : goal.returns-else-self-eq0
returns-else-self-eq0 g c =
    let m = c.min-samples.ensures in
    front-longer (state_of c.args.self.now c.args.change.now) (state_of c.take_part.new.self c.take_part.new.change)
    _ c.args.piece.now (g.T.Sink.taken c.args.sink.now) (g.T.Sink.taken c.take_part.new.sink)
    (g.T.Sink.failed c.args.sink.now) (g.T.Sink.failed c.take_part.new.sink) c.take_part.result (omega arith)
    c.take_part.ensures
