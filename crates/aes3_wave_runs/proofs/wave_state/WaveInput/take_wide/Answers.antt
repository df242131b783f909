use Rattle.std.proofs.Common.{◌≡◌, ◌*◌, ◌/◌, length, ap, arith}
use Rattle.aes3_wave.specs.Formats.{frame_len}
use Rattle.aes3_wave_runs.proofs.FrameSteps.{div-some, whole-fits}
use Rattle.aes3_wave_runs.proofs.WrittenFrames.{wide-frames}
use Rattle.aes3_wave_runs.proofs.wave_state.WaveInput.take_wide.Goals as goal

pub take_pairs-requires-clause-some : goal.take_pairs-requires-clause-some
take_pairs-requires-clause-some g c =
    let few = c.args.self.now.few in
    let len = c.frame_len-len.ensures.len in
    let long = c.requires.some in
    div-some c.frame_len-len.result (length c.args.octets.now) (omega arith) (omega arith)

pub take_pairs-requires-clause-frames : goal.take_pairs-requires-clause-frames
take_pairs-requires-clause-frames g c =
    let s = c.args.self.now in
    let xs = c.args.octets.now in
    let few = s.few in
    let len = c.frame_len-len.ensures.len in
    let long = c.requires.some in
    let n = length xs / c.frame_len-len.result in
    let one = div-some c.frame_len-len.result (length xs) (omega arith) (omega arith) in
    let fits = whole-fits n c.frame_len-len.result (length xs) (omega arith) (omega arith) (omega arith) (omega arith) in
    let e : n * c.frame_len-len.result ≡ n * frame_len s.format = ap (λ k. n * k) len in
    let all = fits.1 in
    omega arith

pub take_pairs-requires-clause-pairs : goal.take_pairs-requires-clause-pairs
take_pairs-requires-clause-pairs g c =
    let s = c.args.self.now in
    let xs = c.args.octets.now in
    let few = s.few in
    let len = c.frame_len-len.ensures.len in
    let long = c.requires.some in
    let n = length xs / c.frame_len-len.result in
    let one = div-some c.frame_len-len.result (length xs) (omega arith) (omega arith) in
    let fits = whole-fits n c.frame_len-len.result (length xs) (omega arith) (omega arith) (omega arith) (omega arith) in
    wide-frames s.format s.channels n _ xs c.requires.wide (ap (λ k. n * k) len) fits.1
