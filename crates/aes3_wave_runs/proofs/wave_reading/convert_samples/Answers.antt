use Rattle.std.proofs.Common.{◌≡◌, ◌-◌, min, arith}
use Rattle.std.proofs.lemmas.Result.{err_from_is_err_and}
use Rattle.aes3_wave_runs.specs.Wave.{frames_most}
use Rattle.aes3_wave_runs.proofs.WaveRuns.{frame-some, samples-err, samples-ok, wave-counted}
use Rattle.aes3_wave_runs.proofs.wave_reading.convert_samples.Goals as goal

pub returns : goal.returns
returns g c =
    let header = c.args.header.now in
    let i = c.new-input.ensures in
    let r = rw (i.format, i.channels, i.len, i.samples, i.exact, i.words) at c.in_ok-bytes.ensures.run.run in
    let m = c.min-limit.ensures in
    let few = c.frames_most.ensures.most in
    let e : c.min-limit.result ≡ min (c.args.max_bytes - header.start) (frames_most header.format) = omega arith in
    samples-ok header c.args.channels c.args.exact c.args.words c.args.change.now c.args.max_bytes c.min-limit.result _ c.requires.start e
    (frame-some header.format c.args.channels.first c.requires.first)
    (λ head d h l q. wave-counted header c.args.channels c.args.exact head c.min-limit.result d c.in_ok-bytes.bytes
    c.block_len-block_len.result c.frames_in.result c.div_ceil.result h l q c.block_len-block_len.ensures.len
    c.frames_in.ensures.frames c.div_ceil.ensures) r

pub returns-in_err-bytes : goal.returns-in_err-bytes
returns-in_err-bytes g c =
    let error = err_from_is_err_and c.from_residual.result c.from_residual.ensures.1 in
    let header = c.args.header.now in
    let i = c.new-input.ensures in
    let r = rw (i.format, i.channels, i.len, i.samples, i.exact, i.words) at c.in_err-bytes.ensures.run.run in
    let m = c.min-limit.ensures in
    let few = c.frames_most.ensures.most in
    let e : c.min-limit.result ≡ min (c.args.max_bytes - header.start) (frames_most header.format) = omega arith in
    rw (error.1, error.2) (samples-err header c.args.channels c.args.exact c.args.words c.args.change.now
    c.args.max_bytes c.min-limit.result c.requires.start e
    (frame-some header.format c.args.channels.first c.requires.first) r)
