use Rattle.std.proofs.Common.{sym, subst}
use Rattle.aes3_engine.specs.Sampling.{sampling}
use Rattle.aes3_wave_runs.specs.States.{samples_state}
use Rattle.aes3_wave_runs.specs.Through.{PairsAreOne}
use Rattle.aes3_wave_runs.proofs.FramePairs.{pairs-are-one}
use Rattle.aes3_wave_runs.proofs.FrameSteps.{frames-start}
use Rattle.aes3_wave_runs.proofs.wave_state.WaveInput.new.Goals as goal

pub returns-clause-start : goal.returns-clause-start
returns-clause-start c = λ change.
    let i = c.new.ensures in
    let s = c.new.result in
    frames-start c.args.format c.args.channels c.taken_len-len.result (samples_state s change)
    (rw (i.format, i.exact) i.start)
    (subst (λ f. PairsAreOne (sampling f s.exact s.words change)) (sym i.format) (pairs-are-one s.exact s.words change))
