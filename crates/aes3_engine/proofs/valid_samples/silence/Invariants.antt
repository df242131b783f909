use Rattle.std.proofs.Common.{◌≡◌, ◌*◌}
use Rattle.aes3_engine.proofs.ValidSamples.{silent_front}
use Rattle.aes3_engine.proofs.valid_samples.silence.Given as goal

abbrev pub invariant-loop-i : goal.invariant-loop-i
invariant-loop-i l = l.block ≡ silent_front (2 * l.i) l.initial.block
