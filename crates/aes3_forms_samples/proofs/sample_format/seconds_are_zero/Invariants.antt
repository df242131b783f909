use Rattle.std.proofs.Common.{◌≡◌, ◌*◌, drop}
use Rattle.aes3_forms_samples.specs.Formats.{seconds_are_zero}
use Rattle.aes3_forms_samples.proofs.sample_format.seconds_are_zero.Given as goal

abbrev pub invariant-loop-i : goal.invariant-loop-i
invariant-loop-i l = record {
  done : seconds_are_zero l.samples ≡ seconds_are_zero (drop (4 * l.i) l.samples);
}
