use Rattle.std.proofs.Common.{◌≡◌, ◌*◌, length, take}
use Rattle.aes3_wave.specs.Formats.{frame_len}
use Rattle.aes3_wave.specs.Samples.{two_samples}
use Rattle.aes3_wave_runs.specs.Frames.{parts_of}
use Rattle.aes3_wave_runs.proofs.frames.put_each.Given as goal

abbrev pub invariant-loop-i : goal.invariant-loop-i
invariant-loop-i l = record {
  len : length l.wide ≡ length l.fn.wide;
  at : l.at ≡ l.i * frame_len l.format;
  done : take (8 * l.i) l.wide ≡ parts_of (two_samples l.format l.channels) (frame_len l.format) l.i l.octets;
}
