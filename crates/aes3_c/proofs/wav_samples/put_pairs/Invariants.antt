use Rattle.std.proofs.Common.{◌≡◌, ◌*◌, drop, length}
use Rattle.aes3_wave.specs.Formats.{frame_len}
use Rattle.aes3_c.specs.Wav.{ArePairs}
use Rattle.aes3_c.proofs.wav_samples.put_pairs.Given as goal

abbrev pub invariant-loop-i : goal.invariant-loop-i
invariant-loop-i l = record {
  len : length l.samples ≡ length l.fn.samples;
  at : l.at ≡ l.i * frame_len l.format;
  pairs : ArePairs l.format l.channels l.octets l.i l.samples;
  others : drop (2 * l.i) l.samples ≡ drop (2 * l.i) l.fn.samples;
}
