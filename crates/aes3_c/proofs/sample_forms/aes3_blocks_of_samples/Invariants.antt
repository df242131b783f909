use Rattle.std.proofs.Common.{◌≡◌, ◌*◌, ◌<◌, ℕ, drop, get_or, length, true}
use Rattle.aes3_forms_samples.specs.Formats.{block_len}
use Rattle.aes3_frame.specs.Files.{is_lawful}
use Rattle.aes3_c.specs.Blocks.{AreSampled, sample_form}
use Rattle.aes3_c.proofs.sample_forms.aes3_blocks_of_samples.Given as goal

abbrev pub invariant-loop-i : goal.invariant-loop-i
invariant-loop-i l = record {
  len : length l.words ≡ length l.fn.words;
  at : l.at ≡ block_len (sample_form l.form) * l.i;
  each : AreSampled (sample_form l.form) l.octets l.i l.words;
  lawful : (k : ℕ) → k < 384 * l.i → is_lawful (get_or l.words k 0) ≡ true;
  others : drop (384 * l.i) l.words ≡ drop (384 * l.i) l.fn.words;
}
