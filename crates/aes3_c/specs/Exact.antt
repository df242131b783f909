-- Samples that keep all their bits in a form.
use Rattle.std.specs.Prelude.{ℕ, Bool}
use Rattle.aes3_forms_samples.specs.declared.sample_format.SampleFormat.{SampleFormat}
use Rattle.aes3_forms_samples.specs.Formats.{fits}
use Rattle.aes3_frame.specs.Files.{payload_of, word_bytes}
use Rattle.aes3_frame.specs.Samples.{sample_of}

-- whether the sample in a word of a block keeps all its bits
abbrev pub word_fits : SampleFormat → ℕ → Bool
word_fits format w = fits format (word_bytes (sample_of (payload_of w)))
