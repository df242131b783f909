-- How long frames are, as far as it is known: a header says that in 16 bits.
use Rattle.std.specs.Prelude.{ℕ, Option, Some, None}
use Rattle.aes3_wave.specs.declared.chunk.Step.{Step}
use Rattle.aes3_wave.specs.declared.chunk.Step.TheVariants.{More, Next, Samples}
use Rattle.aes3_wave.specs.declared.wave_format.WaveFormat.{WaveFormat}
use Rattle.aes3_wave.specs.declared.header_reader.Stage.{Stage}
use Rattle.aes3_wave.specs.declared.header_reader.Stage.TheVariants.{First, Chunks, Whole}
use Rattle.aes3_wave.specs.Formats.{frame_len}

-- of a format, and 0 where it is not known
abbrev pub known_len : Option WaveFormat → ℕ
known_len None = 0
known_len (Some f) = frame_len f

-- of the format that a reader knows, and of that which octets decide
abbrev pub stage_len : Stage → ℕ
stage_len First = 0
stage_len (Chunks k) = known_len k.format
stage_len (Whole header) = frame_len header.format

abbrev pub step_len : Step → ℕ
step_len More = 0
step_len (Next known len) = known_len known.format
step_len (Samples header) = frame_len header.format
