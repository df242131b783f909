-- What becomes of samples on their way through a WAV file.
use Rattle.std.specs.Prelude.{ℕ, List, Bool, Option, Some, None, Ok, ◌≡◌, ◌<◌, ◌^◌, length}
use Rattle.std.specs.List.{All}
use Rattle.std.specs.Option.{ForSome}
use Rattle.aes3_frame.specs.Blocks.{IsBlock}
use Rattle.aes3_frame.specs.Samples.{samples}
use Rattle.aes3_forms_samples.specs.Formats.{narrowed, widened}
use Rattle.aes3_wave.specs.declared.chunk.WaveHeader.{WaveHeader}
use Rattle.aes3_wave.specs.declared.header_writing.Depth.{Depth}
use Rattle.aes3_wave.specs.Headers.{judged}
use Rattle.aes3_wave.specs.declared.channels.Mono.{Mono}
use Rattle.aes3_wave.specs.Samples.{usual_channels}
use Rattle.aes3_wave.specs.Written.{written_format}
use Rattle.aes3_wave_runs.specs.ToWav.{format_of, header_for, named_by, rate_for, wave_of}
use Rattle.aes3_wave_runs.specs.Wave.{file_left, file_samples}

-- the header that a file of blocks has
abbrev pub header_of : Depth → Option ℕ → List (List (List Bool)) → WaveHeader
header_of depth rate bs = record {
  format = written_format depth (rate_for rate (named_by bs));
  start = length (header_for depth rate bs);
  len = None;
}

-- A file that `to_wav` writes is read with that header, ends with a frame, and has the samples of its blocks: as
-- samples of 32 bits, those that `to_pcm` writes in its form.
pub record FileComesBack (depth : Depth) (rate : Option ℕ) (bs : List (List (List Bool))) : Type 0 where
  pub header : judged (wave_of depth rate bs) ≡ Ok (Some (header_of depth rate bs))
  pub whole : file_left (header_of depth rate bs) (wave_of depth rate bs) ≡ 0
  pub samples : (mono : Mono) → file_samples (header_of depth rate bs)
      (usual_channels (header_of depth rate bs).format mono) (wave_of depth rate bs)
      ≡ widened (format_of depth) (narrowed (format_of depth) (samples bs))

abbrev pub SamplesComeBack : Type 0
SamplesComeBack = (depth : Depth) (rate : Option ℕ) (bs : List (List (List Bool)))
    → ForSome rate (λ n. n < 2 ^ 32) → All IsBlock bs → FileComesBack depth rate bs
