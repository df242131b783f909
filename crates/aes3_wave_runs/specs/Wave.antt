-- The octets after the header of a WAV file: what `from_wav` makes of them.
use Rattle.std.specs.Prelude.{ℕ, List, ◌++◌, Option, Some, None, Bool, Result, IsTrue, ◌≡◌, ◌<◌, ◌≤◌, ◌+◌, ◌-◌, ◌*◌, ◌/◌}
use Rattle.std.specs.Prelude.{◌^◌, ◌==◌, if◌then◌else◌, length, min, take}
use Rattle.aes3_cell.specs.Ends.{Grew}
use Rattle.aes3_cell.specs.declared.counts.Counts.{Counts}
use Rattle.aes3_refusals.specs.declared.run_error.RunError.{RunError}
use Rattle.aes3_refusals.specs.declared.run_error.RunError.TheVariants.{BadLength, BadSample, Read, SoundHeader, TooLong, Write}
use Rattle.aes3_input.specs.Converting.{first_fault}
use Rattle.aes3_input.specs.Running.{Ends, InputRan, InputState, Promise}
use Rattle.aes3_forms_samples.specs.declared.sample_format.SampleFormat.TheVariants.{S32}
use Rattle.aes3_engine.specs.Sampling.{AreSamples, BadSampleAt, IsPcm, IsSound, begun_pcm, pcm_counts, pcm_words}
use Rattle.aes3_status.specs.declared.change.Change.{Change}
use Rattle.aes3_wave.specs.declared.chunk.WaveHeader.{WaveHeader}
use Rattle.aes3_wave.specs.declared.wave_format.WaveFormat.{WaveFormat}
use Rattle.aes3_wave.specs.declared.channels.Channels.{Channels}
use Rattle.aes3_wave.specs.Formats.{frame_len}
use Rattle.aes3_wave.specs.Samples.{samples_of, two_samples}
use Rattle.aes3_forms_words.specs.declared.alsa_am824.Words.{Words}
use Rattle.aes3_wave_runs.specs.Frames.{frame_samples, left_over, parts_of}
use Rattle.aes3_wave_runs.specs.Through.{PairsAreOne, through}

-- ---- what a run promises

-- the samples of two channels in a file, as samples of 32 bits
abbrev pub file_samples : WaveHeader → Channels → List ℕ → List ℕ
file_samples header channels b = frame_samples header.format channels (samples_of header b)

-- how many octets of a frame come after the last whole one
abbrev pub file_left : WaveHeader → List ℕ → ℕ
file_left header b = left_over header.format (samples_of header b)

-- a file that ends with a frame, and whose samples are none that `from_pcm` refuses
pub record IsWave (header : WaveHeader) (channels : Channels) (exact : Bool) (b : List ℕ) : Type 0 where
  pub whole : file_left header b ≡ 0
  pub samples : IsPcm S32 exact (file_samples header channels b)

-- it ends inside a frame
pub record EndsInFrame (header : WaveHeader) (channels : Channels) (exact : Bool) (b : List ℕ) (left : ℕ) : Type 0 where
  pub clean : AreSamples exact (file_samples header channels b)
  pub count : left ≡ file_left header b
  pub some : 0 < left

-- why a run that read the octets b of a file with this header is refused; a sample is named by its place among those of
-- 32 bits
abbrev pub IsWaveCause : WaveHeader → Channels → Bool → ℕ → List ℕ → Bool → RunError → Type 0
IsWaveCause header channels exact max b ended (BadSample at) =
    BadSampleAt exact (file_samples header channels (take max b)) at
IsWaveCause header channels exact max b ended (BadLength left) =
    EndsInFrame header channels exact b left × (length b ≤ max) × IsTrue ended
IsWaveCause header channels exact max b ended SoundHeader =
    IsSound exact (file_samples header channels (take max b))
IsWaveCause header channels exact max b ended TooLong =
    AreSamples exact (file_samples header channels (take max b)) × (length b ≡ max + 1)
IsWaveCause header channels exact max b ended Read =
    AreSamples exact (file_samples header channels b) × (length b ≤ max)
IsWaveCause header channels exact max b ended Write = length b ≤ max + 1
IsWaveCause header channels exact max b ended e = ⊥

-- what a run over such a file counts
unfoldable pub wave_counts : WaveHeader → Channels → List ℕ → Counts
wave_counts header channels b = record {
  bytes = length b;
  cells = 0;
  blocks = (pcm_counts S32 (file_samples header channels b)).blocks;
  faults = 0;
  unfinished = 0;
  marks = 0;
}

-- what `from_wav` promises of a file with this header: what `from_pcm_words` does of its samples
abbrev pub wave_file : WaveHeader → Channels → Bool → Words → Change → Promise Counts
wave_file header channels exact words change = record {
  input = IsWave header channels exact;
  whole = λ b. pcm_words S32 words change (file_samples header channels b);
  begun = λ b. begun_pcm S32 exact words change (file_samples header channels b);
  answer = λ b n. n ≡ wave_counts header channels b;
  cause = IsWaveCause header channels exact;
}

-- how many octets a file with this header may have: as many as are allowed, and no more than 2^37 frames have
abbrev pub frames_most : WaveFormat → ℕ
frames_most f = 2 ^ 37 * frame_len f

abbrev pub limit_of : WaveHeader → ℕ → ℕ
limit_of header max = min max (header.start + frames_most header.format)

-- a run over the octets after a header: whatever octets the header has
pub record SamplesRun (header : WaveHeader) (p : Promise Counts) (max : ℕ) (ends : Ends)
    (result : Result Counts RunError) : Type 0 where
  pub rest : List ℕ
  pub given : Grew ends.source.old ends.source.new rest
  pub few : header.start + length rest ≤ limit_of header max + 1
  pub ran : (head : List ℕ) → length head ≡ header.start
      → InputRan p (limit_of header max) (head ++ rest) ends result

-- ---- octet by octet

-- how many octets of samples are taken, where so many are named
abbrev pub taken_len : WaveFormat → Option ℕ → ℕ
taken_len f None = frames_most f
taken_len f (Some n) = min n (frames_most f)

-- how many whole frames are among so many octets after the header
abbrev pub frames_in : WaveHeader → ℕ → ℕ
frames_in header n = min n (taken_len header.format header.len) / frame_len header.format

-- the samples in the octets after the header, of which so many are samples
abbrev pub made_of : WaveFormat → Channels → ℕ → List ℕ → List ℕ
made_of f channels len b = frame_samples f channels (take len b)

abbrev pub cut_of : WaveFormat → ℕ → List ℕ → Option RunError
cut_of f len b = if left_over f (take len b) == 0 then None else Some (BadLength (left_over f (take len b)))

-- An input of octets that has taken b, and has handed the samples of their whole frames to another one, which has
-- refused none: where that refuses one of the two samples of a frame, it writes nothing of them.
-- before: the whole frames, behind which `begun` is the one that is begun
-- still: how many octets more may be samples
pub record Frames (f : WaveFormat) (channels : Channels) (len left : ℕ) (begun : List ℕ) (samples : InputState)
    (b : List ℕ) : Type 0 where
  pub frames : ℕ
  pub before : List ℕ
  pub octets : take len b ≡ before ++ begun
  pub whole : length before ≡ frames * frame_len f
  pub still : left ≡ len - length b
  pub taken : samples.follows (parts_of (two_samples f channels) (frame_len f) frames before)
  pub clean : first_fault samples.reads (parts_of (two_samples f channels) (frame_len f) frames before) ≡ None
  pub pairs : PairsAreOne samples.reads

-- frames as an input, whose samples are those of another one
abbrev pub frames_state : WaveFormat → Channels → ℕ → ℕ → List ℕ → InputState → InputState
frames_state f channels len left begun samples = record {
  reads = through (made_of f channels len) (cut_of f len) samples.reads;
  follows = Frames f channels len left begun samples;
  stopped = λ b. Unit {0};
  finished = λ b. Unit {0};
}
