-- What `from_pcm` makes of samples in a form, lowest byte first, channel 1 and then channel 2 of each frame.
use Rattle.std.specs.Prelude.{ℕ, List, [], ◌∷◌, ◌++◌, Bool, true, false, not, ◌&&◌, Some, None, ◌≡◌, ◌≢◌, ◌<◌, ◌≤◌, ◌+◌}
use Rattle.std.specs.Prelude.{◌%◌}
use Rattle.std.specs.Prelude.{◌==◌, IsTrue, length, take, drop, get_or, if◌then◌else◌}
use Rattle.aes3_cell.specs.declared.counts.Counts.{Counts}
use Rattle.aes3_refusals.specs.declared.run_error.RunError.{RunError}
use Rattle.aes3_refusals.specs.declared.run_error.RunError.TheVariants.{BadLength, BadSample, Read, Write, TooLong}
use Rattle.aes3_refusals.specs.declared.run_error.RunError.TheVariants.{SoundHeader}
use Rattle.aes3_files.specs.Sound.{begins_sound, sound_head_len}
use Rattle.aes3_frame.specs.Files.{bytes_number, words_of}
use Rattle.aes3_frame.specs.Sampled.{sampled, filled}
use Rattle.aes3_input.specs.Converting.{Reading}
use Rattle.aes3_input.specs.Running.{InputState, Promise}
use Rattle.aes3_forms_samples.specs.declared.sample_format.SampleFormat.{SampleFormat}
use Rattle.aes3_forms_samples.specs.declared.sample_format.SampleFormat.TheVariants.{S32, S24, S24In32, S16}
use Rattle.aes3_forms_samples.specs.Formats.{asks_exact, block_len, frame_len, widened}
use Rattle.aes3_status.specs.declared.change.Change.{Change}
use Rattle.aes3_forms_words.specs.declared.alsa_am824.Words.{Words}
use Rattle.aes3_forms_words.specs.declared.alsa_am824.Words.TheVariants.{Own}
use Rattle.aes3_engine.specs.Rewriting.{rewritten_blocks}
use Rattle.aes3_engine.specs.Words.{words_file}

-- the block file of samples, as far as they are whole blocks, each with its channel status set, its words in a form
unfoldable pub sample_file : Words → Change → List ℕ → List ℕ
sample_file form change words = words_file form (rewritten_blocks change (sampled words))

-- the samples of bytes in a form, as words of 32 bits
abbrev pub words_in : SampleFormat → List ℕ → List ℕ
words_in pcm b = words_of (widened pcm b)

-- those of 32 bits; where only 24 bits are taken, those before the first that has more: its lowest byte is not zero
abbrev pub exact_words : List ℕ → List ℕ
exact_words (a ∷ b ∷ c ∷ d ∷ rest) = if a == 0 then bytes_number (a ∷ b ∷ c ∷ d ∷ []) ∷ exact_words rest else []
exact_words _ = []

abbrev pub sample_words : SampleFormat → Bool → List ℕ → List ℕ
sample_words S32 exact b = if exact then exact_words b else words_of b
sample_words S24 exact b = words_in S24 b
sample_words S24In32 exact b = words_in S24In32 b
sample_words S16 exact b = words_in S16 b

-- what is written of whole samples, and behind which more may come
abbrev pub pcm_words : SampleFormat → Words → Change → List ℕ → List ℕ
pcm_words pcm form change b = sample_file form change (filled (words_in pcm b))

abbrev pub begun_pcm : SampleFormat → Bool → Words → Change → List ℕ → List ℕ
begun_pcm pcm exact form change b = if begins_sound b then [] else sample_file form change (sample_words pcm exact b)

-- the block file of samples of 32 bits in its own words
abbrev pub pcm_file : Change → List ℕ → List ℕ
pcm_file change b = pcm_words S32 Own change b

-- where only 24 bits are taken, the lowest byte of each sample is zero
abbrev pub AllExact : Bool → List ℕ → Type 0
AllExact exact b = exact ≡ true → (i : ℕ) → i % 4 ≡ 0 → get_or b i 0 ≡ 0

-- no sample is refused, and they don't begin with the head of a sound file
pub record AreSamples (exact : Bool) (b : List ℕ) : Type 0 where
  pub bits : AllExact exact b
  pub samples : begins_sound b ≡ false

-- they begin with it, and no sample before its end is refused
pub record IsSound (exact : Bool) (b : List ℕ) : Type 0 where
  pub header : begins_sound b ≡ true
  pub bits : AllExact exact (take sound_head_len b)

-- whole frames, of two samples each
pub record IsPcm (pcm : SampleFormat) (exact : Bool) (b : List ℕ) : Type 0 where
  pub whole : length b % frame_len pcm ≡ 0
  pub clean : AreSamples (asks_exact pcm exact) b

-- byte number `at` is the lowest one of a sample and is not zero, and none before it is refused
pub record BadSampleAt (exact : Bool) (b : List ℕ) (at : ℕ) : Type 0 where
  pub asked : exact ≡ true
  pub within : at < length b
  pub lowest : at % 4 ≡ 0
  pub some : get_or b at 0 ≢ 0
  pub first : (i : ℕ) → i < at → i % 4 ≡ 0 → get_or b i 0 ≡ 0
  pub samples : begins_sound (take at b) ≡ false

-- the bytes end inside a frame
pub record EndsInFrame (pcm : SampleFormat) (exact : Bool) (b : List ℕ) (left : ℕ) : Type 0 where
  pub clean : AreSamples (asks_exact pcm exact) b
  pub count : left ≡ length b % frame_len pcm
  pub some : 0 < left

-- why a run that read the bytes b was refused
abbrev pub IsPcmCause : SampleFormat → Bool → ℕ → List ℕ → Bool → RunError → Type 0
IsPcmCause pcm exact max b ended (BadSample at) = BadSampleAt (asks_exact pcm exact) (take max b) at
IsPcmCause pcm exact max b ended (BadLength left) = EndsInFrame pcm exact b left × (length b ≤ max) × IsTrue ended
IsPcmCause pcm exact max b ended SoundHeader = IsSound (asks_exact pcm exact) (take max b)
IsPcmCause pcm exact max b ended TooLong = AreSamples (asks_exact pcm exact) (take max b) × (length b ≡ max + 1)
IsPcmCause pcm exact max b ended Read = AreSamples (asks_exact pcm exact) b × (length b ≤ max)
IsPcmCause pcm exact max b ended Write = length b ≤ max + 1
IsPcmCause pcm exact max b ended e = ⊥

-- what a run over whole samples counts
unfoldable pub pcm_counts : SampleFormat → List ℕ → Counts
pcm_counts pcm b = record {
  bytes = length b;
  cells = 0;
  blocks = length (sampled (filled (words_in pcm b)));
  faults = 0;
  unfinished = 0;
  marks = 0;
}

-- what `from_pcm` promises
abbrev pub sampled_words : SampleFormat → Bool → Words → Change → Promise Counts
sampled_words pcm exact form change = record {
  input = IsPcm pcm exact;
  whole = pcm_words pcm form change;
  begun = begun_pcm pcm exact form change;
  answer = λ b n. n ≡ pcm_counts pcm b;
  cause = IsPcmCause pcm exact;
}

abbrev pub sampled_file : Bool → Change → Promise Counts
sampled_file exact change = sampled_words S32 exact Own change

-- byte by byte: what is written of the bytes with one more, or with the end, and not of the bytes alone
abbrev pub is_low : Bool → List ℕ → ℕ → Bool
is_low exact b x = exact && (length b % 4) == 0 && not (x == 0)

abbrev pub more_of : List ℕ → List ℕ → List ℕ
more_of before all = drop (length before) all

unfoldable pub sampling : SampleFormat → Bool → Words → Change → Reading
sampling pcm exact form change = record {
  fault = λ b x.
      if is_low (asks_exact pcm exact) b x then Some (BadSample (length b))
      else if begins_sound (b ++ x ∷ []) then Some SoundHeader else None;
  adds = λ b x.
      more_of (sample_file form change (words_in pcm b)) (sample_file form change (words_in pcm (b ++ x ∷ [])));
  end_fault = λ b. if (length b % frame_len pcm) == 0 then None else Some (BadLength (length b % frame_len pcm));
  ends = λ b. more_of (sample_file form change (words_in pcm b)) (pcm_words pcm form change b);
}

-- an input that has taken the bytes b: the blocks that are whole, and the bytes of the one that is begun
pub record Samples (pcm : SampleFormat) (exact : Bool) (seen at : ℕ) (begun b : List ℕ) : Type 0 where
  pub before : List ℕ
  pub whole : length before % block_len pcm ≡ 0
  pub bytes : b ≡ before ++ take at begun
  pub count : seen ≡ length b
  pub clean : AreSamples (asks_exact pcm exact) b

-- samples as an input of which `seen` bytes have come, with the bytes of the block that is begun; its taker is the
-- change of each block's channel status
abbrev pub sampling_state : SampleFormat → Bool → Words → ℕ → ℕ → List ℕ → Change → InputState
sampling_state pcm exact form seen at begun change = record {
  reads = sampling pcm exact form change;
  follows = Samples pcm exact seen at begun;
  stopped = λ b. Unit {0};
  finished = λ b. Unit {0};
}
