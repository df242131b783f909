-- A whole run over the octets after the header of a WAV file.
use Rattle.std.proofs.Common.{inl, inr, ◌≡◌, ◌≢◌, ℕ, ◌+◌, ◌-◌, ◌*◌, ◌/◌, ◌%◌, ◌<◌, ◌≤◌, List, ◌++◌, Option, Some, None}
use Rattle.std.proofs.Common.{Bool, Ok, Err, length, take, min, refl, sym, ap, ap₂, ◌∙◌}
use Rattle.std.proofs.Common.{subst, arith, eq-eqb, ne_eqb}
use Rattle.std.specs.Prelude.{if◌then◌else◌}
use Rattle.std.specs.Int.{div_ceil}
use Rattle.std.proofs.lemmas.Bool.{cases_eq, cases_lt}
use Rattle.std.proofs.lemmas.List.{drop_at, length-append, length-take, take_all}
use Rattle.std.proofs.lemmas.Option.{none-some, same_Some}
use Rattle.std.proofs.Math.Seq.{take-append-add}
use Rattle.aes3_cell.specs.declared.counts.Counts.{Counts}
use Rattle.aes3_refusals.specs.declared.run_error.RunError.{RunError}
use Rattle.aes3_refusals.specs.declared.run_error.RunError.TheVariants.{BadCell, BadLength, BadCode, BadParity, Read, Write}
use Rattle.aes3_refusals.specs.declared.run_error.RunError.TheVariants.{TooLong, Memory, BadStatusText, BadPadding, BadSample}
use Rattle.aes3_refusals.specs.declared.run_error.RunError.TheVariants.{SoundHeader, Inexact}
use Rattle.aes3_cell.proofs.Growing.{front-is, grew-is}
use Rattle.aes3_input.specs.Converting.{Reading, first_fault, or_else, out, whole}
use Rattle.aes3_input.specs.Running.{Complete, Ends, InputRan, InputRun, IsFault, IsFaultless}
use Rattle.aes3_input.specs.Running.{Promise, converted}
use Rattle.aes3_input.proofs.InputRuns.{Gives}
use Rattle.aes3_forms_samples.specs.declared.sample_format.SampleFormat.TheVariants.{S32}
use Rattle.aes3_forms_samples.specs.Formats.{block_len}
use Rattle.aes3_status.specs.declared.change.Change.{Change}
use Rattle.aes3_forms_words.specs.declared.alsa_am824.Words.{Words}
use Rattle.aes3_engine.specs.Sampling.{AreSamples, BadSampleAt, IsPcm, IsSound, begun_pcm, pcm_counts, pcm_words}
use Rattle.aes3_engine.specs.Sampling.{sampled_words, sampling}
use Rattle.aes3_engine.proofs.SampleReads.{clean-all, end-whole}
use Rattle.aes3_engine.proofs.SampleRuns.{pcm-counted, sampling-gives}
use Rattle.aes3_wave.specs.declared.chunk.WaveHeader.{WaveHeader}
use Rattle.aes3_wave.specs.declared.wave_format.Container.{Container}
use Rattle.aes3_wave.specs.declared.wave_format.Container.TheVariants.{Octets1, Octets2, Octets3, Octets4}
use Rattle.aes3_wave.specs.declared.wave_format.WaveFormat.{WaveFormat}
use Rattle.aes3_wave.specs.declared.channels.Channels.{Channels}
use Rattle.aes3_wave.specs.Formats.{container_len, frame_len}
use Rattle.aes3_wave.specs.Samples.{samples_of, two_samples, up_to}
use Rattle.aes3_wave_runs.specs.Frames.{all_parts, left_over}
use Rattle.aes3_wave_runs.specs.Through.{through}
use Rattle.aes3_wave_runs.specs.Wave.{IsWave, IsWaveCause, cut_of, file_left, file_samples, frames_in}
use Rattle.aes3_wave_runs.specs.Wave.{SamplesRun, frames_most, limit_of, made_of, taken_len, wave_counts, wave_file}
use Rattle.aes3_wave_runs.proofs.FramePairs.{pairs-are-one}
use Rattle.aes3_wave_runs.proofs.FrameSteps.{eight, grows, length-made}
use Rattle.aes3_wave_runs.proofs.Parts.{length-all}
use Rattle.aes3_wave_runs.proofs.Through.{Grows, all-through, first-through, whole-through}

-- ---- one promise of some octets as another one of others

-- what one promise says of the octets d, of m at most, another one says of b, of most at most
pub record As {A B : Type 0} (p : Promise A) (q : Promise B) (m most : ℕ) (d b : List ℕ) (ended : Bool) : Type 0 where
  pub short : length d ≤ m → length b ≤ most
  pub input : p.input d → length d ≤ m → q.input b
  pub whole : p.input d → length d ≤ m → p.whole d ≡ q.whole b
  pub begun : p.begun (take m d) ≡ q.begun (take most b)
  pub cause : (e : RunError) → p.cause m d ended e → q.cause most b ended e

as-complete : {A B : Type 0} (p : Promise A) (q : Promise B) (m most : ℕ) (d b : List ℕ) (ended : Bool)
    → As p q m most d b ended → Complete p.input m d ended → Complete q.input most b ended
as-complete p q m most d b ended a c =
    record { input = a.input c.input c.short; short = a.short c.short; end = c.end }

pub as-ok : {A B : Type 0} (p : Promise A) (q : Promise B) (m most : ℕ) (d b : List ℕ) (ends : Ends)
    (x : A) (y : B) → As p q m most d b ends.ended
    → (p.input d → length d ≤ m → p.answer d x → q.answer b y) → InputRan p m d ends (Ok x)
    → InputRan q most b ends (Ok y)
as-ok p q m most d b ends x y a k r = (
  as-complete p q m most d b ends.ended a r.0,
  k r.0.input r.0.short r.1,
  r.2,
  r.3,
  grew-is (a.whole r.0.input r.0.short) r.4,
  r.5,
)

pub as-err : {A B : Type 0} (p : Promise A) (q : Promise B) (m most : ℕ) (d b : List ℕ) (ends : Ends)
    (e : RunError) → As p q m most d b ends.ended
    → InputRan p m d ends (Err e) → InputRan q most b ends (Err e)
as-err p q m most d b ends Write a r = (
  r.0,
  r.1,
  elim r.2 [
    | inl f ↦ inl (front-is a.begun f)
    | inr f ↦ inr (as-complete p q m most d b ends.ended a f.0, front-is (a.whole f.0.input f.0.short) f.1)
  ],
)
as-err p q m most d b ends Read a r = (a.cause Read r.0, r.1, r.2, grew-is a.begun r.3)
as-err p q m most d b ends e a r = (a.cause e r.0, r.1, r.2, grew-is a.begun r.3)

-- ---- the samples of a file by the octets after its header

up-to-taken : (f : WaveFormat) (len : Option ℕ) (d : List ℕ) → length d ≤ frames_most f
    → up_to len d ≡ take (taken_len f len) d
up-to-taken f None d h = sym (take_all (frames_most f) d h)
up-to-taken f (Some n) d h = elim (cases_lt (frames_most f) n) [
  | inl q ↦
      (let e : min n (frames_most f) ≡ frames_most f = omega (arith, q) in
      take_all n d (omega (arith, q)) ∙ sym (ap (λ k. take k d) e ∙ take_all (frames_most f) d h))
  | inr q ↦ let e : min n (frames_most f) ≡ n = omega (arith, q) in ap (λ k. take k d) (sym e)
]

pub octets-behind : (header : WaveHeader) (head d : List ℕ) → length head ≡ header.start
    → length d ≤ frames_most header.format
    → samples_of header (head ++ d) ≡ take (taken_len header.format header.len) d
octets-behind header head d e h =
    ap (up_to header.len) (drop_at head d header.start e) ∙ up-to-taken header.format header.len d h

pub samples-behind : (header : WaveHeader) (channels : Channels) (head d : List ℕ) → length head ≡ header.start
    → length d ≤ frames_most header.format
    → file_samples header channels (head ++ d)
    ≡ made_of header.format channels (taken_len header.format header.len) d
samples-behind header channels head d e h =
    ap (all_parts (two_samples header.format channels) (frame_len header.format)) (octets-behind header head d e h)

take-behind : (head d : List ℕ) (start m : ℕ) → length head ≡ start → take (start + m) (head ++ d) ≡ head ++ take m d
take-behind head d start m e = ap (λ n. take (n + m) (head ++ d)) (sym e) ∙ take-append-add head d m

-- ---- faults

or-none : (a b : Option RunError) → or_else a b ≡ None → (a ≡ None) × (b ≡ None)
or-none None b h = (refl, h)
or-none (Some e) b h = absurd (none-some _ (sym h))

cut-whole : (f : WaveFormat) (len : ℕ) (d : List ℕ) → cut_of f len d ≡ None → left_over f (take len d) ≡ 0
cut-whole f len d h = elim (cases_eq (left_over f (take len d)) 0) [
  | inl q ↦ q
  | inr q ↦
      absurd (none-some (BadLength (left_over f (take len d)))
      (sym h ∙ ap (λ (t : Bool). if t then None else Some (BadLength (left_over f (take len d))))
      (ne_eqb (left_over f (take len d)) 0 q)))
]

-- what the end refuses: only octets that are left over of a frame
end-cause : (f : WaveFormat) (channels : Channels) (len : ℕ) (exact : Bool) (form : Words) (k : Change) (d : List ℕ)
    (e : RunError)
    → or_else (cut_of f len d) ((sampling S32 exact form k).end_fault (made_of f channels len d)) ≡ Some e
    → (e ≡ BadLength (left_over f (take len d))) × (0 < left_over f (take len d))
end-cause f channels len exact form k d e h = elim (cases_eq (left_over f (take len d)) 0) [
  | inl q ↦
      absurd (none-some e
      (sym (ap (λ (t : Bool). or_else (if t then None else Some (BadLength (left_over f (take len d))))
      ((sampling S32 exact form k).end_fault (made_of f channels len d))) (eq-eqb (left_over f (take len d)) 0 q)
      ∙ end-whole S32 exact form k (made_of f channels len d) (length-made f channels len d)) ∙ h))
  | inr q ↦
      (let c = ap (λ (t : Bool). or_else (if t then None else Some (BadLength (left_over f (take len d))))
      ((sampling S32 exact form k).end_fault (made_of f channels len d))) (ne_eqb (left_over f (take len d)) 0 q) in
      (sym (same_Some _ _ (sym c ∙ h)), omega (arith, q)))
]

-- the cause of a refusal of the samples, whatever the limit
abbrev SamplesCause : Bool → List ℕ → RunError → Type 0
SamplesCause exact c (BadSample at) = BadSampleAt exact c at
SamplesCause exact c SoundHeader = IsSound exact c
SamplesCause exact c e = ⊥

samples-cause : (exact : Bool) (form : Words) (k : Change) (c : List ℕ) (ended : Bool) (e : RunError)
    → length c % 8 ≡ 0 → e ≢ Read → e ≢ Write → e ≢ TooLong
    → first_fault (sampling S32 exact form k) c ≡ Some e → SamplesCause exact c e
samples-cause exact form k c ended e h read write long q = go e q read write long
  where
    z : List ℕ → Type 0
    z b = Unit {0}

    gives : Gives (converted (sampling S32 exact form k) z) (sampled_words S32 exact form k)
    gives = sampling-gives S32 exact form k z

    all : take (length c) c ≡ c
    all = take_all (length c) c (omega arith)

    here : (e : RunError) → first_fault (sampling S32 exact form k) c ≡ Some e
        → first_fault (sampling S32 exact form k) (take (length c) c) ≡ Some e
    here e q = ap (first_fault (sampling S32 exact form k)) all ∙ q

    go : (e : RunError) → first_fault (sampling S32 exact form k) c ≡ Some e → e ≢ Read → e ≢ Write → e ≢ TooLong
        → SamplesCause exact c e
    go (BadSample at) q read write long =
        subst (λ v. BadSampleAt exact v at) all (gives.cause (length c) c ended (BadSample at) (inl (here (BadSample at) q)))
    go SoundHeader q read write long =
        subst (IsSound exact) all (gives.cause (length c) c ended SoundHeader (inl (here SoundHeader q)))
    go (BadLength left) q read write long =
        let w = gives.cause (length c) c ended (BadLength left) (inl (here (BadLength left) q)) in
        let n = w.0.count in
        let some = w.0.some in
        absurd (omega arith)
    go Read q read write long = absurd (read refl)
    go Write q read write long = absurd (write refl)
    go TooLong q read write long = absurd (long refl)
    go (BadCell at) q read write long = gives.cause (length c) c ended (BadCell at) (inl (here (BadCell at) q))
    go (BadCode at) q read write long = gives.cause (length c) c ended (BadCode at) (inl (here (BadCode at) q))
    go (BadParity at) q read write long = gives.cause (length c) c ended (BadParity at) (inl (here (BadParity at) q))
    go Memory q read write long = gives.cause (length c) c ended Memory (inl (here Memory q))
    go BadStatusText q read write long = gives.cause (length c) c ended BadStatusText (inl (here BadStatusText q))
    go (BadPadding at) q read write long = gives.cause (length c) c ended (BadPadding at) (inl (here (BadPadding at) q))
    go (Inexact at) q read write long = gives.cause (length c) c ended (Inexact at) (inl (here (Inexact at) q))

-- ---- the run

-- how the samples of a file are read octet by octet after its header
abbrev pub reading_of : WaveHeader → Channels → Bool → Words → Change → Reading
reading_of header channels exact form k =
    through (made_of header.format channels (taken_len header.format header.len))
    (cut_of header.format (taken_len header.format header.len)) (sampling S32 exact form k)

-- octets that a header has, and how many may come after it
pub record Behind (header : WaveHeader) (head : List ℕ) (m : ℕ) : Type 0 where
  pub start : length head ≡ header.start
  pub few : m ≤ frames_most header.format
  pub some : 0 < frame_len header.format

behind-grows : (header : WaveHeader) (channels : Channels) (exact : Bool) (form : Words) (k : Change)
    → 0 < frame_len header.format
    → Grows (made_of header.format channels (taken_len header.format header.len)) (sampling S32 exact form k)
behind-grows header channels exact form k some =
    grows header.format channels (taken_len header.format header.len) (sampling S32 exact form k)
    (pairs-are-one exact form k) some

behind-begun : (header : WaveHeader) (channels : Channels) (exact : Bool) (form : Words) (k : Change) (head : List ℕ)
    (m : ℕ) (d : List ℕ) → Behind header head m
    → out (reading_of header channels exact form k) (take m d)
    ≡ begun_pcm S32 exact form k (file_samples header channels (take (header.start + m) (head ++ d)))
behind-begun header channels exact form k head m d h =
    let l = length-take m d in
    let few = h.few in
    all-through (made_of header.format channels (taken_len header.format header.len))
    (cut_of header.format (taken_len header.format header.len)) (sampling S32 exact form k)
    (behind-grows header channels exact form k h.some) (take m d)
    ∙ (sampling-gives S32 exact form k (λ b. Unit {0})).begun
    (made_of header.format channels (taken_len header.format header.len) (take m d))
    ∙ ap (begun_pcm S32 exact form k)
    (sym (samples-behind header channels head (take m d) h.start (omega arith))
    ∙ ap (file_samples header channels) (sym (take-behind head d header.start m h.start)))

behind-clean : (header : WaveHeader) (channels : Channels) (exact : Bool) (form : Words) (k : Change) (d : List ℕ)
    → 0 < frame_len header.format → first_fault (reading_of header channels exact form k) d ≡ None
    → AreSamples exact (made_of header.format channels (taken_len header.format header.len) d)
behind-clean header channels exact form k d some c =
    clean-all S32 exact form k (made_of header.format channels (taken_len header.format header.len) d)
    (sym (first-through (made_of header.format channels (taken_len header.format header.len))
    (cut_of header.format (taken_len header.format header.len)) (sampling S32 exact form k)
    (behind-grows header channels exact form k some) d) ∙ c)

-- samples and their end without a fault
behind-faultless : (header : WaveHeader) (channels : Channels) (exact : Bool) (form : Words) (k : Change) (d : List ℕ)
    → 0 < frame_len header.format → IsFaultless (reading_of header channels exact form k) d
    → IsFaultless (sampling S32 exact form k) (made_of header.format channels (taken_len header.format header.len) d)
    × (left_over header.format (take (taken_len header.format header.len) d) ≡ 0)
unfolding through
behind-faultless header channels exact form k d some c =
    let e = or-none (cut_of header.format (taken_len header.format header.len) d)
    ((sampling S32 exact form k).end_fault (made_of header.format channels (taken_len header.format header.len) d))
    c.end_clean in (
      record {
        clean = sym (first-through (made_of header.format channels (taken_len header.format header.len))
            (cut_of header.format (taken_len header.format header.len)) (sampling S32 exact form k)
            (behind-grows header channels exact form k some) d) ∙ c.clean;
        end_clean = e.1;
      },
      cut-whole header.format (taken_len header.format header.len) d e.0,
    )

behind-whole : (header : WaveHeader) (channels : Channels) (exact : Bool) (form : Words) (k : Change) (head : List ℕ)
    (m : ℕ) (d : List ℕ) → Behind header head m → IsFaultless (reading_of header channels exact form k) d
    → length d ≤ m
    → whole (reading_of header channels exact form k) d
    ≡ pcm_words S32 form k (file_samples header channels (head ++ d))
behind-whole header channels exact form k head m d h c l =
    let few = h.few in
    whole-through (made_of header.format channels (taken_len header.format header.len))
    (cut_of header.format (taken_len header.format header.len)) (sampling S32 exact form k)
    (behind-grows header channels exact form k h.some) d
    ∙ (sampling-gives S32 exact form k (λ b. Unit {0})).whole
    (made_of header.format channels (taken_len header.format header.len) d)
    (behind-faultless header channels exact form k d h.some c).0
    ∙ ap (pcm_words S32 form k) (sym (samples-behind header channels head d h.start (omega arith)))

behind-input : (header : WaveHeader) (channels : Channels) (exact : Bool) (form : Words) (k : Change) (head : List ℕ)
    (m : ℕ) (d : List ℕ) → Behind header head m → IsFaultless (reading_of header channels exact form k) d
    → length d ≤ m → IsWave header channels exact (head ++ d)
behind-input header channels exact form k head m d h c l =
    let few = h.few in
    let f = behind-faultless header channels exact form k d h.some c in
    record {
      whole = ap (λ v. length v % frame_len header.format) (octets-behind header head d h.start (omega arith)) ∙ f.1;
      samples = subst (IsPcm S32 exact) (sym (samples-behind header channels head d h.start (omega arith)))
          ((sampling-gives S32 exact form k (λ b. Unit {0})).input
          (made_of header.format channels (taken_len header.format header.len) d) f.0);
    }

-- a refusal of a sample or of the end
behind-fault : (header : WaveHeader) (channels : Channels) (exact : Bool) (form : Words) (k : Change) (head : List ℕ)
    (m : ℕ) (d : List ℕ) (ended : Bool) (e : RunError) → Behind header head m → e ≢ Read → e ≢ Write → e ≢ TooLong
    → IsFault (reading_of header channels exact form k) m d ended e
    → IsWaveCause header channels exact (header.start + m) (head ++ d) ended e
unfolding through
behind-fault header channels exact form k head m d ended e h read write long w = go e read write long w
  where
    len : ℕ
    len = taken_len header.format header.len

    samples : length d ≤ m → file_samples header channels (head ++ d) ≡ made_of header.format channels len d
    samples l = let few = h.few in samples-behind header channels head d h.start (omega arith)

    front : file_samples header channels (take (header.start + m) (head ++ d))
        ≡ made_of header.format channels len (take m d)
    front =
        let l = length-take m d in
        let few = h.few in
        ap (file_samples header channels) (take-behind head d header.start m h.start)
        ∙ samples-behind header channels head (take m d) h.start (omega arith)

    first : (e : RunError) → first_fault (reading_of header channels exact form k) (take m d) ≡ Some e
        → first_fault (sampling S32 exact form k) (made_of header.format channels len (take m d)) ≡ Some e
    first e q =
        sym (first-through (made_of header.format channels len) (cut_of header.format len) (sampling S32 exact form k)
        (behind-grows header channels exact form k h.some) (take m d)) ∙ q

    cause : (e : RunError) → e ≢ Read → e ≢ Write → e ≢ TooLong
        → first_fault (reading_of header channels exact form k) (take m d) ≡ Some e
        → SamplesCause exact (made_of header.format channels len (take m d)) e
    cause e read write long q =
        samples-cause exact form k (made_of header.format channels len (take m d)) ended e
        (length-made header.format channels len (take m d)) read write long (first e q)

    other : (e : RunError) → ((n : ℕ) → e ≢ BadLength n)
        → (reading_of header channels exact form k).end_fault d ≡ Some e → ⊥
    other e none q = none _ (end-cause header.format channels len exact form k d e q).0

    go : (e : RunError) → e ≢ Read → e ≢ Write → e ≢ TooLong
        → IsFault (reading_of header channels exact form k) m d ended e
        → IsWaveCause header channels exact (header.start + m) (head ++ d) ended e
    go Read read write long w = absurd (read refl)
    go Write read write long w = absurd (write refl)
    go TooLong read write long w = absurd (long refl)
    go (BadSample at) read write long w = elim w [
      | inl q ↦ subst (λ v. BadSampleAt exact v at) (sym front) (cause (BadSample at) read write long q)
      | inr q ↦ absurd (other (BadSample at) (λ n. λ z. cc) q.1)
    ]
    go SoundHeader read write long w = elim w [
      | inl q ↦ subst (IsSound exact) (sym front) (cause SoundHeader read write long q)
      | inr q ↦ absurd (other SoundHeader (λ n. λ z. cc) q.1)
    ]
    go (BadLength left) read write long w = elim w [
      | inl q ↦ absurd (cause (BadLength left) read write long q)
      | inr q ↦
          (let short = q.0.clean.short in
          let c = end-cause header.format channels len exact form k d (BadLength left) q.1 in
          let n : left ≡ left_over header.format (take len d) = same c.0 in
          let few = h.few in
          let o : file_left header (head ++ d) ≡ left_over header.format (take len d)
          = ap (λ v. length v % frame_len header.format) (octets-behind header head d h.start (omega arith)) in
          let l = length-append head d in
          let s = h.start in
          let some = c.1 in (
            record {
              clean = subst (AreSamples exact) (sym (samples short))
                  (behind-clean header channels exact form k d h.some q.0.clean.clean);
              count = n ∙ sym o;
              some = omega arith;
            },
            omega arith,
            q.0.end,
          ))
    ]
      where
        same : {n : ℕ} → ◌≡◌ {A = RunError} (BadLength left) (BadLength n) → left ≡ n
        same z = cc
    go (BadCell at) read write long w = elim w [
      | inl q ↦ cause (BadCell at) read write long q
      | inr q ↦ other (BadCell at) (λ n. λ z. cc) q.1
    ]
    go (BadCode at) read write long w = elim w [
      | inl q ↦ cause (BadCode at) read write long q
      | inr q ↦ other (BadCode at) (λ n. λ z. cc) q.1
    ]
    go (BadParity at) read write long w = elim w [
      | inl q ↦ cause (BadParity at) read write long q
      | inr q ↦ other (BadParity at) (λ n. λ z. cc) q.1
    ]
    go Memory read write long w = elim w [
      | inl q ↦ cause Memory read write long q
      | inr q ↦ other Memory (λ n. λ z. cc) q.1
    ]
    go BadStatusText read write long w = elim w [
      | inl q ↦ cause BadStatusText read write long q
      | inr q ↦ other BadStatusText (λ n. λ z. cc) q.1
    ]
    go (BadPadding at) read write long w = elim w [
      | inl q ↦ cause (BadPadding at) read write long q
      | inr q ↦ other (BadPadding at) (λ n. λ z. cc) q.1
    ]
    go (Inexact at) read write long w = elim w [
      | inl q ↦ cause (Inexact at) read write long q
      | inr q ↦ other (Inexact at) (λ n. λ z. cc) q.1
    ]

behind-cause : (header : WaveHeader) (channels : Channels) (exact : Bool) (form : Words) (k : Change) (head : List ℕ)
    (m : ℕ) (d : List ℕ) (ended : Bool) (e : RunError) → Behind header head m
    → IsFault (reading_of header channels exact form k) m d ended e
    → IsWaveCause header channels exact (header.start + m) (head ++ d) ended e
behind-cause header channels exact form k head m d ended Read h w =
    let short = w.short in
    let few = h.few in
    let l = length-append head d in
    let s = h.start in (
      subst (AreSamples exact) (sym (samples-behind header channels head d h.start (omega arith)))
          (behind-clean header channels exact form k d h.some w.clean),
      omega arith,
    )
behind-cause header channels exact form k head m d ended Write h w =
    let l = length-append head d in let s = h.start in omega arith
behind-cause header channels exact form k head m d ended TooLong h w =
    let n = length-take m d in
    let few = h.few in
    let l = length-append head d in
    let s = h.start in
    let long = w.1 in (
      subst (AreSamples exact)
          (sym (ap (file_samples header channels) (take-behind head d header.start m h.start)
          ∙ samples-behind header channels head (take m d) h.start (omega arith)))
          (behind-clean header channels exact form k (take m d) h.some w.0.clean),
      omega arith,
    )
behind-cause header channels exact form k head m d ended e h w =
    behind-fault header channels exact form k head m d ended e h (λ z. cc) (λ z. cc) (λ z. cc) w

pub as-wave : (header : WaveHeader) (channels : Channels) (exact : Bool) (form : Words) (k : Change) (head : List ℕ)
    (m : ℕ) (d : List ℕ) (ended : Bool) (z : List ℕ → Type 0) → Behind header head m
    → As (converted (reading_of header channels exact form k) z) (wave_file header channels exact form k) m
    (header.start + m) d (head ++ d) ended
as-wave header channels exact form k head m d ended z h = record {
  short = λ l. let n = length-append head d in let s = h.start in omega arith;
  input = λ c l. behind-input header channels exact form k head m d h c l;
  whole = λ c l. behind-whole header channels exact form k head m d h c l;
  begun = behind-begun header channels exact form k head m d h;
  cause = λ e w. behind-cause header channels exact form k head m d ended e h w;
}

-- what it counts
pub wave-counted : (header : WaveHeader) (channels : Channels) (exact : Bool) (head : List ℕ) (m : ℕ) (d : List ℕ)
    (n len frames blocks : ℕ) → Behind header head m → length d ≤ m → n ≡ length d → len ≡ block_len S32
    → frames ≡ frames_in header n → blocks ≡ div_ceil (8 * frames) len
    → ◌≡◌ {A = Counts}
    (record { bytes = header.start + n; cells = 0; blocks = blocks; faults = 0; unfinished = 0; marks = 0 })
    (wave_counts header channels (head ++ d))
unfolding wave_counts
wave-counted header channels exact head m d n len frames blocks h l e q c s =
    let most = taken_len header.format header.len in
    let made = made_of header.format channels most d in
    let few = h.few in
    let p = samples-behind header channels head d h.start (omega arith) in
    let t = length-take most d in
    let i : min n most ≡ length (take most d) = omega arith in
    let k : length made ≡ 8 * frames
    = length-all (two_samples header.format channels) (frame_len header.format) (take most d)
    (eight header.format channels) ∙ ap (λ v. 8 * v) (sym (c ∙ ap (λ v. v / frame_len header.format) i)) in
    let w = pcm-counted S32 made (length made) blocks len refl (length-made header.format channels most d) q
    (s ∙ ap (λ v. div_ceil v len) (sym k)) in
    let b : header.start + n ≡ length (head ++ d) = let a = length-append head d in let o = h.start in omega arith in
    let o : blocks ≡ (pcm_counts S32 (file_samples header channels (head ++ d))).blocks
    = ap (λ (v : Counts). v.blocks) w ∙ ap (λ v. (pcm_counts S32 v).blocks) (sym p) in
    ap₂ (λ u v. record { bytes = u; cells = 0; blocks = v; faults = 0; unfinished = 0; marks = 0 }) b o

-- a frame of at least one channel has octets
pub frame-some : (f : WaveFormat) (n : ℕ) → n < f.channels → 0 < frame_len f
frame-some f n h = go f.container h
  where
    go : (c : Container) → n < f.channels → 0 < f.channels * container_len c
    go Octets1 h = omega arith
    go Octets2 h = omega arith
    go Octets3 h = omega arith
    go Octets4 h = omega arith

-- the whole run, behind whatever octets the header has
behind-all : (header : WaveHeader) (head : List ℕ) (max m : ℕ) → length head ≡ header.start
    → m ≡ min (max - header.start) (frames_most header.format) → 0 < frame_len header.format → Behind header head m
behind-all header head max m q e some = record { start = q; few = omega arith; some = some }

pub samples-ok : (header : WaveHeader) (channels : Channels) (exact : Bool) (form : Words) (k : Change) (max m : ℕ)
    {z : List ℕ → Type 0} {ends : Ends} {n : ℕ} (x : Counts)
    → header.start ≤ max → m ≡ min (max - header.start) (frames_most header.format) → 0 < frame_len header.format
    → ((head d : List ℕ) → Behind header head m → length d ≤ m → n ≡ length d
    → x ≡ wave_counts header channels (head ++ d))
    → InputRun (converted (reading_of header channels exact form k) z) m ends (Ok n)
    → SamplesRun header (wave_file header channels exact form k) max ends (Ok x)
samples-ok header channels exact form k max m {z} {ends} {n} x start e some count r = record {
  rest = r.bytes;
  given = r.given;
  few = let l = r.few in omega arith;
  ran = λ head q.
      let h = behind-all header head max m q e some in
      subst (λ l. InputRan (wave_file header channels exact form k) l (head ++ r.bytes) ends (Ok x))
      (let w : header.start + m ≡ limit_of header max = omega arith in w)
      (as-ok (converted (reading_of header channels exact form k) z) (wave_file header channels exact form k) m
      (header.start + m) r.bytes (head ++ r.bytes) ends n x
      (as-wave header channels exact form k head m r.bytes ends.ended z h) (λ i l a. count head r.bytes h l a.1) r.ran);
}

pub samples-err : (header : WaveHeader) (channels : Channels) (exact : Bool) (form : Words) (k : Change) (max m : ℕ)
    {z : List ℕ → Type 0} {ends : Ends} {x : RunError}
    → header.start ≤ max → m ≡ min (max - header.start) (frames_most header.format) → 0 < frame_len header.format
    → InputRun (converted (reading_of header channels exact form k) z) m ends (Err x)
    → SamplesRun header (wave_file header channels exact form k) max ends (Err x)
samples-err header channels exact form k max m {z} {ends} {x} start e some r = record {
  rest = r.bytes;
  given = r.given;
  few = let l = r.few in omega arith;
  ran = λ head q.
      let h = behind-all header head max m q e some in
      subst (λ l. InputRan (wave_file header channels exact form k) l (head ++ r.bytes) ends (Err x))
      (let w : header.start + m ≡ limit_of header max = omega arith in w)
      (as-err (converted (reading_of header channels exact form k) z) (wave_file header channels exact form k) m
      (header.start + m) r.bytes (head ++ r.bytes) ends x
      (as-wave header channels exact form k head m r.bytes ends.ended z h) r.ran);
}
