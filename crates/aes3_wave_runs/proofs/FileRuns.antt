-- A run over a WAV file: its header, and then its samples.
use Rattle.std.proofs.Common.{inl, inr, ◌≡◌, ℕ, ◌+◌, ◌<◌, ◌≤◌, Bool, true, false, List, ◌++◌, Option, Some, None}
use Rattle.std.proofs.Common.{Result, Ok, Err, IsOk, ◌≢◌, get_or, length, nat_lt, refl, sym, ap, ◌∙◌, subst, arith}
use Rattle.std.specs.Option.{ForSome}
use Rattle.std.proofs.lemmas.Bool.{and_parts, ltb-true}
use Rattle.std.proofs.lemmas.List.{length-append, take_all}
use Rattle.aes3_cell.specs.Ends.{Grew, Told}
use Rattle.aes3_cell.specs.declared.counts.Counts.{Counts}
use Rattle.aes3_refusals.specs.declared.run_error.RunError.{RunError}
use Rattle.aes3_refusals.specs.declared.run_error.RunError.TheVariants.{BadLength, BadSample, Read, SoundHeader, TooLong, Write}
use Rattle.aes3_cell.proofs.Growing.{grew-join, told-is}
use Rattle.aes3_input.specs.Running.{Ends, InputRan, InputRun, Movement, Promise, Quiet}
use Rattle.aes3_input.proofs.InputRuns.{run-owed}
use Rattle.aes3_input.proofs.Pieces.{changed, ends_by}
use Rattle.aes3_forms_samples.specs.declared.sample_format.SampleFormat.TheVariants.{S32}
use Rattle.aes3_engine.specs.Sampling.{IsSound, pcm_words}
use Rattle.aes3_wave.specs.declared.chunk.WaveHeader.{WaveHeader}
use Rattle.aes3_wave.specs.declared.header_error.HeaderError.{HeaderError}
use Rattle.aes3_wave.specs.declared.wave_format.WaveFormat.{WaveFormat}
use Rattle.aes3_wave.specs.Headers.{at_end, judged}
use Rattle.aes3_wave.specs.declared.channels.Channels.{Channels}
use Rattle.aes3_wave.proofs.Parts.{decided-stays}
use Rattle.aes3_wave_runs.specs.declared.wave_error.WaveError.{WaveError}
use Rattle.aes3_wave_runs.specs.declared.wave_error.WaveError.TheVariants.{Header, NoChannel, Run}
use Rattle.aes3_wave_runs.specs.declared.options.Converted.{Converted}
use Rattle.aes3_wave_runs.specs.declared.options.WaveOptions.{WaveOptions}
use Rattle.aes3_wave_runs.specs.FromWav.{RanOn, WaveRan, WaveRun, change_for, channels_for, has_channels, has_second, promise_for}
use Rattle.aes3_wave_runs.specs.FromWav.{read_by}
use Rattle.aes3_wave_runs.specs.Headers.{HeaderRan, HeaderRun}
use Rattle.aes3_wave_runs.specs.Wave.{IsWave, IsWaveCause, SamplesRun, file_samples, limit_of}
use Rattle.aes3_wave_runs.proofs.HeaderRuns.{some-none}

-- a source that had not failed before
source-from : {A : Type 0} (p : Promise A) (max : ℕ) (b : List ℕ) (ended : Bool) (s₀ s₁ s : Option (List ℕ))
    (n₀ n₁ n : ℕ) (sink : Movement) (t : Option (List ℕ)) (r : Result A RunError) → n₁ ≡ n₀
    → InputRan p max b (ends_by ended (changed s₁ s n₁ n) sink t) r
    → InputRan p max b (ends_by ended (changed s₀ s n₀ n) sink t) r
source-from p max b ended s₀ s₁ s n₀ n₁ n sink t (Ok x) e r = (r.0, r.1, r.2 ∙ e, r.3, r.4, r.5)
source-from p max b ended s₀ s₁ s n₀ n₁ n sink t (Err Write) e r = (r.0 ∙ e, r.1, r.2)
source-from p max b ended s₀ s₁ s n₀ n₁ n sink t (Err Read) e r = (r.0, r.1 ∙ ap (λ k. k + 1) e, r.2, r.3)
source-from p max b ended s₀ s₁ s n₀ n₁ n sink t (Err x) e r = (r.0, r.1 ∙ e, r.2, r.3)

-- a whole header, and then a run over the samples
file-ran : (options : WaveOptions) (max : ℕ) (header : WaveHeader) (ended₁ ended : Bool) (s₀ s₁ s : Option (List ℕ))
    (n₀ n₁ n : ℕ) (sink : Movement) (t : Option (List ℕ)) (r : Result Counts RunError)
    → (h : HeaderRun max ended₁ (changed s₀ s₁ n₀ n₁) (Ok header))
    → (u : SamplesRun (read_by options.exact header) (promise_for options header) max
    (ends_by ended (changed s₁ s n₁ n) sink t) r)
    → RanOn options max header (h.bytes ++ u.rest) (ends_by ended (changed s₀ s n₀ n) sink t) r
file-ran options max header ended₁ ended s₀ s₁ s n₀ n₁ n sink t r h u = record {
  header_is = decided-stays h.bytes u.rest (λ q. some-none (sym h.ran.0 ∙ q)) ∙ h.ran.0;
  ran = source-from (promise_for options header) (limit_of header max)
      (h.bytes ++ u.rest) ended s₀ s₁ s n₀ n₁ n sink t r
      h.ran.3 (u.ran h.bytes h.ran.1);
}

file-few : (options : WaveOptions) (max : ℕ) (header : WaveHeader) (ended₁ ended : Bool) (s₀ s₁ s : Option (List ℕ))
    (n₀ n₁ n : ℕ) (sink : Movement) (t : Option (List ℕ)) (r : Result Counts RunError)
    → (h : HeaderRun max ended₁ (changed s₀ s₁ n₀ n₁) (Ok header))
    → (u : SamplesRun (read_by options.exact header) (promise_for options header) max
    (ends_by ended (changed s₁ s n₁ n) sink t) r)
    → length (h.bytes ++ u.rest) ≤ max + 1
file-few options max header ended₁ ended s₀ s₁ s n₀ n₁ n sink t r h u =
    let l = length-append h.bytes u.rest in
    let start = h.ran.1 in
    let short = h.ran.2 in
    let few = u.few in
    omega arith

pub file-ok : (options : WaveOptions) (max : ℕ) (header : WaveHeader) (ended₁ ended : Bool)
    (s₀ s₁ s : Option (List ℕ)) (n₀ n₁ n : ℕ) (sink : Movement) {t : Option (List ℕ)} (x : Counts)
    → HeaderRun max ended₁ (changed s₀ s₁ n₀ n₁) (Ok header)
    → SamplesRun (read_by options.exact header) (promise_for options header) max
    (ends_by ended (changed s₁ s n₁ n) sink t) (Ok x)
    → WaveRun options max (ends_by ended (changed s₀ s n₀ n) sink t) (Ok (record { header = header; counts = x }))
file-ok options max header ended₁ ended s₀ s₁ s n₀ n₁ n sink {t} x h u = record {
  bytes = h.bytes ++ u.rest;
  given = grew-join h.given u.given;
  few = file-few options max header ended₁ ended s₀ s₁ s n₀ n₁ n sink t (Ok x) h u;
  ran = file-ran options max header ended₁ ended s₀ s₁ s n₀ n₁ n sink t (Ok x) h u;
}

pub file-err : (options : WaveOptions) (max : ℕ) (header : WaveHeader) (ended₁ ended : Bool)
    (s₀ s₁ s : Option (List ℕ)) (n₀ n₁ n : ℕ) (sink : Movement) {t : Option (List ℕ)} (e : RunError)
    → HeaderRun max ended₁ (changed s₀ s₁ n₀ n₁) (Ok header)
    → SamplesRun (read_by options.exact header) (promise_for options header) max
    (ends_by ended (changed s₁ s n₁ n) sink t) (Err e)
    → WaveRun options max (ends_by ended (changed s₀ s n₀ n) sink t) (Err (Run e))
file-err options max header ended₁ ended s₀ s₁ s n₀ n₁ n sink {t} e h u = record {
  bytes = h.bytes ++ u.rest;
  given = grew-join h.given u.given;
  few = file-few options max header ended₁ ended s₀ s₁ s n₀ n₁ n sink t (Err e) h u;
  ran = inr (header, file-ran options max header ended₁ ended s₀ s₁ s n₀ n₁ n sink t (Err e) h u);
}

-- a channel that there is not
pub no-channel : (options : WaveOptions) (max : ℕ) (header : WaveHeader) (ended : Bool) (source : Movement)
    {p : Option (List ℕ)} (t : Option (List ℕ)) (k : ℕ) → HeaderRun max ended source (Ok header)
    → has_channels header.format (channels_for options header.format) ≡ false
    → WaveRun options max (ends_by ended source (changed t t k k) p) (Err (NoChannel header.format.channels))
no-channel options max header ended source t k h none = record {
  bytes = h.bytes;
  given = h.given;
  few = let short = h.ran.2 in omega arith;
  ran = ((header, h.ran.0, refl, none), h.ran.3, (refl, refl));
}

-- a header that is refused
header-few : (max : ℕ) (b : List ℕ) (ended : Bool) (source : Movement) (e : RunError)
    → HeaderRan max b ended source (Err (Run e)) → length b ≤ max + 1
header-few max b ended source Read r = let short = r.1 in omega arith
header-few max b ended source TooLong r = let long = r.1 in omega arith
header-few max b ended source e r = absurd r

pub no-header : (options : WaveOptions) (max : ℕ) (ended : Bool) (source : Movement) {p : Option (List ℕ)}
    (t : Option (List ℕ)) (k : ℕ) (e : WaveError) → HeaderRun max ended source (Err e)
    → WaveRun options max (ends_by ended source (changed t t k k) p) (Err e)
no-header options max ended source t k (Header e) h = record {
  bytes = h.bytes;
  given = h.given;
  few = let short = h.ran.1 in omega arith;
  ran = (h.ran.0, h.ran.1, h.ran.2, (refl, refl));
}
no-header options max ended source t k (NoChannel n) h = absurd h.ran
no-header options max ended source t k (Run e) h = record {
  bytes = h.bytes;
  given = h.given;
  few = header-few max h.bytes ended source e h.ran;
  ran = inl (h.ran, (refl, refl));
}

-- of a source that tells its octets
pub file-written : {options : WaveOptions} {max : ℕ} {ends : Ends} {n : Converted}
    → WaveRun options max ends (Ok n) → (b : List ℕ) → Told ends.source.old ends.source.new b
    → Grew ends.sink.old ends.sink.new (pcm_words S32 options.words (change_for options n.header.format)
    (file_samples (read_by options.exact n.header) (channels_for options n.header.format) b))
file-written {options} {ends = ends} {n = n} r b t =
    subst (λ v. Grew ends.sink.old ends.sink.new (pcm_words S32 options.words (change_for options n.header.format)
    (file_samples (read_by options.exact n.header) (channels_for options n.header.format) v))) (told-is r.given t) r.ran.ran.4

-- ---- what is owed

-- samples that fit have no cause
no-wave-cause : (header : WaveHeader) (channels : Channels) (exact : Bool) (max : ℕ) (b : List ℕ) (ended : Bool)
    → IsWave header channels exact b → length b ≤ max
    → (e : RunError) → e ≢ Read → e ≢ Write → IsWaveCause header channels exact max b ended e → ⊥
no-wave-cause header channels exact max b ended i l Read r w h = r refl
no-wave-cause header channels exact max b ended i l Write r w h = w refl
no-wave-cause header channels exact max b ended i l TooLong r w h = let n = h.1 in omega arith
no-wave-cause header channels exact max b ended i l (BadSample at) r w h =
    let e = ap (file_samples header channels) (take_all max b l) in
    h.some (ap (λ v. get_or v at 0) e ∙ i.samples.clean.bits h.asked at h.lowest)
no-wave-cause header channels exact max b ended i l SoundHeader r w h = absurd
    (let s = subst (IsSound exact) (ap (file_samples header channels) (take_all max b l)) h in
    let t = s.header in
    let f = i.samples.clean.samples in
    cc)
no-wave-cause header channels exact max b ended i l (BadLength n) r w h =
    let z = i.whole in
    let c = h.0.count in
    let s = h.0.some in
    omega arith
no-wave-cause header channels exact max b ended i l e r w h = h

same-header : {h k : WaveHeader} (b : List ℕ) → judged b ≡ Ok (Some h) → judged b ≡ Ok (Some k) → h ≡ k
same-header b p q = cc

-- octets with a header, and how a run over them is refused
owed-ran : (options : WaveOptions) (max : ℕ) (header : WaveHeader) (b : List ℕ) (ends : Ends)
    (r : Result Converted WaveError) → Grew ends.source.old ends.source.new b → Told ends.source.old ends.source.new b
    → judged b ≡ Ok (Some header) → has_channels header.format (channels_for options header.format) ≡ true
    → IsWave (read_by options.exact header) (channels_for options header.format) options.exact b → length b ≤ limit_of header max
    → Quiet ends.source → Quiet ends.sink → WaveRan options max b ends r → IsOk r
owed-ran options max header b ends (Ok n) g t j have i l q k w = refl
owed-ran options max header b ends (Err (Header e)) g t j have i l q k w =
    absurd (wrong (sym (ap (at_end (length b)) j) ∙ w.0.says))
  where
    wrong : {x : WaveHeader} {y : HeaderError} → ◌≡◌ {A = Result WaveHeader HeaderError} (Ok x) (Err y) → ⊥
    wrong q = cc
owed-ran options max header b ends (Err (NoChannel n)) g t j have i l q k w =
    let none : has_channels header.format (channels_for options header.format) ≡ false
    = subst (λ (h : WaveHeader). has_channels h.format (channels_for options h.format) ≡ false) (same-header b w.0.1 j) w.0.3 in
    absurd (differ (sym have ∙ none))
  where
    differ : true ≡ false → ⊥
    differ e = cc
owed-ran options max header b ends (Err (Run e)) g t j have i l q k w = elim w [
  | inl h ↦ absurd (unread e h.0)
  | inr h ↦
      (let u : InputRun (promise_for options header) (limit_of header max) ends (Err e)
      = record {
        bytes = b;
        given = g;
        few = omega (arith, l);
        ran = subst (λ (v : WaveHeader). InputRan (promise_for options v) (limit_of v max) b ends (Err e))
            (same-header b h.1.header_is j) h.1.ran;
      } in
      run-owed u b t
      (no-wave-cause (read_by options.exact header) (channels_for options header.format) options.exact (limit_of header max) b ends.ended i l) q k)
]
  where
    unread : (e : RunError) → HeaderRan max b ends.ended ends.source (Err (Run e)) → ⊥
    unread Read h = some-none (sym j ∙ h.0)
    unread TooLong h = let n = h.1 in omega arith
    unread e h = h

pub file-owed : {options : WaveOptions} {max : ℕ} {ends : Ends}
    {r : Result Converted WaveError} → WaveRun options max ends r
    → (b : List ℕ) (header : WaveHeader) → Told ends.source.old ends.source.new b
    → judged b ≡ Ok (Some header) → has_channels header.format (channels_for options header.format) ≡ true
    → IsWave (read_by options.exact header) (channels_for options header.format) options.exact b → length b ≤ limit_of header max
    → Quiet ends.source → Quiet ends.sink → IsOk r
file-owed {options} {max} {ends} {r} run b header t j have i l q k =
    let e = told-is run.given t in
    owed-ran options max header b ends r (subst (Grew ends.source.old ends.source.new) e run.given) t j have i l q k
    (subst (λ v. WaveRan options max v ends r) e run.ran)
