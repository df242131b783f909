-- A whole run over samples.
use Rattle.std.proofs.Common.{◌≡◌, ◌≢◌, ℕ, zero, suc, ◌+◌, ◌-◌, ◌%◌, ◌<◌, ◌≤◌, ◌⊎◌, inl, inr, List, [], ◌∷◌, ◌++◌, Bool}
use Rattle.std.proofs.Common.{true, Option, Some, None, length, take, replicate, get_or, refl, sym, ap, ap₂, ◌∙◌}
use Rattle.std.proofs.Common.{append_assoc, append-nil, false}
use Rattle.std.proofs.Math.Seq.{take-append_seam}
use Rattle.std.proofs.Common.{subst, arith, length-append}
use Rattle.std.specs.Int.{div_ceil}
use Rattle.std.proofs.lemmas.Bool.{cases_eq}
use Rattle.std.proofs.lemmas.List.{take_all}
use Rattle.aes3_refusals.specs.declared.run_error.RunError.{RunError}
use Rattle.aes3_refusals.specs.declared.run_error.RunError.TheVariants.{BadCell, BadLength, BadCode, BadParity, Read, Write}
use Rattle.aes3_refusals.specs.declared.run_error.RunError.TheVariants.{TooLong, Memory, BadStatusText, BadPadding, BadSample}
use Rattle.aes3_refusals.specs.declared.run_error.RunError.TheVariants.{SoundHeader, Inexact}
use Rattle.aes3_files.specs.Sound.{begins_sound}
use Rattle.aes3_cell.specs.declared.counts.Counts.{Counts}
use Rattle.aes3_frame.specs.Blocks.{block_subframes}
use Rattle.aes3_input.specs.Converting.{or_else, fault_behind, first_fault, whole}
use Rattle.aes3_input.specs.Running.{CleanEnd, IsFault, converted}
use Rattle.aes3_input.proofs.InputRuns.{Gives}
use Rattle.aes3_forms_words.specs.declared.alsa_am824.Words.{Words}
use Rattle.aes3_status.specs.declared.change.Change as change
use Rattle.aes3_forms_samples.specs.declared.sample_format.SampleFormat.{SampleFormat}
use Rattle.aes3_forms_samples.specs.Formats.{asks_exact, block_len, frame_len}
use Rattle.aes3_engine.specs.Sampling.{pcm_words, AllExact, AreSamples, IsPcm, BadSampleAt, IsPcmCause}
use Rattle.aes3_engine.specs.Sampling.{IsSound, words_in}
use Rattle.aes3_files.specs.Sound.{sound_head_len}
use Rattle.aes3_engine.proofs.PcmWords.{count-blocks}
use Rattle.aes3_engine.specs.Sampling.{pcm_counts, more_of, sampled_words, sampling}
use Rattle.aes3_engine.proofs.SampleReads.{made, file-more, begun-all, out-samples, byte-clean, byte-bad, clean-all}
use Rattle.aes3_engine.proofs.SampleReads.{end-whole, end-left, LowByte, HeaderByte, ExactBehind, behind-cons, one-more}
use Rattle.aes3_engine.proofs.SampleReads.{all-exact}
use Rattle.aes3_engine.proofs.SoundHeads.{sound-none, sound-more, sound-long, sound-short}
use Rattle.std.proofs.lemmas.Option.{none-some, same_Some}

-- the end
end-cases : (pcm : SampleFormat) (exact : Bool) (form : Words) (k : change.Change) (b : List ℕ)
    → (((sampling pcm exact form k).end_fault b ≡ None) × (length b % frame_len pcm ≡ 0))
    ⊎ (((sampling pcm exact form k).end_fault b ≡ Some (BadLength (length b % frame_len pcm)))
    × (0 < length b % frame_len pcm))
end-cases pcm exact form k b = elim (cases_eq (length b % frame_len pcm) 0) [
  | inl q ↦ inl (end-whole pcm exact form k b q, q)
  | inr q ↦ inr (end-left pcm exact form k b (length b % frame_len pcm) refl (omega arith), omega arith)
]

-- what the conversion writes
ends-is : (pcm : SampleFormat) (exact : Bool) (form : Words) (k : change.Change) (b : List ℕ)
    → (sampling pcm exact form k).ends b ≡ more_of (made pcm form k b) (pcm_words pcm form k b)
unfolding sampling
ends-is pcm exact form k b = refl

whole-samples : (pcm : SampleFormat) (exact : Bool) (form : Words) (k : change.Change) (b : List ℕ)
    → AreSamples (asks_exact pcm exact) b
    → whole (sampling pcm exact form k) b ≡ pcm_words pcm form k b
unfolding whole
whole-samples pcm exact form k b h =
    ap₂ ◌++◌ (out-samples pcm exact form k b ∙ begun-all pcm exact form k b h) (ends-is pcm exact form k b)
    ∙ sym (file-more form k (words_in pcm b) (replicate ((block_subframes - length
    (words_in pcm b) % block_subframes) % block_subframes) 0))

-- the first fault of bytes d behind the bytes b: a sample's lowest byte, or the last of a header
record LowBehind (exact : Bool) (b d : List ℕ) (e : RunError) : Type 0 where
  pub at : ℕ
  pub is : e ≡ BadSample (length b + at)
  pub asked : exact ≡ true
  pub within : at < length d
  pub lowest : (length b + at) % 4 ≡ 0
  pub some : get_or d at 0 ≢ 0
  pub first : (i : ℕ) → i < at → (length b + i) % 4 ≡ 0 → get_or d i 0 ≡ 0
  pub samples : begins_sound (b ++ take at d) ≡ false

record HeaderBehind (exact : Bool) (b d : List ℕ) (e : RunError) : Type 0 where
  pub head : List ℕ
  pub rest : List ℕ
  pub parts : d ≡ head ++ rest
  pub is : e ≡ SoundHeader
  pub bits : ExactBehind exact (length b) head
  pub header : begins_sound (b ++ head) ≡ true
  pub len : length (b ++ head) ≡ sound_head_len

low-behind : (exact : Bool) (b : List ℕ) (x : ℕ) (d : List ℕ) (e : RunError)
    → (exact ≡ true → length b % 4 ≡ 0 → x ≡ 0) → LowBehind exact (b ++ x ∷ []) d e → LowBehind exact b (x ∷ d) e
low-behind exact b x d e z r = record {
  at = suc r.at;
  is = r.is ∙ ap (λ n. BadSample n) p;
  asked = r.asked;
  within = (let w = r.within in omega arith);
  lowest = ap (λ n. n % 4) (sym p) ∙ r.lowest;
  some = r.some;
  first = first;
  samples = sym (one-more b (take r.at d) x) ∙ r.samples;
}
  where
    l : length (b ++ x ∷ []) ≡ length b + 1
    l = length-append b (x ∷ [])

    p : length (b ++ x ∷ []) + r.at ≡ length b + suc r.at
    p = omega (arith, l)

    first : (i : ℕ) → i < suc r.at → (length b + i) % 4 ≡ 0 → get_or (x ∷ d) i 0 ≡ 0
    first zero w m = z r.asked (ap (λ n. n % 4) (let t : length b ≡ length b + 0 = omega arith in t) ∙ m)
    first (suc i) w m =
        r.first i (omega arith)
        (ap (λ n. n % 4) (let t : length (b ++ x ∷ []) + i ≡ length b + suc i = omega (arith, l) in t) ∙ m)

header-behind : (exact : Bool) (b : List ℕ) (x : ℕ) (d : List ℕ) (e : RunError)
    → (exact ≡ true → length b % 4 ≡ 0 → x ≡ 0) → HeaderBehind exact (b ++ x ∷ []) d e
    → HeaderBehind exact b (x ∷ d) e
header-behind exact b x d e z r = record {
  head = x ∷ r.head;
  rest = r.rest;
  parts = ap (λ v. x ∷ v) r.parts;
  is = r.is;
  bits = behind-cons exact (length b) x r.head (length (b ++ x ∷ [])) (length-append b (x ∷ [])) z r.bits;
  header = sym (one-more b r.head x) ∙ r.header;
  len = ap length (sym (append_assoc b (x ∷ []) r.head)) ∙ r.len;
}

-- the byte x ends a header that began before it
header-here : (exact : Bool) (b : List ℕ) (x : ℕ) (d : List ℕ) (e : RunError) → begins_sound b ≡ false
    → HeaderByte exact b x e → HeaderBehind exact b (x ∷ d) e
header-here exact b x d e w r = record {
  head = x ∷ [];
  rest = d;
  parts = refl;
  is = r.is;
  bits = behind-cons exact (length b) x [] (length b + 1) refl r.bits (λ e i r. refl);
  header = r.header;
  len =
      let l = length-append b (x ∷ []) in
      let m = sound-long (b ++ x ∷ []) r.header in
      let s = sound-short b (x ∷ []) w r.header in
      omega arith;
}

low-here : (exact : Bool) (b : List ℕ) (x : ℕ) (d : List ℕ) (e : RunError) → begins_sound b ≡ false
    → LowByte exact b x e → LowBehind exact b (x ∷ d) e
low-here exact b x d e w r = let z : length b ≡ length b + 0 = omega arith in record {
  at = 0;
  is = r.is ∙ ap (λ n. BadSample n) z;
  asked = r.asked;
  within = omega arith;
  lowest = ap (λ n. n % 4) (sym z) ∙ r.lowest;
  some = r.some;
  first = λ i w m. absurd (omega arith);
  samples = ap begins_sound (append-nil b) ∙ w;
}

cause-behind : (pcm : SampleFormat) (exact : Bool) (form : Words) (k : change.Change) (b d : List ℕ) (e : RunError)
    → begins_sound b ≡ false
    → fault_behind (sampling pcm exact form k) b d ≡ Some e
    → LowBehind (asks_exact pcm exact) b d e ⊎ HeaderBehind (asks_exact pcm exact) b d e
cause-behind pcm exact form k b [] e w h = absurd cc
cause-behind pcm exact form k b (x ∷ d) e w h =
    go ((sampling pcm exact form k).fault b x) refl h (λ v q. cause-behind pcm exact form k (b ++ x ∷ []) d e v q)
  where
    go : (o : Option RunError) → (sampling pcm exact form k).fault b x ≡ o
        → or_else o (fault_behind (sampling pcm exact form k) (b ++ x ∷ []) d) ≡ Some e
        → (begins_sound (b ++ x ∷ []) ≡ false → fault_behind (sampling pcm exact form k) (b ++ x ∷ []) d ≡ Some e
        → LowBehind (asks_exact pcm exact) (b ++ x ∷ []) d e ⊎ HeaderBehind (asks_exact pcm exact) (b ++ x ∷ []) d e)
        → LowBehind (asks_exact pcm exact) b (x ∷ d) e ⊎ HeaderBehind (asks_exact pcm exact) b (x ∷ d) e
    go None q h next = let c = byte-clean pcm exact form k b x q in elim (next c.1 h) [
      | inl r ↦ inl (low-behind (asks_exact pcm exact) b x d e c.0 r)
      | inr r ↦ inr (header-behind (asks_exact pcm exact) b x d e c.0 r)
    ]
    go (Some f) q h next = elim (byte-bad pcm exact form k b x e (q ∙ h)) [
      | inl r ↦ inl (low-here (asks_exact pcm exact) b x d e w r)
      | inr r ↦ inr (header-here (asks_exact pcm exact) b x d e w r)
    ]

record LowCause (exact : Bool) (b : List ℕ) (e : RunError) : Type 0 where
  pub at : ℕ
  pub is : e ≡ BadSample at
  pub cause : BadSampleAt exact b at

record HeaderCause (exact : Bool) (b : List ℕ) (e : RunError) : Type 0 where
  pub is : e ≡ SoundHeader
  pub cause : IsSound exact b

low-cause : (exact : Bool) (b : List ℕ) (e : RunError) → LowBehind exact [] b e → LowCause exact b e
low-cause exact b e r = let z : 0 + r.at ≡ r.at = omega arith in record {
  at = r.at;
  is = r.is ∙ ap (λ n. BadSample n) z;
  cause = record {
    asked = r.asked;
    within = r.within;
    lowest = ap (λ n. n % 4) (sym z) ∙ r.lowest;
    some = r.some;
    first = λ i w m. r.first i w (ap (λ n. n % 4) (let t : 0 + i ≡ i = omega arith in t) ∙ m);
    samples = r.samples;
  };
}

header-cause : (exact : Bool) (b : List ℕ) (e : RunError) → HeaderBehind exact [] b e → HeaderCause exact b e
header-cause exact b e r = record {
  is = r.is;
  cause = record {
    header = ap begins_sound r.parts ∙ sound-more r.head r.rest r.header;
    bits = subst (AllExact exact)
        (sym (ap₂ take (sym r.len) r.parts ∙ take-append_seam r.head r.rest)) (all-exact exact r.head r.bits);
  };
}

cause-of : (pcm : SampleFormat) (exact : Bool) (form : Words) (k : change.Change) (b : List ℕ) (e : RunError)
    → first_fault (sampling pcm exact form k) b ≡ Some e
    → LowCause (asks_exact pcm exact) b e ⊎ HeaderCause (asks_exact pcm exact) b e
unfolding first_fault
cause-of pcm exact form k b e h = elim (cause-behind pcm exact form k [] b e sound-none h) [
  | inl r ↦ inl (low-cause (asks_exact pcm exact) b e r)
  | inr r ↦ inr (header-cause (asks_exact pcm exact) b e r)
]

-- where neither the bytes nor the end can be refused so
no-cause : (pcm : SampleFormat) (exact : Bool) (form : Words) (k : change.Change) (max : ℕ) (b : List ℕ) (ended : Bool)
    (e : RunError)
    → ((n : ℕ) → e ≡ BadSample n → ⊥) → (e ≡ SoundHeader → ⊥) → ((n : ℕ) → e ≡ BadLength n → ⊥)
    → (first_fault (sampling pcm exact form k) (take max b) ≡ Some e)
    ⊎ (CleanEnd max (sampling pcm exact form k) b ended × ((sampling pcm exact form k).end_fault b ≡ Some e)) → ⊥
no-cause pcm exact form k max b ended e p w q h = elim h [
  | inl g ↦ elim (cause-of pcm exact form k (take max b) e g) [ inl r ↦ p r.at r.is | inr r ↦ w r.is ]
  | inr g ↦ elim (end-cases pcm exact form k b) [
    | inl r ↦ none-some _ (sym r.0 ∙ g.1)
    | inr r ↦ q (length b % frame_len pcm) (same_Some _ _ (sym g.1 ∙ r.0))
  ]
]

length-cause : (pcm : SampleFormat) (exact : Bool) (form : Words) (k : change.Change) (b : List ℕ) (left : ℕ)
    → (sampling pcm exact form k).end_fault b ≡ Some (BadLength left) → (left ≡ length b % frame_len pcm) × (0 < left)
length-cause pcm exact form k b left q = elim (end-cases pcm exact form k b) [
  | inl r ↦ absurd (none-some _ (sym r.0 ∙ q))
  | inr r ↦ let e : left ≡ length b % frame_len pcm = same (length b % frame_len pcm) (sym q ∙ r.0) in
      (e, (let h = r.1 in omega arith))
]
  where
    same : (n : ℕ) → Some (BadLength left) ≡ Some (BadLength n) → left ≡ n
    same n q = cc

no-sample-end : (pcm : SampleFormat) (exact : Bool) (form : Words) (k : change.Change) (b : List ℕ) (at : ℕ)
    → (sampling pcm exact form k).end_fault b ≡ Some (BadSample at) → ⊥
no-sample-end pcm exact form k b at q = elim (end-cases pcm exact form k b) [
  | inl r ↦ none-some _ (sym r.0 ∙ q)
  | inr r ↦ other (sym r.0 ∙ q)
]
  where
    other : {n : ℕ} → Some (BadLength n) ≡ Some (BadSample at) → ⊥
    other q = cc

sample-cause : (pcm : SampleFormat) (exact : Bool) (form : Words) (k : change.Change) (b : List ℕ) (at : ℕ)
    → first_fault (sampling pcm exact form k) b ≡ Some (BadSample at) → BadSampleAt (asks_exact pcm exact) b at
sample-cause pcm exact form k b at h = elim (cause-of pcm exact form k b (BadSample at) h) [
  | inl r ↦ subst (BadSampleAt (asks_exact pcm exact) b) (sym (same r.is)) r.cause
  | inr r ↦ absurd (let q = r.is in cc)
]
  where
    same : {n : ℕ} → ◌≡◌ {A = RunError} (BadSample at) (BadSample n) → at ≡ n
    same q = cc

not-length : (pcm : SampleFormat) (exact : Bool) (form : Words) (k : change.Change) (b : List ℕ) (left : ℕ)
    → first_fault (sampling pcm exact form k) b ≡ Some (BadLength left) → ⊥
not-length pcm exact form k b left h = elim (cause-of pcm exact form k b (BadLength left) h) [
  | inl r ↦ let q = r.is in cc
  | inr r ↦ let q = r.is in cc
]

no-header-end : (pcm : SampleFormat) (exact : Bool) (form : Words) (k : change.Change) (b : List ℕ)
    → (sampling pcm exact form k).end_fault b ≡ Some SoundHeader → ⊥
no-header-end pcm exact form k b q = elim (end-cases pcm exact form k b) [
  | inl r ↦ none-some _ (sym r.0 ∙ q)
  | inr r ↦ other (sym r.0 ∙ q)
]
  where
    other : {n : ℕ} → Some (BadLength n) ≡ Some SoundHeader → ⊥
    other q = cc

sound-cause : (pcm : SampleFormat) (exact : Bool) (form : Words) (k : change.Change) (b : List ℕ)
    → first_fault (sampling pcm exact form k) b ≡ Some SoundHeader → IsSound (asks_exact pcm exact) b
sound-cause pcm exact form k b h = elim (cause-of pcm exact form k b SoundHeader h) [
  | inl r ↦ absurd (let q = r.is in cc)
  | inr r ↦ r.cause
]

fault-cause : (pcm : SampleFormat) (exact : Bool) (form : Words) (k : change.Change) (max : ℕ) (b : List ℕ)
    (ended : Bool) (e : RunError)
    → IsFault (sampling pcm exact form k) max b ended e → IsPcmCause pcm exact max b ended e
fault-cause pcm exact form k max b ended Read h = (clean-all pcm exact form k b h.clean, h.short)
fault-cause pcm exact form k max b ended Write h = h
fault-cause pcm exact form k max b ended TooLong h = (clean-all pcm exact form k (take max b) h.0.clean, h.1)
fault-cause pcm exact form k max b ended (BadSample at) h = elim h [
  | inl q ↦ sample-cause pcm exact form k (take max b) at q
  | inr q ↦ absurd (no-sample-end pcm exact form k b at q.1)
]
fault-cause pcm exact form k max b ended SoundHeader h = elim h [
  | inl q ↦ sound-cause pcm exact form k (take max b) q
  | inr q ↦ absurd (no-header-end pcm exact form k b q.1)
]
fault-cause pcm exact form k max b ended (BadLength left) h = elim h [
  | inl q ↦ absurd (not-length pcm exact form k (take max b) left q)
  | inr q ↦ let c = length-cause pcm exact form k b left q.1 in (
    record { clean = clean-all pcm exact form k b q.0.clean.clean; count = c.0; some = c.1 },
    q.0.clean.short,
    q.0.end,
  )
]
fault-cause pcm exact form k max b ended (BadCell at) h = no-cause pcm exact form k max b ended (BadCell at)
    (λ n e. cc) (λ e. cc) (λ n e. cc) h
fault-cause pcm exact form k max b ended (BadCode at) h = no-cause pcm exact form k max b ended (BadCode at)
    (λ n e. cc) (λ e. cc) (λ n e. cc) h
fault-cause pcm exact form k max b ended (BadParity at) h = no-cause pcm exact form k max b ended (BadParity at)
    (λ n e. cc) (λ e. cc) (λ n e. cc) h
fault-cause pcm exact form k max b ended Memory h = no-cause pcm exact form k max b ended Memory
    (λ n e. cc) (λ e. cc) (λ n e. cc) h
fault-cause pcm exact form k max b ended BadStatusText h = no-cause pcm exact form k max b ended BadStatusText
    (λ n e. cc) (λ e. cc) (λ n e. cc) h
fault-cause pcm exact form k max b ended (BadPadding at) h = no-cause pcm exact form k max b ended (BadPadding at)
    (λ n e. cc) (λ e. cc) (λ n e. cc) h
fault-cause pcm exact form k max b ended (Inexact at) h = no-cause pcm exact form k max b ended (Inexact at)
    (λ n e. cc) (λ e. cc) (λ n e. cc) h

-- samples that have no fault
clean-pcm : (pcm : SampleFormat) (exact : Bool) (form : Words) (k : change.Change) (b : List ℕ)
    → first_fault (sampling pcm exact form k) b ≡ None
    → (sampling pcm exact form k).end_fault b ≡ None → IsPcm pcm exact b
clean-pcm pcm exact form k b c e = record { whole = whole; clean = clean-all pcm exact form k b c }
  where
    whole : length b % frame_len pcm ≡ 0
    whole = elim (end-cases pcm exact form k b) [ inl q ↦ q.1 | inr q ↦ absurd (none-some _ (sym e ∙ q.0)) ]

-- samples that fit have no cause
pub no-pcm-cause : (pcm : SampleFormat) (exact : Bool) (max : ℕ) (b : List ℕ) (ended : Bool) → IsPcm pcm exact b
    → length b ≤ max
    → (e : RunError) → e ≢ Read → e ≢ Write → IsPcmCause pcm exact max b ended e → ⊥
no-pcm-cause pcm exact max b ended i l Read r w h = r refl
no-pcm-cause pcm exact max b ended i l Write r w h = w refl
no-pcm-cause pcm exact max b ended i l TooLong r w h = let n = h.1 in omega arith
no-pcm-cause pcm exact max b ended i l (BadSample at) r w h =
    let e = take_all max b l in
    h.some (ap (λ v. get_or v at 0) e ∙ i.clean.bits h.asked at h.lowest)
no-pcm-cause pcm exact max b ended i l SoundHeader r w h = absurd
    (let e = ap begins_sound (take_all max b l) in let f = i.clean.samples in let t = h.header in cc)
no-pcm-cause pcm exact max b ended i l (BadLength n) r w h = let z = i.whole in let c = h.0.count in
    let s = h.0.some in omega arith
no-pcm-cause pcm exact max b ended i l (BadCell n) r w h = h
no-pcm-cause pcm exact max b ended i l (BadCode n) r w h = h
no-pcm-cause pcm exact max b ended i l (BadParity n) r w h = h
no-pcm-cause pcm exact max b ended i l Memory r w h = h
no-pcm-cause pcm exact max b ended i l BadStatusText r w h = h
no-pcm-cause pcm exact max b ended i l (BadPadding n) r w h = h
no-pcm-cause pcm exact max b ended i l (Inexact n) r w h = h

-- the counts of a run
pub pcm-counted : (pcm : SampleFormat) (b : List ℕ) (n blocks len : ℕ) → n ≡ length b
    → length b % frame_len pcm ≡ 0 → len ≡ block_len pcm → blocks ≡ div_ceil n len
    → ◌≡◌ {A = Counts} (record { bytes = n; cells = 0; blocks = blocks; faults = 0; unfinished = 0; marks = 0 })
    (pcm_counts pcm b)
unfolding pcm_counts
pcm-counted pcm b n blocks len e h q d =
    rw (e, d ∙ ap₂ div_ceil e q ∙ count-blocks pcm b h) refl

-- the run
pub sampling-gives : (pcm : SampleFormat) (exact : Bool) (form : Words) (k : change.Change) (z : List ℕ → Type 0)
    → Gives (converted (sampling pcm exact form k) z) (sampled_words pcm exact form k)
sampling-gives pcm exact form k z = record {
  input = λ b h. clean-pcm pcm exact form k b h.clean h.end_clean;
  whole = λ b h. whole-samples pcm exact form k b (clean-pcm pcm exact form k b h.clean h.end_clean).clean;
  begun = out-samples pcm exact form k;
  cause = fault-cause pcm exact form k;
}
