-- Samples converted byte by byte.
use Rattle.std.proofs.Common.{◌≡◌, ◌≢◌, ℕ, zero, suc, ◌+◌, ◌-◌, ◌*◌, ◌/◌, ◌%◌, ◌<◌, ◌≤◌, ◌⊎◌, inl, inr, List, [], ◌∷◌}
use Rattle.std.proofs.Common.{◌++◌}
use Rattle.std.proofs.Common.{Bool, true, false, not, cond, ◌&&◌, eqb, Option, Some, None, length, take, drop}
use Rattle.std.proofs.Common.{replicate, get_or, map, refl, sym, ap, ap₂, ◌∙◌, subst, arith, append_assoc, append-nil}
use Rattle.std.proofs.Common.{length-append, eq-eqb, ne_eqb}
use borrow.Rule.Slice.PartMut.{put_mid}
use Rattle.std.proofs.lemmas.Bool.{cases_Bool, cases_eq, cases_lt}
use Rattle.std.proofs.lemmas.Grind.{flat_map-append}
use Rattle.std.proofs.lemmas.List.{append_cancel_left, drop_at, drop_all, map-append, get_or-append_right}
use Rattle.std.proofs.lemmas.List.{get_or_append_left, take-append-drop, length-take-le, length-drop, drop_more}
use Rattle.std.proofs.lemmas.Slice.{take-put_mid}
use Rattle.std.proofs.Math.Seq.{take-append-add}
use Rattle.std.proofs.lemmas.List.{take-replicate}
use Rattle.std.proofs.lemmas.List.{drop-drop, get_or-take, get_or_past, nil_from_length}
use Rattle.aes3_refusals.specs.declared.run_error.RunError.{RunError}
use Rattle.aes3_refusals.specs.declared.run_error.RunError.TheVariants.{BadLength, BadSample, SoundHeader}
use Rattle.aes3_cell.specs.Ends.{Grew, GrewFront}
use Rattle.aes3_files.specs.Sound.{begins_sound}
use Rattle.aes3_cell.proofs.Growing.{grew-none, grew-is, front-is}
use Rattle.aes3_frame.specs.Blocks.{block_subframes}
use Rattle.aes3_frame.specs.Files.{bytes_number, words_of}
use Rattle.aes3_frame.specs.Sampled.{payload_of_sample, sampled}
use Rattle.aes3_frame.proofs.SampleBlocks.{sampled-join, sampled-short, sampled-one}
use Rattle.aes3_input.specs.Converting.{or_else, unless, fault_behind, out_behind, first_fault, out}
use Rattle.aes3_input.specs.Running.{Fed, Stopped}
use Rattle.aes3_input.proofs.Feeding.{front-longer}
use Rattle.aes3_input.proofs.Outputs.{out-is, behind-clean, fault-clean, fault-first}
use Rattle.aes3_forms_words.specs.declared.alsa_am824.Words.{Words}
use Rattle.aes3_forms_samples.specs.declared.sample_format.SampleFormat.{SampleFormat}
use Rattle.aes3_forms_samples.specs.declared.sample_format.SampleFormat.TheVariants.{S32, S24, S24In32, S16}
use Rattle.aes3_forms_samples.specs.Formats.{asks_exact, block_len, frame_len, sample_len}
use Rattle.aes3_status.specs.declared.change.Change.{Change}
use Rattle.aes3_engine.specs.Rewriting.{rewritten, rewritten_blocks}
use Rattle.aes3_engine.specs.Words.{block_words, words_file}
use Rattle.aes3_engine.specs.Sampling.{sample_file, exact_words, pcm_words, begun_pcm, sample_words, AllExact, is_low}
use Rattle.aes3_engine.specs.Sampling.{more_of, words_in}
use Rattle.aes3_engine.specs.Sampling.{sampling, Samples, AreSamples}
use Rattle.aes3_files.specs.Sound.{sound_head_len}
use Rattle.aes3_engine.proofs.PcmWords.{all-words, few-words, filled-in, header-short, in-join, in-more, no-byte}
use Rattle.aes3_engine.proofs.PcmWords.{none-before, one-block, pad-is, pad-none, pad-words, pad_of, whole-samples}
use Rattle.aes3_engine.proofs.PcmWords.{whole-words, zero-whole}
use Rattle.aes3_engine.proofs.SoundHeads.{sound-none, sound-front, sound-more, sound-settled, sound-short, sound-head}
use Rattle.aes3_frame.proofs.BlockLemmas.{count-within}
use Rattle.std.proofs.lemmas.Option.{none-some, same_Some}

-- the block file of the samples in bytes, as far as they are whole blocks
abbrev pub made : SampleFormat → Words → Change → List ℕ → List ℕ
made pcm form change b = sample_file form change (words_in pcm b)

made-join : (form : Words) (change : Change) (ws vs : List ℕ) → length ws % block_subframes ≡ 0
    → sample_file form change (ws ++ vs) ≡ sample_file form change ws ++ sample_file form change vs
unfolding sample_file
made-join form change ws vs h =
    ap (λ bs. words_file form (rewritten_blocks change bs)) (sampled-join ws vs h)
    ∙ ap (words_file form) (map-append (rewritten change) (sampled ws) (sampled vs))
    ∙ flat_map-append (block_words form) (rewritten_blocks change (sampled ws)) (rewritten_blocks change (sampled vs))

-- behind whole blocks
pub made-behind : (pcm : SampleFormat) (form : Words) (change : Change) (p q : List ℕ)
    → length p % block_len pcm ≡ 0
    → made pcm form change (p ++ q) ≡ made pcm form change p ++ made pcm form change q
made-behind pcm form change p q h =
    ap (sample_file form change) (in-join pcm p q (whole-samples pcm (length p) h))
    ∙ made-join form change (words_in pcm p) (words_in pcm q) (whole-words pcm p h)

pub made-short : (pcm : SampleFormat) (form : Words) (change : Change) (q : List ℕ) → length q < block_len pcm
    → made pcm form change q ≡ []
unfolding sample_file
made-short pcm form change q h =
    ap (λ bs. words_file form (rewritten_blocks change bs)) (sampled-short (words_in pcm q) (few-words pcm q h))

pub made-one : (pcm : SampleFormat) (form : Words) (change : Change) (q : List ℕ) → length q ≡ block_len pcm
    → made pcm form change q ≡ block_words form (rewritten change (map payload_of_sample (words_in pcm q)))
unfolding sample_file
made-one pcm form change q h =
    ap (λ bs. words_file form (rewritten_blocks change bs)) (sampled-one (words_in pcm q) (all-words pcm q h))
    ∙ append-nil (block_words form (rewritten change (map payload_of_sample (words_in pcm q))))

-- what is written of a front stays
more-join : (a d : List ℕ) → more_of a (a ++ d) ≡ d
more-join a d = drop_at a d (length a) refl

pub made-more : (pcm : SampleFormat) (form : Words) (change : Change) (p h d : List ℕ) → length p % block_len pcm ≡ 0
    → length h < block_len pcm
    → made pcm form change (p ++ h ++ d) ≡ made pcm form change (p ++ h) ++ made pcm form change (h ++ d)
made-more pcm form change p h d w l =
    ap (made pcm form change) (append_assoc p h d) ∙ made-behind pcm form change p (h ++ d) w
    ∙ ap (λ z. z ++ made pcm form change (h ++ d))
    (sym (made-behind pcm form change p h w ∙ ap (λ z. made pcm form change p ++ z) (made-short pcm form change h l)
    ∙ append-nil (made pcm form change p)))

count-rest : (n : ℕ) → n - block_subframes * (n / block_subframes) < block_subframes
unfolding block_subframes
count-rest n = omega arith

count-whole : (n : ℕ) → block_subframes * n % block_subframes ≡ 0
unfolding block_subframes
count-whole n = omega arith

file-short : (form : Words) (change : Change) (ws : List ℕ) → length ws < block_subframes → sample_file form change ws ≡ []
unfolding sample_file
file-short form change ws h = ap (λ bs. words_file form (rewritten_blocks change bs)) (sampled-short ws h)

pub file-more : (form : Words) (change : Change) (ws vs : List ℕ)
    → sample_file form change (ws ++ vs) ≡ sample_file form change ws ++ more_of (sample_file form change ws)
    (sample_file form change (ws ++ vs))
file-more form change ws vs =
    let k = block_subframes * (length ws / block_subframes) in
    let p = take k ws in
    let h = drop k ws in
    let e : p ++ h ≡ ws = take-append-drop k ws in
    let w : length p % block_subframes ≡ 0 = ap (λ n. n % block_subframes) (length-take-le k ws (count-within (length ws)))
    ∙ count-whole (length ws / block_subframes) in
    let s : length h < block_subframes = subst (λ n. n < block_subframes) (sym (length-drop k ws)) (count-rest (length ws)) in
    let m : sample_file form change (ws ++ vs) ≡ sample_file form change ws ++ sample_file form change (h ++ vs) =
    ap (λ z. sample_file form change (z ++ vs)) (sym e) ∙ ap (sample_file form change) (append_assoc p h vs)
    ∙ made-join form change p (h ++ vs) w
    ∙ ap (λ z. z ++ sample_file form change (h ++ vs))
    (sym (append-nil (sample_file form change p)) ∙ ap (λ z. sample_file form change p ++ z) (sym
    (file-short form change h s))
    ∙ sym (made-join form change p h w) ∙ ap (sample_file form change) e) in
    m ∙ ap (λ z. sample_file form change ws ++ z)
    (sym (ap (more_of (sample_file form change ws)) m ∙ more-join (sample_file form change ws)
    (sample_file form change (h ++ vs))))

pub any-more : (pcm : SampleFormat) (form : Words) (change : Change) (b d : List ℕ)
    → made pcm form change (b ++ d) ≡ made pcm form change b ++ more_of (made pcm form change b)
    (made pcm form change (b ++ d))
any-more pcm form change b d =
    let r = in-more pcm b d in
    subst (λ (ws : List ℕ). sample_file form change ws ≡ made pcm form change b ++ more_of (made pcm form change b)
    (sample_file form change ws))
    (sym r.1) (file-more form change (words_in pcm b) r.0)

-- ---- faults

low-false : (exact : Bool) (b : List ℕ) (x : ℕ) → (exact ≡ true → length b % 4 ≡ 0 → x ≡ 0) → is_low exact b x ≡ false
low-false false b x h = refl
low-false true b x h = elim (cases_eq (length b % 4) 0) [
  | inl q ↦ ap₂ (λ s t. s && not t) (eq-eqb (length b % 4) 0 q) (eq-eqb x 0 (h refl q))
  | inr q ↦ ap (λ s. s && not (eqb x 0)) (ne_eqb (length b % 4) 0 q)
]

low-true : (exact : Bool) (b : List ℕ) (x : ℕ) → exact ≡ true → length b % 4 ≡ 0 → x ≢ 0 → is_low exact b x ≡ true
low-true true b x e q n = ap₂ (λ s t. s && not t) (eq-eqb (length b % 4) 0 q) (ne_eqb x 0 n)
low-true false b x e q n = absurd cc

from-false : (exact : Bool) (b : List ℕ) (x : ℕ) → is_low exact b x ≡ false → exact ≡ true → length b % 4 ≡ 0 → x ≡ 0
from-false exact b x h e q = elim (cases_eq x 0) [
  | inl z ↦ z
  | inr n ↦ absurd (let t = low-true exact b x e q n in cc)
]

from-true : (exact : Bool) (b : List ℕ) (x : ℕ) → is_low exact b x ≡ true → (exact ≡ true)
    × (length b % 4 ≡ 0) × (x ≢ 0)
from-true false b x h = absurd cc
from-true true b x h = elim (cases_eq (length b % 4) 0) [
  | inl q ↦ (refl, q, λ z. let t = low-false true b x (λ e r. z) in cc)
  | inr q ↦ absurd (let t = low-false true b x (λ e r. absurd (q r)) in cc)
]

abbrev fault-of : Bool → Bool → ℕ → Option RunError
fault-of t w n = cond {A = Option RunError} t (Some (BadSample n)) (cond {A = Option RunError} w (Some SoundHeader) None)

fault-none : (t w : Bool) (n : ℕ) → fault-of t w n ≡ None → (t ≡ false) × (w ≡ false)
fault-none false false n h = (refl, refl)
fault-none false true n h = absurd (none-some _ (sym h))
fault-none true w n h = absurd (none-some _ (sym h))

fault-some : (t w : Bool) (n : ℕ) (e : RunError) → fault-of t w n ≡ Some e
    → ((t ≡ true) × (e ≡ BadSample n)) ⊎ ((t ≡ false) × (w ≡ true) × (e ≡ SoundHeader))
fault-some false false n e h = absurd (none-some _ h)
fault-some false true n e h = inr (refl, refl, sym (same_Some _ _ h))
fault-some true w n e h = inl (refl, sym (same_Some _ _ h))

-- with the byte x they end with the head of a sound file
abbrev with_byte : List ℕ → ℕ → Bool
with_byte b x = begins_sound (b ++ x ∷ [])

pub clean-byte : (pcm : SampleFormat) (exact : Bool) (form : Words) (change : Change) (b : List ℕ) (x : ℕ)
    → (asks_exact pcm exact ≡ true
    → length b % 4 ≡ 0 → x ≡ 0)
    → begins_sound (b ++ x ∷ []) ≡ false
    → (sampling pcm exact form change).fault b x ≡ None
unfolding sampling
clean-byte pcm exact form change b x h w = ap₂ (λ s t. fault-of s t (length b))
    (low-false (asks_exact pcm exact) b x h) w

sound-byte : (pcm : SampleFormat) (exact : Bool) (form : Words) (change : Change) (b : List ℕ) (x : ℕ)
    → (asks_exact pcm exact ≡ true → length b % 4 ≡ 0
    → x ≡ 0)
    → begins_sound (b ++ x ∷ []) ≡ true
    → (sampling pcm exact form change).fault b x ≡ Some SoundHeader
unfolding sampling
sound-byte pcm exact form change b x h w = ap₂ (λ s t. fault-of s t (length b))
    (low-false (asks_exact pcm exact) b x h) w

pub bad-byte : (pcm : SampleFormat) (exact : Bool) (form : Words) (change : Change) (b : List ℕ) (x : ℕ)
    → asks_exact pcm exact ≡ true
    → length b % 4 ≡ 0 → x ≢ 0
    → (sampling pcm exact form change).fault b x ≡ Some (BadSample (length b))
unfolding sampling
bad-byte pcm exact form change b x e q n = ap (λ t. fault-of t (with_byte b x) (length b))
    (low-true (asks_exact pcm exact) b x e q n)

pub byte-clean : (pcm : SampleFormat) (exact : Bool) (form : Words) (change : Change) (b : List ℕ) (x : ℕ)
    → (sampling pcm exact form change).fault b x ≡ None
    → (asks_exact pcm exact ≡ true → length b % 4 ≡ 0 → x ≡ 0) × (begins_sound (b ++ x ∷ []) ≡ false)
unfolding sampling
byte-clean pcm exact form change b x h =
    let q = fault-none (is_low (asks_exact pcm exact) b x) (with_byte b x) (length b) h in
    (from-false (asks_exact pcm exact) b x q.0, q.1)

-- a byte that is refused: the lowest of a sample, or the last of a header
pub record LowByte (exact : Bool) (b : List ℕ) (x : ℕ) (e : RunError) : Type 0 where
  pub is : e ≡ BadSample (length b)
  pub asked : exact ≡ true
  pub lowest : length b % 4 ≡ 0
  pub some : x ≢ 0

pub record HeaderByte (exact : Bool) (b : List ℕ) (x : ℕ) (e : RunError) : Type 0 where
  pub is : e ≡ SoundHeader
  pub bits : exact ≡ true → length b % 4 ≡ 0 → x ≡ 0
  pub header : begins_sound (b ++ x ∷ []) ≡ true

pub byte-bad : (pcm : SampleFormat) (exact : Bool) (form : Words) (change : Change) (b : List ℕ) (x : ℕ) (e : RunError)
    → (sampling pcm exact form change).fault b x ≡ Some e
    → LowByte (asks_exact pcm exact) b x e ⊎ HeaderByte (asks_exact pcm exact) b x e
unfolding sampling
byte-bad pcm exact form change b x e h = elim (fault-some (is_low (asks_exact pcm exact) b x) (with_byte b x)
    (length b) e h) [
      | inl q ↦ let r = from-true (asks_exact pcm exact) b x q.0 in inl
          (record { is = q.1; asked = r.0; lowest = r.1; some = r.2 })
      | inr q ↦ inr (record { is = q.2; bits = from-false (asks_exact pcm exact) b x q.0; header = q.1 })
    ]

-- no lowest byte of a sample of d behind b is set
abbrev pub ExactBehind : Bool → ℕ → List ℕ → Type 0
ExactBehind exact n d = exact ≡ true → (i : ℕ) → (n + i) % 4 ≡ 0 → get_or d i 0 ≡ 0

behind-head : (exact : Bool) (n x : ℕ) (d : List ℕ) → ExactBehind exact n (x ∷ d) → exact ≡ true → n % 4 ≡ 0 → x ≡ 0
behind-head exact n x d h e q = h e 0 (ap (λ k. k % 4) (let z : n + 0 ≡ n = omega arith in z) ∙ q)

behind-tail : (exact : Bool) (n x : ℕ) (d : List ℕ) (k : ℕ) → k ≡ n + 1 → ExactBehind exact n (x ∷ d)
    → ExactBehind exact k d
behind-tail exact n x d k q h e i r = h e (suc i) (ap (λ j. j % 4) (let z : n + suc i ≡ k + i = omega arith in z) ∙ r)

pub behind-cons : (exact : Bool) (n x : ℕ) (d : List ℕ) (k : ℕ) → k ≡ n + 1 → (exact ≡ true → n % 4 ≡ 0 → x ≡ 0)
    → ExactBehind exact k d → ExactBehind exact n (x ∷ d)
behind-cons exact n x d k q h t e zero r = h e (ap (λ j. j % 4) (let z : n ≡ n + 0 = omega arith in z) ∙ r)
behind-cons exact n x d k q h t e (suc i) r = t e i (ap (λ j. j % 4) (let z : k + i ≡ n + suc i = omega arith in z) ∙ r)

-- nothing of d behind b is refused
pub record CleanBehind (exact : Bool) (b d : List ℕ) : Type 0 where
  pub bits : ExactBehind exact (length b) d
  pub samples : begins_sound (b ++ d) ≡ false

pub one-more : (b d : List ℕ) (x : ℕ) → begins_sound ((b ++ x ∷ []) ++ d) ≡ begins_sound (b ++ x ∷ d)
one-more b d x = ap begins_sound (append_assoc b (x ∷ []) d)

pub exact-clean : (pcm : SampleFormat) (exact : Bool) (form : Words) (change : Change) (b d : List ℕ)
    → CleanBehind (asks_exact pcm exact) b d
    → fault_behind (sampling pcm exact form change) b d ≡ None
exact-clean pcm exact form change b [] h = refl
exact-clean pcm exact form change b (x ∷ d) h =
    let w = one-more b d x ∙ h.samples in
    ap (λ o. or_else o (fault_behind (sampling pcm exact form change) (b ++ x ∷ []) d))
    (clean-byte pcm exact form change b x (behind-head (asks_exact pcm exact) (length b) x d h.bits)
    (sound-front (b ++ x ∷ []) d w))
    ∙ exact-clean pcm exact form change (b ++ x ∷ []) d (record {
      bits = behind-tail (asks_exact pcm exact) (length b) x d (length (b ++ x ∷ [])) (length-append b (x ∷ [])) h.bits;
      samples = w;
    })

pub clean-exact : (pcm : SampleFormat) (exact : Bool) (form : Words) (change : Change) (b d : List ℕ)
    → begins_sound b ≡ false
    → fault_behind (sampling pcm exact form change) b d ≡ None
    → CleanBehind (asks_exact pcm exact) b d
clean-exact pcm exact form change b [] w h =
    record { bits = λ e i r. refl; samples = ap begins_sound (append-nil b) ∙ w }
clean-exact pcm exact form change b (x ∷ d) w h =
    go ((sampling pcm exact form change).fault b x) refl h (clean-exact pcm exact form change (b ++ x ∷ []) d)
  where
    go : (o : Option RunError) → (sampling pcm exact form change).fault b x ≡ o
        → or_else o (fault_behind (sampling pcm exact form change) (b ++ x ∷ []) d) ≡ None
        → (begins_sound (b ++ x ∷ []) ≡ false → fault_behind (sampling pcm exact form change) (b ++ x ∷ []) d ≡ None
        → CleanBehind (asks_exact pcm exact) (b ++ x ∷ []) d)
        → CleanBehind (asks_exact pcm exact) b (x ∷ d)
    go (Some e) q h next = absurd cc
    go None q h next = let c = byte-clean pcm exact form change b x q in let n = next c.1 h in record {
      bits = behind-cons (asks_exact pcm exact) (length b) x d (length (b ++ x ∷ []))
          (length-append b (x ∷ [])) c.0 n.bits;
      samples = sym (one-more b d x) ∙ n.samples;
    }

-- the head of a sound file that ends in d
sound-found : (pcm : SampleFormat) (exact : Bool) (form : Words) (change : Change) (b d : List ℕ)
    → ExactBehind (asks_exact pcm exact) (length b) d
    → begins_sound b ≡ false → begins_sound (b ++ d) ≡ true
    → fault_behind (sampling pcm exact form change) b d ≡ Some SoundHeader
sound-found pcm exact form change b [] h w e = absurd (let q = ap begins_sound (append-nil b) in cc)
sound-found pcm exact form change b (x ∷ d) h w e = elim (cases_Bool (with_byte b x)) [
  | inl q ↦ ap (λ o. or_else o more) (sound-byte pcm exact form change b x
      (behind-head (asks_exact pcm exact) (length b) x d h) q)
  | inr q ↦ ap (λ o. or_else o more) (clean-byte pcm exact form change b x
      (behind-head (asks_exact pcm exact) (length b) x d h) q)
      ∙ sound-found pcm exact form change (b ++ x ∷ []) d
      (behind-tail (asks_exact pcm exact) (length b) x d (length (b ++ x ∷ [])) (length-append b (x ∷ [])) h) q
      (one-more b d x ∙ e)
]
  where
    more : Option RunError
    more = fault_behind (sampling pcm exact form change) (b ++ x ∷ []) d

-- the whole input
pub all-exact : (exact : Bool) (b : List ℕ) → ExactBehind exact 0 b → AllExact exact b
all-exact exact b h e i r = h e i (ap (λ k. k % 4) (let z : 0 + i ≡ i = omega arith in z) ∙ r)

pub all-behind : (exact : Bool) (b : List ℕ) → AllExact exact b → ExactBehind exact 0 b
all-behind exact b h e i r = h e i (ap (λ k. k % 4) (let z : i ≡ 0 + i = omega arith in z) ∙ r)

pub clean-all : (pcm : SampleFormat) (exact : Bool) (form : Words) (change : Change) (b : List ℕ)
    → first_fault (sampling pcm exact form change) b ≡ None
    → AreSamples (asks_exact pcm exact) b
unfolding first_fault
clean-all pcm exact form change b h = let c = clean-exact pcm exact form change [] b sound-none h in
    record { bits = all-exact (asks_exact pcm exact) b c.bits; samples = c.samples }

-- more bytes
pub all-more : (exact : Bool) (b d : List ℕ) → AllExact exact b → ExactBehind exact (length b) d
    → AllExact exact (b ++ d)
all-more exact b d h t e i r = elim (cases_lt i (length b)) [
  | inl l ↦ get_or_append_left b d 0 i l ∙ h e i r
  | inr l ↦ get_or-append_right b d (length b) i 0 refl (omega arith)
      ∙ t e (i - length b) (ap (λ k. k % 4) (let z : length b + (i - length b) ≡ i = omega arith in z) ∙ r)
]

pub clean-more : (exact : Bool) (b d : List ℕ) → AreSamples exact b → CleanBehind exact b d → AreSamples exact (b ++ d)
clean-more exact b d h t = record { bits = all-more exact b d h.bits t.bits; samples = t.samples }

-- where only 24 bits are taken, no sample begins as that header does
exact-none : (exact : Bool) (b : List ℕ) → exact ≡ true → AllExact exact b → begins_sound b ≡ false
exact-none exact b e h = elim (cases_Bool (begins_sound b)) [
  | inl q ↦ absurd (elim (sound-head b q) [ inl n ↦ n (h e 0 refl) | inr n ↦ n (h e 4 refl) ])
  | inr q ↦ q
]

-- the samples before the first that has more bits
exact-all : (b : List ℕ) → ((i : ℕ) → i % 4 ≡ 0 → get_or b i 0 ≡ 0) → exact_words b ≡ words_of b
exact-all [] h = refl
exact-all (x ∷ []) h = refl
exact-all (x ∷ y ∷ []) h = refl
exact-all (x ∷ y ∷ z ∷ []) h = refl
exact-all (x ∷ y ∷ z ∷ w ∷ rest) h =
    ap (λ t. cond {A = List ℕ} t (word ∷ exact_words rest) []) (eq-eqb x 0 (h 0 refl))
    ∙ ap (λ ws. word ∷ ws) (exact-all rest (λ i r. h (suc (suc (suc (suc i)))) (ap (λ k. k) (omega arith))))
  where
    word : ℕ
    word = bytes_number (x ∷ y ∷ z ∷ w ∷ [])

exact-stop : (b : List ℕ) (x : ℕ) (d : List ℕ) → ((i : ℕ) → i % 4 ≡ 0 → get_or b i 0 ≡ 0) → length b % 4 ≡ 0 → x ≢ 0
    → exact_words (b ++ x ∷ d) ≡ words_of b
exact-stop [] x [] h l n = refl
exact-stop [] x (a ∷ []) h l n = refl
exact-stop [] x (a ∷ b ∷ []) h l n = refl
exact-stop [] x (a ∷ b ∷ c ∷ d) h l n =
    ap (λ t. cond {A = List ℕ} t (bytes_number (x ∷ a ∷ b ∷ c ∷ []) ∷ exact_words d) []) (ne_eqb x 0 n)
exact-stop (a ∷ []) x d h l n = absurd (omega arith)
exact-stop (a ∷ b ∷ []) x d h l n = absurd (omega arith)
exact-stop (a ∷ b ∷ c ∷ []) x d h l n = absurd (omega arith)
exact-stop (a ∷ b ∷ c ∷ e ∷ rest) x d h l n =
    ap (λ t. cond {A = List ℕ} t (word ∷ exact_words (rest ++ x ∷ d)) []) (eq-eqb a 0 (h 0 refl))
    ∙ ap (λ ws. word ∷ ws) (exact-stop rest x d (λ i r. h (suc (suc (suc (suc i)))) (omega arith)) (omega arith) n)
  where
    word : ℕ
    word = bytes_number (a ∷ b ∷ c ∷ e ∷ [])

words-all : (pcm : SampleFormat) (exact : Bool) (b : List ℕ) → AllExact (asks_exact pcm exact) b
    → sample_words pcm exact b ≡ words_in pcm b
words-all S32 false b h = refl
words-all S32 true b h = exact-all b (h refl)
words-all S24 exact b h = refl
words-all S24In32 exact b h = refl
words-all S16 exact b h = refl

words-stop : (pcm : SampleFormat) (exact : Bool) (b : List ℕ) (x : ℕ) (d : List ℕ) (e : RunError)
    → AllExact (asks_exact pcm exact) b → LowByte (asks_exact pcm exact) b x e
    → sample_words pcm exact (b ++ x ∷ d) ≡ words_in pcm b
words-stop S32 false b x d e h l = absurd (let q = l.asked in cc)
words-stop S32 true b x d e h l = exact-stop b x d (h refl) l.lowest l.some
words-stop S24 exact b x d e h l = absurd (let q = l.asked in cc)
words-stop S24In32 exact b x d e h l = absurd (let q = l.asked in cc)
words-stop S16 exact b x d e h l = absurd (let q = l.asked in cc)

begun-none : (pcm : SampleFormat) (exact : Bool) (form : Words) (change : Change) (b : List ℕ) → begins_sound b ≡ true
    → begun_pcm pcm exact form change b ≡ []
begun-none pcm exact form change b w = ap (λ t. cond {A = List ℕ} t []
    (sample_file form change (sample_words pcm exact b))) w

begun-some : (pcm : SampleFormat) (exact : Bool) (form : Words) (change : Change) (b : List ℕ) → begins_sound b ≡ false
    → begun_pcm pcm exact form change b ≡ sample_file form change (sample_words pcm exact b)
begun-some pcm exact form change b w = ap (λ t. cond {A = List ℕ} t []
    (sample_file form change (sample_words pcm exact b))) w

pub begun-all : (pcm : SampleFormat) (exact : Bool) (form : Words) (change : Change) (b : List ℕ)
    → AreSamples (asks_exact pcm exact) b
    → begun_pcm pcm exact form change b ≡ made pcm form change b
begun-all pcm exact form change b h = begun-some pcm exact form change b h.samples
    ∙ ap (sample_file form change) (words-all pcm exact b h.bits)

-- nothing of a header is written
begun-few : (pcm : SampleFormat) (exact : Bool) (form : Words) (change : Change) (b d : List ℕ)
    → AreSamples (asks_exact pcm exact) b
    → begins_sound (b ++ d) ≡ true
    → begun_pcm pcm exact form change (b ++ d) ≡ begun_pcm pcm exact form change b
begun-few pcm exact form change b d h w =
    let l = sound-short b d h.samples w in
    begun-none pcm exact form change (b ++ d) w ∙ sym (begun-all pcm exact form change b h
    ∙ made-short pcm form change b (header-short pcm (length b) l))

begun-stop : (pcm : SampleFormat) (exact : Bool) (form : Words) (change : Change) (b : List ℕ) (x : ℕ) (d : List ℕ)
    (e : RunError)
    → AreSamples (asks_exact pcm exact) b
    → LowByte (asks_exact pcm exact) b x e
    → begun_pcm pcm exact form change (b ++ x ∷ d) ≡ begun_pcm pcm exact form change b
begun-stop pcm exact form change b x d e h l = elim (cases_Bool (begins_sound (b ++ x ∷ d))) [
  | inl w ↦ begun-few pcm exact form change b (x ∷ d) h w
  | inr w ↦ begun-some pcm exact form change (b ++ x ∷ d) w
      ∙ ap (sample_file form change) (words-stop pcm exact b x d e h.bits l)
      ∙ sym (begun-all pcm exact form change b h)
]

-- what the conversion writes
adds-is : (pcm : SampleFormat) (exact : Bool) (form : Words) (change : Change) (b : List ℕ) (x : ℕ)
    → (sampling pcm exact form change).adds b x ≡ more_of (made pcm form change b) (made pcm form change (b ++ x ∷ []))
unfolding sampling
adds-is pcm exact form change b x = refl

one-behind : (exact : Bool) (b : List ℕ) (x : ℕ) → (exact ≡ true → length b % 4 ≡ 0 → x ≡ 0)
    → begins_sound (b ++ x ∷ []) ≡ false
    → CleanBehind exact b (x ∷ [])
one-behind exact b x h w =
    record { bits = behind-cons exact (length b) x [] (length b + 1) refl h (λ e i r. refl); samples = w }

pub out-samples : (pcm : SampleFormat) (exact : Bool) (form : Words) (change : Change) (b : List ℕ)
    → out (sampling pcm exact form change) b ≡ begun_pcm pcm exact form change b
out-samples pcm exact form change = out-is (sampling pcm exact form change) (begun_pcm pcm exact form change)
    (begun-all pcm exact form change [] (record { bits = λ e i r. refl; samples = sound-none })
    ∙ made-short pcm form change [] (no-byte pcm)) more stays
  where
    more : (b : List ℕ) (x : ℕ) → first_fault (sampling pcm exact form change) b ≡ None
        → (sampling pcm exact form change).fault b x ≡ None
        → begun_pcm pcm exact form change (b ++ x ∷ []) ≡ begun_pcm pcm exact form change b ++
        (sampling pcm exact form change).adds b x
    more b x c e =
        let h = clean-all pcm exact form change b c in
        let q = byte-clean pcm exact form change b x e in
        let k = clean-more (asks_exact pcm exact) b (x ∷ []) h (one-behind (asks_exact pcm exact) b x q.0 q.1) in
        begun-all pcm exact form change (b ++ x ∷ []) k ∙ any-more pcm form change b (x ∷ [])
        ∙ ap₂ ◌++◌ (sym (begun-all pcm exact form change b h)) (sym (adds-is pcm exact form change b x))

    stays : (b : List ℕ) (x : ℕ) (d : List ℕ) (e : RunError) → first_fault (sampling pcm exact form change) b ≡ None
        → (sampling pcm exact form change).fault b x ≡ Some e
        → begun_pcm pcm exact form change (b ++ x ∷ d) ≡ begun_pcm pcm exact form change b
    stays b x d e c q = elim (byte-bad pcm exact form change b x e q) [
      | inl r ↦ begun-stop pcm exact form change b x d e (clean-all pcm exact form change b c) r
      | inr r ↦ begun-few pcm exact form change b (x ∷ d) (clean-all pcm exact form change b c)
          (sym (one-more b d x) ∙ sound-more (b ++ x ∷ []) d r.header)
    ]

first-clean : (pcm : SampleFormat) (exact : Bool) (form : Words) (change : Change) (b : List ℕ)
    → AreSamples (asks_exact pcm exact) b
    → fault_behind (sampling pcm exact form change) [] b ≡ None
first-clean pcm exact form change b h =
    exact-clean pcm exact form change [] b (record {
      bits = all-behind
          (asks_exact pcm exact) b h.bits;
      samples = h.samples;
    })

-- a header of which the bytes b are the beginning writes nothing
sound-writes : (pcm : SampleFormat) (exact : Bool) (form : Words) (change : Change) (b d : List ℕ)
    → AreSamples (asks_exact pcm exact) b
    → begins_sound (b ++ d) ≡ true
    → out_behind (sampling pcm exact form change) b d ≡ []
unfolding out
sound-writes pcm exact form change b d h w =
    let l = sound-short b d h.samples w in
    let s : out (sampling pcm exact form change) b ≡ [] =
    out-samples pcm exact form change b ∙ begun-all pcm exact form change b h
    ∙ made-short pcm form change b (header-short pcm (length b) l) in
    ap (λ v. v ++ out_behind (sampling pcm exact form change) b d) (sym s)
    ∙ sym (behind-clean (sampling pcm exact form change) [] b d (first-clean pcm exact form change b h))
    ∙ out-samples pcm exact form change (b ++ d) ∙ begun-none pcm exact form change (b ++ d) w

-- what clean bytes write behind clean bytes
pub behind-made : (pcm : SampleFormat) (exact : Bool) (form : Words) (change : Change) (b d : List ℕ)
    → AreSamples (asks_exact pcm exact) b
    → CleanBehind (asks_exact pcm exact) b d
    → made pcm form change (b ++ d) ≡ made pcm form change b ++ out_behind (sampling pcm exact form change) b d
unfolding first_fault out
behind-made pcm exact form change b d h t =
    sym (begun-all pcm exact form change (b ++ d) (clean-more (asks_exact pcm exact) b d h t))
    ∙ sym (out-samples pcm exact form change (b ++ d))
    ∙ behind-clean (sampling pcm exact form change) [] b d (first-clean pcm exact form change b h)
    ∙ ap (λ z. z ++ out_behind (sampling pcm exact form change) b d) (out-samples pcm exact form change b
    ∙ begun-all pcm exact form change b h)

-- ---- the end

pub end-whole : (pcm : SampleFormat) (exact : Bool) (form : Words) (k : Change) (b : List ℕ)
    → length b % frame_len pcm ≡ 0
    → (sampling pcm exact form k).end_fault b ≡ None
unfolding sampling
end-whole pcm exact form k b h = ap (λ t. cond {A = Option RunError} t None
    (Some (BadLength (length b % frame_len pcm))))
    (eq-eqb (length b % frame_len pcm) 0 h)

pub end-left : (pcm : SampleFormat) (exact : Bool) (form : Words) (k : Change) (b : List ℕ) (left : ℕ)
    → left ≡ length b % frame_len pcm
    → 0 < left
    → (sampling pcm exact form k).end_fault b ≡ Some (BadLength left)
unfolding sampling
end-left pcm exact form k b left e h =
    ap (λ t. cond {A = Option RunError} t None (Some (BadLength (length b % frame_len pcm))))
    (ne_eqb (length b % frame_len pcm) 0 (λ q. omega arith))
    ∙ ap (λ n. Some (BadLength n)) (sym e)

-- ---- a front of a piece

-- the same from the place in a sample
place-behind : (exact : Bool) (n k : ℕ) (d : List ℕ) → k ≡ n → ExactBehind exact k d → ExactBehind exact n d
place-behind exact n k d e h t i r = h t i (ap (λ j. (j + i) % 4) e ∙ r)

-- what is known of the bytes d that come next: nothing of them is refused
pub record CleanHere (exact : Bool) (seen : ℕ) (held d : List ℕ) : Type 0 where
  pub bits : ExactBehind exact seen d
  pub samples : seen < sound_head_len → begins_sound (held ++ d) ≡ false

module _ (pcm : SampleFormat) (exact : Bool) (form : Words) (change : Change) (seen at : ℕ) (begun : List ℕ)
    (size : length begun ≡ 1536) (few : at < block_len pcm) (room : block_len pcm ≤ 1536) where
  abbrev held : List ℕ
  held = take at begun

  held-length : length held ≡ at
  held-length = length-take-le at begun (omega (arith, size, few, room))

  -- while they are fewer than a header has, they are all held
  held-all : (b : List ℕ) → Samples pcm exact seen at begun b → seen < sound_head_len → b ≡ held
  held-all b h l =
      let c = h.count in
      let w = h.whole in
      let n : length b ≡ length h.before + length held = ap length h.bytes ∙ length-append h.before held in
      let z : length h.before ≡ 0 = none-before pcm (length h.before) w (omega arith) in
      h.bytes ∙ ap (λ p. p ++ held) (nil_from_length h.before z)

  still : (b d : List ℕ) → Samples pcm exact seen at begun b
      → (seen < sound_head_len → begins_sound (held ++ d) ≡ false)
      → begins_sound (b ++ d) ≡ false
  still b d h w = elim (cases_lt seen sound_head_len) [
    | inl l ↦ ap (λ v. begins_sound (v ++ d)) (held-all b h l) ∙ w l
    | inr l ↦ sound-settled b d (let c = h.count in omega arith) ∙ h.clean.samples
  ]

  at-place : (b d : List ℕ) → Samples pcm exact seen at begun b → ExactBehind (asks_exact pcm exact) seen d
      → ExactBehind (asks_exact pcm exact) (length b) d
  at-place b d h t = place-behind (asks_exact pcm exact) (length b) seen d h.count t

  behind : (b d : List ℕ) → Samples pcm exact seen at begun b → CleanHere (asks_exact pcm exact) seen held d
      → CleanBehind (asks_exact pcm exact) b d
  behind b d h t = record { bits = at-place b d h t.bits; samples = still b d h t.samples }

  -- what clean bytes write behind those that were taken
  writes : (b d : List ℕ) → Samples pcm exact seen at begun b → CleanBehind (asks_exact pcm exact) b d
      → made pcm form change (held ++ d) ≡ out_behind (sampling pcm exact form change) b d
  writes b d h t =
      let p = h.before in
      let e : b ≡ p ++ held = h.bytes in
      append_cancel_left (made pcm form change b) (made pcm form change (held ++ d)) (out_behind
      (sampling pcm exact form change) b d)
      (sym (ap (λ v. made pcm form change (v ++ d)) e ∙ made-more pcm form change p held d h.whole
      (subst (λ n. n < block_len pcm) (sym held-length) few)
      ∙ ap (λ v. made pcm form change v ++ made pcm form change (held ++ d)) (sym e))
      ∙ behind-made pcm exact form change b d h.clean t)

  -- with the bytes d the block is not yet whole, or it is
  abbrev NextAt : ℕ → ℕ → Type 0
  NextAt n next_at = ((at + n < block_len pcm) × (next_at ≡ at + n)) ⊎ ((at + n ≡ block_len pcm) × (next_at ≡ 0))

  next : (b d new : List ℕ) (n next_at : ℕ) → length d ≡ n → Samples pcm exact seen at begun b
      → CleanBehind (asks_exact pcm exact) b d → NextAt n next_at → take (at + n) new ≡ held ++ d
      → Samples pcm exact (seen + n) next_at new (b ++ d)
  next b d new n next_at q h t l e = elim l [
    | inl r ↦ record {
      before = h.before;
      whole = h.whole;
      bytes = ap (λ v. v ++ d) h.bytes ∙ append_assoc h.before held d
          ∙ ap (λ v. h.before ++ v) (sym e ∙ ap (λ k. take k new) (sym r.1));
      count = count;
      clean = clean-more (asks_exact pcm exact) b d h.clean t;
    }
    | inr r ↦ record {
      before = b ++ d;
      whole = one-block pcm (length h.before) (length (b ++ d)) h.whole (let k = size_of in let m = r.0 in omega arith);
      bytes = sym (append-nil (b ++ d)) ∙ ap (λ k. b ++ d ++ take k new) (sym r.1);
      count = count;
      clean = clean-more (asks_exact pcm exact) b d h.clean t;
    }
  ]
    where
      count : seen + n ≡ length (b ++ d)
      count = ap₂ ◌+◌ h.count (sym q) ∙ sym (length-append b d)

      size_of : length (b ++ d) ≡ length h.before + (at + n)
      size_of =
          let l = length-append b d in
          let k = ap length h.bytes ∙ length-append h.before held in
          let m = held-length in
          omega arith

  pub front-fed : (d new : List ℕ) (n next_at : ℕ) (t t' : Option (List ℕ)) → length d ≡ n
      → CleanHere (asks_exact pcm exact) seen held d
      → NextAt n next_at → take (at + n) new ≡ held ++ d
      → Grew t t' (made pcm form change (held ++ d))
      → Fed (sampling pcm exact form change) (sampling pcm exact form change) (Samples pcm exact seen at begun)
      (Samples pcm exact (seen + n) next_at new) t t' d
  front-fed d new n next_at t t' q x l e g = record {
    same = refl;
    clean = λ b h. exact-clean pcm exact form change b d (behind b d h x);
    follows = λ b h. next b d new n next_at q h (behind b d h x) l e;
    grew = λ b h. grew-is (writes b d h (behind b d h x)) g;
  }

  pub front-part : (d rest xs : List ℕ) (t t' : Option (List ℕ)) → CleanHere (asks_exact pcm exact) seen held d
      → d ++ rest ≡ xs
      → GrewFront t t' (made pcm form change (held ++ d))
      → (b : List ℕ) → Samples pcm exact seen at begun b
      → GrewFront t t' (out_behind (sampling pcm exact form change) b xs)
  front-part d rest xs t t' x e g b h = front-longer (sampling pcm exact form change) b d rest xs e (front-is
      (writes b d h (behind b d h x)) g)

  -- the head of a sound file that ends in the bytes d
  pub front-header : (s : List ℕ → Type 0) (d rest xs : List ℕ) (t : Option (List ℕ)) → ((b : List ℕ) → s b)
      → ExactBehind (asks_exact pcm exact) seen d → d ++ rest ≡ xs → seen < sound_head_len
      → begins_sound (held ++ d) ≡ true
      → Stopped (sampling pcm exact form change) (Samples pcm exact seen at begun) s t t xs SoundHeader
  front-header s d rest xs t any x e l w = record {
    fault = λ b h. ap (fault_behind (sampling pcm exact form change) b) (sym e)
        ∙ fault-first (sampling pcm exact form change) b d rest SoundHeader
        (sound-found pcm exact form change b d (at-place b d h x) h.clean.samples (ends b h));
    left = λ b h. any _;
    grew = λ b h. grew-is
        (sym (ap (out_behind (sampling pcm exact form change) b) (sym e)
        ∙ sound-writes pcm exact form change b (d ++ rest) h.clean
        (ap begins_sound (sym (append_assoc b d rest)) ∙ sound-more (b ++ d) rest (ends b h))))
        (grew-none refl);
  }
    where
      ends : (b : List ℕ) → Samples pcm exact seen at begun b → begins_sound (b ++ d) ≡ true
      ends b h = ap (λ v. begins_sound (v ++ d)) (held-all b h l) ∙ w

  -- the first byte that is refused
  pub front-stopped : (s : List ℕ → Type 0) (i : ℕ) (xs : List ℕ) (t : Option (List ℕ)) → ((b : List ℕ) → s b)
      → asks_exact pcm exact ≡ true → i < length xs → at + i < block_len pcm → (seen + i) % 4 ≡ 0
      → get_or xs i 0 ≢ 0 → ((j : ℕ) → j < i → (seen + j) % 4 ≡ 0 → get_or xs j 0 ≡ 0)
      → Stopped (sampling pcm exact form change) (Samples pcm exact seen at begun) s t t xs (BadSample (seen + i))
  front-stopped s i xs t any e w f m n first = record {
    fault = λ b h. ap (fault_behind (sampling pcm exact form change) b) (sym parts)
        ∙ fault-clean (sampling pcm exact form change) b d (x ∷ rest)
        (exact-clean pcm exact form change b d (clean b h))
        ∙ ap (λ o. or_else o (fault_behind (sampling pcm exact form change) ((b ++ d) ++ x ∷ []) rest)) (here b h);
    left = λ b h. any _;
    grew = λ b h. grew-is
        (sym (ap (out_behind (sampling pcm exact form change) b) (sym parts)
        ∙ behind-clean (sampling pcm exact form change) b d (x ∷ rest)
        (exact-clean pcm exact form change b d (clean b h))
        ∙ ap (λ v. v ++ out_behind (sampling pcm exact form change) (b ++ d) (x ∷ rest)) (sym (writes b d h (clean b h))
        ∙ made-short pcm form change (held ++ d) short)
        ∙ ap (λ o. unless o
        ((sampling pcm exact form change).adds (b ++ d) x ++ out_behind (sampling pcm exact form change)
        ((b ++ d) ++ x ∷ []) rest))
        (here b h)))
        (grew-none refl);
  }
    where
      d : List ℕ
      d = take i xs

      x : ℕ
      x = get_or xs i 0

      rest : List ℕ
      rest = drop (i + 1) xs

      parts : d ++ x ∷ rest ≡ xs
      parts = ap (λ v. d ++ v) (sym (drop_more xs i 0 w)) ∙ take-append-drop i xs

      count : length d ≡ i
      count = length-take-le i xs (omega arith)

      before : ExactBehind (asks_exact pcm exact) seen d
      before q j r = elim (cases_lt j i) [
        | inl l ↦ get_or-take i xs j 0 l ∙ first j l r
        | inr l ↦ get_or_past d j 0 (let c = count in omega arith)
      ]

      clean : (b : List ℕ) → Samples pcm exact seen at begun b → CleanBehind (asks_exact pcm exact) b d
      clean b h = let k = at-place b d h before in record {
        bits = k;
        samples = exact-none (asks_exact pcm exact) (b ++ d) e (all-more (asks_exact pcm exact) b d h.clean.bits k);
      }

      short : length (held ++ d) < block_len pcm
      short = let l = length-append held d in let h = held-length in let c = count in omega arith

      here : (b : List ℕ) → Samples pcm exact seen at begun b
          → (sampling pcm exact form change).fault (b ++ d) x ≡ Some (BadSample (seen + i))
      here b h =
          let l = length-append b d in
          let c = count in
          let k = h.count in
          let p : length (b ++ d) ≡ seen + i = omega arith in
          bad-byte pcm exact form change (b ++ d) x e (ap (λ v. v % 4) p ∙ m) n ∙ ap (λ v. Some (BadSample v)) p

  -- what the end writes
  ends-tail : (b : List ℕ) → Samples pcm exact seen at begun b → seen % frame_len pcm ≡ 0 → 0 < at
      → (sampling pcm exact form change).ends b ≡ made pcm form change (held ++ replicate (block_len pcm - at) 0)
  unfolding sampling
  ends-tail b h e w =
      let z : List ℕ = replicate (block_len pcm - at) 0 in
      let q : b ≡ h.before ++ held = h.bytes in
      let l : length b % frame_len pcm ≡ 0 = ap (λ n. n % frame_len pcm) (sym h.count) ∙ e in
      let s : length b ≡ length h.before + at = ap length q ∙ length-append h.before held
      ∙ ap (λ n. length h.before + n) held-length in
      let k : sample_len pcm * pad_of pcm (length b) ≡ block_len pcm - at = sym (pad-is pcm (length b) (length h.before)
      at l h.whole s few w) in
      let f : pcm_words pcm form change b ≡ made pcm form change b ++ made pcm form change (held ++ z) =
      ap (sample_file form change) (pad-words pcm b l) ∙ ap (λ n. made pcm form change (b ++ replicate n 0)) k
      ∙ ap (λ v. made pcm form change (v ++ z)) q
      ∙ made-more pcm form change h.before held z h.whole (subst (λ n. n < block_len pcm) (sym held-length) few)
      ∙ ap (λ v. made pcm form change v ++ made pcm form change (held ++ z)) (sym q) in
      ap (more_of (made pcm form change b)) f ∙ more-join (made pcm form change b) (made pcm form change (held ++ z))

  ends-none : (b : List ℕ) → Samples pcm exact seen at begun b → seen % frame_len pcm ≡ 0 → at ≡ 0
      → (sampling pcm exact form change).ends b ≡ []
  unfolding sampling
  ends-none b h e w =
      let l : length b % frame_len pcm ≡ 0 = ap (λ n. n % frame_len pcm) (sym h.count) ∙ e in
      let p : b ≡ h.before = h.bytes ∙ ap (λ n. h.before ++ take n begun) w ∙ append-nil h.before in
      let k : pad_of pcm (length b) ≡ 0 = pad-none pcm (length b) (ap (λ v. length v % block_len pcm) p ∙ h.whole) in
      let f : pcm_words pcm form change b ≡ made pcm form change b ++ [] =
      ap (sample_file form change) (filled-in pcm b)
      ∙ ap (λ n. sample_file form change (words_in pcm b ++ replicate n 0)) k
      ∙ ap (sample_file form change) (append-nil (words_in pcm b)) ∙ sym (append-nil (made pcm form change b)) in
      ap (more_of (made pcm form change b)) f ∙ more-join (made pcm form change b) []

  frames : (b : List ℕ) → Samples pcm exact seen at begun b → seen % frame_len pcm ≡ 0
      → (sampling pcm exact form change).end_fault b ≡ None
  frames b h e = end-whole pcm exact form change b (ap (λ n. n % frame_len pcm) (sym h.count) ∙ e)

  pub end-none : (z : List ℕ → Type 0) (t : Option (List ℕ)) → ((b : List ℕ) → z b) → seen % frame_len pcm ≡ 0
      → at ≡ 0
      → (b : List ℕ) → Samples pcm exact seen at begun b
      → ((sampling pcm exact form change).end_fault b ≡ None) × z b
      × Grew t t ((sampling pcm exact form change).ends b)
  end-none z t any e w b h = (frames b h e, any b, grew-is (sym (ends-none b h e w)) (grew-none refl))

  pub end-tail : (z : List ℕ → Type 0) (t t' : Option (List ℕ)) → ((b : List ℕ) → z b) → seen % frame_len pcm ≡ 0
      → 0 < at → Grew t t' (made pcm form change (held ++ replicate (block_len pcm - at) 0))
      → (b : List ℕ) → Samples pcm exact seen at begun b
      → ((sampling pcm exact form change).end_fault b ≡ None) × z b
      × Grew t t' ((sampling pcm exact form change).ends b)
  end-tail z t t' any e w g b h = (frames b h e, any b, grew-is (sym (ends-tail b h e w)) g)

  pub end-part : (t t' : Option (List ℕ)) → seen % frame_len pcm ≡ 0 → 0 < at
      → GrewFront t t' (made pcm form change (held ++ replicate (block_len pcm - at) 0))
      → (b : List ℕ) → Samples pcm exact seen at begun b
      → ((sampling pcm exact form change).end_fault b ≡ None)
      × GrewFront t t' ((sampling pcm exact form change).ends b)
  end-part t t' e w g b h = (frames b h e, front-is (sym (ends-tail b h e w)) g)

  pub end-refused : (s : List ℕ → Type 0) (t : Option (List ℕ)) (left : ℕ) → ((b : List ℕ) → s b)
      → left ≡ seen % frame_len pcm → 0 < left
      → (b : List ℕ) → Samples pcm exact seen at begun b
      → ((sampling pcm exact form change).end_fault b ≡ Some (BadLength left))
      × s b × Grew t t []
  end-refused s t left any e w b h = (
    end-left pcm exact form change b left (e ∙ ap (λ n. n % frame_len pcm) h.count) w,
    any b,
    grew-none refl,
  )

-- bytes put after the bytes that were held
pub put-behind : (at n : ℕ) (begun xs new : List ℕ) → n ≤ length xs → at + n ≤ length begun → new ≡ take n xs
    → (take (at + n) (put_mid at (at + n - at) begun new) ≡ take at begun ++ take n xs)
    × (length (take at begun ++ take n xs) ≡ at + n)
put-behind at n begun xs new some room d =
    let l = length-take-le n xs some in
    let y = ap length d in
    let h = length-take-le at begun (omega arith) in
    let j = length-append (take at begun) (take n xs) in (
      take-put_mid at (at + n - at) begun new (at + n) (omega arith) (omega arith) ∙ ap (λ v. take at begun ++ v) d,
      omega arith,
    )

-- zeros put behind the bytes that were held, up to the end of a block
pub fill-front : (n len k : ℕ) (begun ys : List ℕ) → length begun ≡ 1536 → n ≤ len → len ≤ 1536
    → k ≡ 1536 - n → ys ≡ replicate k 0
    → take len (put_mid n k begun ys) ≡ take n begun ++ replicate (len - n) 0
fill-front n len k begun ys l le room e z =
    let h : length (take n begun) ≡ n = length-take-le n begun (omega arith) in
    let w : put_mid n k begun ys ≡ take n begun ++ ys =
    ap (λ v. take n begun ++ (ys ++ v)) (drop-drop k n begun ∙ drop_all (n + k) begun (omega arith))
    ∙ ap (λ v. take n begun ++ v) (append-nil ys) in
    ap (take len) w
    ∙ ap (λ m. take m (take n begun ++ ys)) (let q : len ≡ length (take n begun) + (len - n) = omega arith in q)
    ∙ take-append-add (take n begun) ys (len - n)
    ∙ ap (λ v. take n begun ++ v) (ap (take (len - n)) z ∙ take-replicate (len - n) k 0 (omega arith))

-- a block of which its first bytes are these
pub block-made : (pcm : SampleFormat) (form : Words) (change : Change) (new whole : List ℕ)
    → take (block_len pcm) new ≡ whole → length whole ≡ block_len pcm
    → block_words form (rewritten change (map payload_of_sample (words_in pcm (take (block_len pcm) new))))
    ≡ made pcm form change whole
block-made pcm form change new whole e l =
    ap (λ v. block_words form (rewritten change (map payload_of_sample (words_in pcm v)))) e
    ∙ sym (made-one pcm form change whole l)

-- an input that has taken nothing
pub starts : (pcm : SampleFormat) (exact : Bool) (begun : List ℕ) → Samples pcm exact 0 0 begun []
starts pcm exact begun = record {
  before = [];
  whole = zero-whole pcm;
  bytes = refl;
  count = refl;
  clean = record {
    bits = λ e i r. refl;
    samples = sound-none;
  };
}
