-- The samples of bytes in a form, as words, and how many they are.
use Rattle.std.proofs.Common.{◌≡◌, ℕ, ◌+◌, ◌-◌, ◌*◌, ◌/◌, ◌%◌, ◌<◌, ◌≤◌, List, [], ◌∷◌, ◌++◌, length, take}
use Rattle.std.proofs.Common.{replicate, refl}
use Rattle.std.proofs.Common.{inl, inr, sym, ap, ◌∙◌, arith}
use Rattle.std.proofs.lemmas.List.{take_all}
use Rattle.std.specs.Int.{div_ceil}
use Rattle.std.proofs.lemmas.Bool.{cases_eq}
use Rattle.aes3_frame.specs.Blocks.{block_subframes}
use Rattle.aes3_frame.specs.Files.{bytes_number, words_of}
use Rattle.aes3_frame.specs.Sampled.{sampled, filled}
use Rattle.aes3_frame.proofs.SampleBlocks.{length-filled, length-sampled, words-join, words-zeros}
use Rattle.aes3_frame.proofs.Words.{length-words}
use Rattle.aes3_forms_samples.specs.declared.sample_format.SampleFormat.{SampleFormat}
use Rattle.aes3_forms_samples.specs.declared.sample_format.SampleFormat.TheVariants.{S32, S24, S24In32, S16}
use Rattle.aes3_forms_samples.specs.Formats.{block_len, frame_len, sample_len, widened}
use Rattle.aes3_forms_samples.proofs.Formats.{length-widened, widened-join, widened-more, widened-whole, widened-zeros}
use Rattle.aes3_engine.specs.Sampling.{words_in}
use Rattle.aes3_files.specs.Sound.{sound_head_len}

-- how many samples
pub length-in : (pcm : SampleFormat) (b : List ℕ) → length (words_in pcm b) ≡ length b / sample_len pcm
length-in pcm b = length-words (widened pcm b) ∙ length-widened pcm b

-- bytes one behind the other
pub in-join : (pcm : SampleFormat) (p q : List ℕ) → length p % sample_len pcm ≡ 0
    → words_in pcm (p ++ q) ≡ words_in pcm p ++ words_in pcm q
in-join pcm p q h =
    ap words_of (widened-join pcm p q h)
    ∙ words-join (widened pcm p) (widened pcm q) (widened-whole pcm p h)

words-more : (b d : List ℕ) → (vs : List ℕ) × (words_of (b ++ d) ≡ words_of b ++ vs)
words-more [] d = (words_of d, refl)
words-more (x ∷ []) d = (words_of (x ∷ d), refl)
words-more (x ∷ y ∷ []) d = (words_of (x ∷ y ∷ d), refl)
words-more (x ∷ y ∷ z ∷ []) d = (words_of (x ∷ y ∷ z ∷ d), refl)
words-more (x ∷ y ∷ z ∷ w ∷ b) d = let r = words-more b d in
    (r.0, ap (λ ws. bytes_number (x ∷ y ∷ z ∷ w ∷ []) ∷ ws) r.1)

pub in-more : (pcm : SampleFormat) (b d : List ℕ) → (vs : List ℕ) × (words_in pcm (b ++ d) ≡ words_in pcm b ++ vs)
in-more pcm b d =
    let r = widened-more pcm b d in
    let w = words-more (widened pcm b) r.0 in
    (w.0, ap words_of r.1 ∙ w.1)

-- zeros
pub in-zeros : (pcm : SampleFormat) (n : ℕ) → words_in pcm (replicate (sample_len pcm * n) 0) ≡ replicate n 0
in-zeros pcm n = ap words_of (widened-zeros pcm n) ∙ words-zeros n

-- whole blocks
pub whole-samples : (pcm : SampleFormat) (n : ℕ) → n % block_len pcm ≡ 0 → n % sample_len pcm ≡ 0
unfolding block_len
whole-samples S32 n h = omega arith
whole-samples S24 n h = omega arith
whole-samples S24In32 n h = omega arith
whole-samples S16 n h = omega arith

slots-of : (pcm : SampleFormat) (n : ℕ) → n % block_len pcm ≡ 0 → n / sample_len pcm % block_subframes ≡ 0
unfolding block_len block_subframes
slots-of S32 n h = omega arith
slots-of S24 n h = omega arith
slots-of S24In32 n h = omega arith
slots-of S16 n h = omega arith

pub whole-words : (pcm : SampleFormat) (b : List ℕ) → length b % block_len pcm ≡ 0
    → length (words_in pcm b) % block_subframes ≡ 0
whole-words pcm b h = ap (λ n. n % block_subframes) (length-in pcm b) ∙ slots-of pcm (length b) h

few-slots : (pcm : SampleFormat) (n : ℕ) → n < block_len pcm → n / sample_len pcm < block_subframes
unfolding block_len block_subframes
few-slots S32 n h = omega arith
few-slots S24 n h = omega arith
few-slots S24In32 n h = omega arith
few-slots S16 n h = omega arith

pub few-words : (pcm : SampleFormat) (b : List ℕ) → length b < block_len pcm → length (words_in pcm b) < block_subframes
few-words pcm b h = let l = length-in pcm b in let f = few-slots pcm (length b) h in omega (l, f, arith)

all-slots : (pcm : SampleFormat) → block_len pcm / sample_len pcm ≡ block_subframes
unfolding block_len block_subframes
all-slots S32 = refl
all-slots S24 = refl
all-slots S24In32 = refl
all-slots S16 = refl

pub all-words : (pcm : SampleFormat) (b : List ℕ) → length b ≡ block_len pcm → length (words_in pcm b) ≡ block_subframes
all-words pcm b h = length-in pcm b ∙ ap (λ n. n / sample_len pcm) h ∙ all-slots pcm

-- before the end of a header there is no whole block
pub none-before : (pcm : SampleFormat) (n : ℕ) → n % block_len pcm ≡ 0 → n < sound_head_len → n ≡ 0
unfolding block_len
none-before S32 n h l = omega arith
none-before S24 n h l = omega arith
none-before S24In32 n h l = omega arith
none-before S16 n h l = omega arith

pub header-short : (pcm : SampleFormat) (n : ℕ) → n < sound_head_len → n < block_len pcm
unfolding block_len
header-short S32 n l = omega arith
header-short S24 n l = omega arith
header-short S24In32 n l = omega arith
header-short S16 n l = omega arith

pub no-byte : (pcm : SampleFormat) → 0 < block_len pcm
no-byte pcm = header-short pcm 0 (omega arith)

-- one more block
pub one-block : (pcm : SampleFormat) (n k : ℕ) → n % block_len pcm ≡ 0 → k ≡ n + block_len pcm → k % block_len pcm ≡ 0
unfolding block_len
one-block S32 n k h e = omega arith
one-block S24 n k h e = omega arith
one-block S24In32 n k h e = omega arith
one-block S16 n k h e = omega arith

-- how many zeros fill a block up: n bytes are whole frames, of which m are whole blocks
abbrev pub pad_of : SampleFormat → ℕ → ℕ
pad_of pcm n = (block_subframes - n / sample_len pcm % block_subframes) % block_subframes

pub pad-is : (pcm : SampleFormat) (n m at : ℕ) → n % frame_len pcm ≡ 0 → m % block_len pcm ≡ 0 → n ≡ m + at
    → at < block_len pcm → 0 < at → block_len pcm - at ≡ sample_len pcm * pad_of pcm n
unfolding block_len block_subframes
pad-is S32 n m at h w e l s = omega arith
pad-is S24 n m at h w e l s = omega arith
pad-is S24In32 n m at h w e l s = omega arith
pad-is S16 n m at h w e l s = omega arith

pub pad-none : (pcm : SampleFormat) (n : ℕ) → n % block_len pcm ≡ 0 → pad_of pcm n ≡ 0
unfolding block_len block_subframes
pad-none S32 n h = omega arith
pad-none S24 n h = omega arith
pad-none S24In32 n h = omega arith
pad-none S16 n h = omega arith

pub frame-samples : (pcm : SampleFormat) (n : ℕ) → n % frame_len pcm ≡ 0 → n % sample_len pcm ≡ 0
frame-samples S32 n h = omega arith
frame-samples S24 n h = omega arith
frame-samples S24In32 n h = omega arith
frame-samples S16 n h = omega arith

pub filled-in : (pcm : SampleFormat) (b : List ℕ) → filled (words_in pcm b)
    ≡ words_in pcm b ++ replicate (pad_of pcm (length b)) 0
filled-in pcm b =
    ap (λ n. words_in pcm b ++ replicate ((block_subframes - n % block_subframes) % block_subframes) 0) (length-in pcm b)

pub pad-words : (pcm : SampleFormat) (b : List ℕ) → length b % frame_len pcm ≡ 0
    → filled (words_in pcm b) ≡ words_in pcm (b ++ replicate (sample_len pcm * pad_of pcm (length b)) 0)
pad-words pcm b h =
    filled-in pcm b
    ∙ sym (in-join pcm b (replicate (sample_len pcm * pad_of pcm (length b)) 0) (frame-samples pcm (length b) h)
    ∙ ap (λ v. words_in pcm b ++ v) (in-zeros pcm (pad_of pcm (length b))))

-- how many blocks
blocks-of : (pcm : SampleFormat) (n w f : ℕ) → n % frame_len pcm ≡ 0 → w ≡ n / sample_len pcm
    → f ≡ w + (384 - w % 384) % 384 → div_ceil n (block_len pcm) ≡ f / 384
unfolding block_len
blocks-of S32 n w f h e g = elim (cases_eq (n % 1536) 0) [ inl q ↦ omega arith | inr q ↦ omega arith ]
blocks-of S24 n w f h e g = elim (cases_eq (n % 1152) 0) [ inl q ↦ omega arith | inr q ↦ omega arith ]
blocks-of S24In32 n w f h e g = elim (cases_eq (n % 1536) 0) [ inl q ↦ omega arith | inr q ↦ omega arith ]
blocks-of S16 n w f h e g = elim (cases_eq (n % 768) 0) [ inl q ↦ omega arith | inr q ↦ omega arith ]

pub count-blocks : (pcm : SampleFormat) (b : List ℕ) → length b % frame_len pcm ≡ 0
    → div_ceil (length b) (block_len pcm) ≡ length (sampled (filled (words_in pcm b)))
count-blocks pcm b h =
    blocks-of pcm (length b) (length (words_in pcm b)) (length (filled (words_in pcm b))) h (length-in pcm b)
    (length-filled (words_in pcm b))
    ∙ sym (length-sampled (filled (words_in pcm b)))

pub zero-whole : (pcm : SampleFormat) → 0 % block_len pcm ≡ 0
unfolding block_len
zero-whole S32 = refl
zero-whole S24 = refl
zero-whole S24In32 = refl
zero-whole S16 = refl

pub block-room : (pcm : SampleFormat) → block_len pcm ≤ 1536
unfolding block_len
block-room S32 = omega arith
block-room S24 = omega arith
block-room S24In32 = omega arith
block-room S16 = omega arith

-- the first bytes of a block, of samples of 32 bits
pub all-wide : (pcm : SampleFormat) (b : List ℕ) → pcm ≡ S32 → length b ≡ 1536
    → words_of b ≡ words_in pcm (take (block_len pcm) b)
unfolding block_len
all-wide pcm b e h = rw e (ap words_of (sym (take_all 1536 b (omega arith))))
