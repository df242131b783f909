-- Samples that keep all their bits, word by word and block by block.
use Rattle.std.proofs.Common.{◌≡◌, ℕ, zero, suc, ◌+◌, ◌*◌, ◌/◌, ◌%◌, ◌==◌, ◌<◌, List, [], ◌∷◌, Bool, true, false, ◌&&◌}
use Rattle.std.proofs.Common.{drop, get_or, length, map, refl, sym, ap, ap₂, ◌∙◌, arith}
use Rattle.std.specs.List.{flat_map}
use Rattle.std.proofs.Math.Bool.{and-true}
use Rattle.std.proofs.lemmas.List.{length-drop, length-take}
use Rattle.aes3_forms_samples.specs.declared.sample_format.SampleFormat.{SampleFormat}
use Rattle.aes3_forms_samples.specs.declared.sample_format.SampleFormat.TheVariants.{S32, S24, S24In32, S16}
use Rattle.aes3_forms_samples.specs.Formats.{seconds_are_zero}
use Rattle.aes3_frame.specs.Files.{payload_of, word_bytes}
use Rattle.aes3_frame.specs.Samples.{block_samples, sample_of}
use Rattle.aes3_engine.specs.ExactSamples.{block_fits}
use Rattle.aes3_c.specs.Blocks.{block_at, piece_at, word_in}
use Rattle.aes3_c.specs.Exact.{word_fits}
use Rattle.aes3_c.proofs.BlockPieces.{word-of-piece}

abbrev octets_of_words : List ℕ → List ℕ
octets_of_words words = flat_map word_bytes (map sample_of (map payload_of words))

-- whether the second octet of a word's sample is 0, which 16 bits don't have
abbrev drops_none : ℕ → Bool
drops_none w = (sample_of (payload_of w) / 256 % 256) == 0

both-not : (b c : Bool) → c ≡ false → b && c ≡ false
both-not true c h = h
both-not false c h = refl

sixteen-fit : (words : List ℕ) → ((i : ℕ) → i < length words → word_fits S16 (get_or words i 0) ≡ true)
    → seconds_are_zero (octets_of_words words) ≡ true
sixteen-fit [] h = refl
sixteen-fit (w ∷ words) h =
    ap₂ ◌&&◌ (sym (and-true (drops_none w)) ∙ h 0 (omega arith))
    (sixteen-fit words (λ i l. h (suc i) (omega (arith, l))))

sixteen-not : (words : List ℕ) (i : ℕ) → i < length words → word_fits S16 (get_or words i 0) ≡ false
    → seconds_are_zero (octets_of_words words) ≡ false
sixteen-not [] i l h = absurd (omega (arith, l))
sixteen-not (w ∷ words) zero l h =
    ap (λ b. b && seconds_are_zero (octets_of_words words)) (sym (and-true (drops_none w)) ∙ h)
sixteen-not (w ∷ words) (suc i) l h =
    both-not (drops_none w) (seconds_are_zero (octets_of_words words)) (sixteen-not words i (omega (arith, l)) h)

pub words-fit : (format : SampleFormat) (words : List ℕ)
    → ((i : ℕ) → i < length words → word_fits format (get_or words i 0) ≡ true)
    → block_fits format (map payload_of words) ≡ true
unfolding block_samples
words-fit S32 words h = refl
words-fit S24 words h = refl
words-fit S24In32 words h = refl
words-fit S16 words h = sixteen-fit words h

pub word-not : (format : SampleFormat) (words : List ℕ) (i : ℕ) → i < length words
    → word_fits format (get_or words i 0) ≡ false → block_fits format (map payload_of words) ≡ false
unfolding block_samples
word-not S32 words i l h = h
word-not S24 words i l h = h
word-not S24In32 words i l h = h
word-not S16 words i l h = sixteen-not words i l h

-- a block before the first word that does not fit, and that word's
pub block-before : (format : SampleFormat) (words : List ℕ) (n : ℕ)
    → ((i : ℕ) → i < n → word_fits format (word_in words i) ≡ true)
    → (i : ℕ) → i < n / 384 → block_fits format (block_at i words) ≡ true
block-before format words n before i h =
    words-fit format (piece_at 384 i words) (λ k l.
    let few : k < 384 = let size = length-take 384 (drop (384 * i) words) in omega (arith, size, l) in
    ap (word_fits format) (word-of-piece words (piece_at 384 i words) i refl k few)
    ∙ before (384 * i + k) (omega (arith, h, few)))

pub block-here : (format : SampleFormat) (words : List ℕ) (n : ℕ) → n < length words
    → word_fits format (word_in words n) ≡ false → block_fits format (block_at (n / 384) words) ≡ false
block-here format words n within unfit =
    let i = n / 384 in
    let k = n % 384 in
    let size = length-take 384 (drop (384 * i) words) in
    let left = length-drop (384 * i) words in
    let few : k < 384 = omega arith in
    let here : 384 * i + k ≡ n = omega arith in
    word-not format (piece_at 384 i words) k (omega (arith, size, left, within, here, few))
    (ap (word_fits format) (word-of-piece words (piece_at 384 i words) i refl k few)
    ∙ ap (λ j. word_fits format (word_in words j)) here ∙ unfit)
