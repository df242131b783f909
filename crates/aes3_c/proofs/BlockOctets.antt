-- Blocks in a form, put one by one.
use Rattle.std.proofs.Common.{◌≡◌, ℕ, zero, suc, ◌+◌, ◌*◌, ◌<◌, ◌≤◌, ◌⊎◌, inl, inr, List, [], ◌∷◌, ◌++◌, length, map}
use Rattle.std.proofs.Common.{take, drop, get_or, sym, ap, ap₂, ◌∙◌, arith, add-one, append-nil}
use Rattle.std.specs.List.{flat_map}
use Rattle.std.proofs.lemmas.Bool.{cases_eq}
use Rattle.std.proofs.lemmas.Grind.{flat_map-append}
use Rattle.std.proofs.lemmas.List.{take_more}
use Rattle.std.proofs.lemmas.Slice.{take-put_mid}
use borrow.Rule.Slice.PartMut.{put_mid}
use Rattle.aes3_level.specs.declared.level.Level.{Level}
use Rattle.aes3_level.specs.Words.{word_cells}
use Rattle.aes3_level.proofs.CellsIn.{length-front_words}
use Rattle.aes3_level.proofs.WordCells.{length-word_cells, word_len_64}
use Rattle.aes3_cell.specs.declared.form.Form.TheVariants.{Packed}
use Rattle.aes3_cell.specs.Packed.{octets_needed, octets_of}
use Rattle.aes3_cell.proofs.PackedCells.{length-first_octets}
use Rattle.aes3_cell.proofs.WrittenForms.{bytes-append, bytes-nothing}
use Rattle.aes3_block.proofs.StreamBytes.{stream-bytes}
use Rattle.aes3_forms_samples.specs.declared.sample_format.SampleFormat.{SampleFormat}
use Rattle.aes3_forms_samples.specs.Formats.{block_len, widened}
use Rattle.aes3_frame.specs.Blocks.{block_subframes, stream}
use Rattle.aes3_frame.specs.Files.{blocks_in, payload_of, words_of}
use Rattle.aes3_frame.specs.Sampled.{payload_of_sample}
use Rattle.aes3_frame.proofs.BlockLemmas.{block_subframes_384}
use Rattle.aes3_frame.proofs.Streams.{blocks-more, each27-blocks, stream-nil}
use Rattle.aes3_c.specs.declared.block_form.BlockForm.{BlockForm}
use Rattle.aes3_c.specs.declared.block_form.BlockForm.TheVariants.{Cells}
use Rattle.aes3_c.specs.Blocks.{AreBlocks, AreSampled, block_at, form_len, octets_in, piece_at}
use Rattle.aes3_c.proofs.BlockPieces.{piece-before, piece-here}
use Rattle.aes3_cell.proofs.ManyWords.{length-octets}

-- the octets of one more word
pub octets-more : (words octets ys : List ℕ) (i k : ℕ) → i < length words → 8 * i ≤ length octets
    → take (8 * i) octets ≡ octets_of (flat_map word_cells (take i words))
    → ys ≡ octets_of (word_cells (get_or words i 0))
    → take (8 * (i + 1)) (put_mid (8 * i) k octets ys) ≡ octets_of (flat_map word_cells (take (i + 1) words))
octets-more words octets ys i k h l before new =
    let w = get_or words i 0 in
    let front = flat_map word_cells (take i words) in
    let eight : length ys ≡ 8 = ap length new ∙ length-octets w in
    let size = length-front_words words i (omega (arith, h)) in
    take-put_mid (8 * i) k octets ys (8 * (i + 1)) (omega (arith, eight)) l
    ∙ ap₂ ◌++◌ before new
    ∙ sym (bytes-append Packed i front (word_cells w) (size ∙ (let e : 64 * i ≡ i * 64 = omega arith in e) ∙ ap (λ n. i * n) (sym word_len_64)))
    ∙ ap (λ c. octets_of (front ++ c)) (sym (append-nil (word_cells w)))
    ∙ ap octets_of (sym (flat_map-append word_cells (take i words) (w ∷ [])))
    ∙ ap (λ t. octets_of (flat_map word_cells t)) (sym (take_more words i 0 h))

-- block number i of words is the next of them
next-block : (i : ℕ) (words : List ℕ) → blocks_in (i + 1) words ≡ blocks_in i words ++ block_at i words ∷ []
next-block i words =
    ap (λ n. blocks_in n words) (add-one i) ∙ blocks-more i words
    ∙ ap (λ n. blocks_in i words ++ map payload_of (take n (drop (n * i) words)) ∷ []) block_subframes_384

-- the octets of one more block
pub blocks-put : (form : BlockForm) (words octets ys : List ℕ) (i k : ℕ) → length ys ≡ form_len form
    → form_len form * i ≤ length octets
    → take (form_len form * i) octets ≡ flat_map (octets_in form) (blocks_in i words)
    → ys ≡ octets_in form (block_at i words)
    → take (form_len form * (i + 1)) (put_mid (form_len form * i) k octets ys)
    ≡ flat_map (octets_in form) (blocks_in (i + 1) words)
blocks-put form words octets ys i k n l before new =
    let f = octets_in form in
    take-put_mid (form_len form * i) k octets ys (form_len form * (i + 1)) (omega (arith, n)) l
    ∙ ap₂ ◌++◌ before (new ∙ sym (append-nil (f (block_at i words))))
    ∙ sym (flat_map-append f (blocks_in i words) (block_at i words ∷ []))
    ∙ ap (flat_map f) (sym (next-block i words))

-- and block by block
pub each-put : (form : BlockForm) (words octets ys : List ℕ) (i k : ℕ) → length ys ≡ form_len form
    → form_len form * i ≤ length octets → AreBlocks form words i octets → ys ≡ octets_in form (block_at i words)
    → AreBlocks form words (i + 1) (put_mid (form_len form * i) k octets ys)
each-put form words octets ys i k n l before new j h = go (cases_eq j i)
  where
    go : (j ≡ i) ⊎ (j ≡ i → ⊥) → piece_at (form_len form) j (put_mid (form_len form * i) k octets ys)
        ≡ octets_in form (block_at j words)
    go (inl q) =
        ap (λ m. piece_at (form_len form) m (put_mid (form_len form * i) k octets ys)) q
        ∙ piece-here (form_len form) i k octets ys n l ∙ new
        ∙ ap (λ m. octets_in form (block_at m words)) (sym q)
    go (inr q) = piece-before (form_len form) j i k octets ys (omega (arith, q, h)) l ∙ before j (omega (arith, q, h))

-- a block made of samples, block by block
pub sampled-put : (form : SampleFormat) (octets words ys : List ℕ) (i k : ℕ) → length ys ≡ 384 → 384 * i ≤ length words
    → AreSampled form octets i words
    → map payload_of ys ≡ map payload_of_sample (words_of (widened form (piece_at (block_len form) i octets)))
    → AreSampled form octets (i + 1) (put_mid (384 * i) k words ys)
sampled-put form octets words ys i k n l before new j h = go (cases_eq j i)
  where
    go : (j ≡ i) ⊎ (j ≡ i → ⊥) → block_at j (put_mid (384 * i) k words ys)
        ≡ map payload_of_sample (words_of (widened form (piece_at (block_len form) j octets)))
    go (inl q) =
        ap (λ m. block_at m (put_mid (384 * i) k words ys)) q
        ∙ ap (map payload_of) (piece-here 384 i k words ys n l) ∙ new
        ∙ ap (λ m. map payload_of_sample (words_of (widened form (piece_at (block_len form) m octets)))) (sym q)
    go (inr q) =
        ap (map payload_of) (piece-before 384 j i k words ys (omega (arith, q, h)) l) ∙ before j (omega (arith, q, h))

-- the octets of the cells of blocks are those of their line
pub line-octets : (s : Level) (n : ℕ) (words : List ℕ)
    → flat_map (octets_in (Cells s)) (blocks_in n words) ≡ octets_of (stream s (blocks_in n words))
line-octets s zero words = sym (ap octets_of (stream-nil s) ∙ bytes-nothing Packed)
line-octets s (suc n) words =
    let f = octets_in (Cells s) in
    let block = map payload_of (take block_subframes (drop (block_subframes * n) words)) in
    ap (flat_map f) (blocks-more n words)
    ∙ flat_map-append f (blocks_in n words) (block ∷ [])
    ∙ ap₂ ◌++◌ (line-octets s n words) (append-nil (f block))
    ∙ sym (stream-bytes Packed s (blocks_in n words) block (each27-blocks n words))
    ∙ ap (λ b. octets_of (stream s b)) (sym (blocks-more n words))
