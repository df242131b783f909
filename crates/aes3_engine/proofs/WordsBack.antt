-- Block files that were written in other words, read again.
use Rattle.std.proofs.Common.{◌≡◌, ℕ, zero, suc, ◌*◌, ◌%◌, ◌<◌, List, [], ◌∷◌, ◌++◌, Bool, length, get_or}
use Rattle.std.proofs.Common.{map}
use Rattle.std.proofs.Common.{refl, sym, ap, ◌∙◌, arith, subst, IfOk, Result, Ok, Err}
use Rattle.std.specs.List.{flat_map, All}
use Rattle.std.proofs.lemmas.Grind.{flat_map-append}
use Rattle.std.proofs.lemmas.List.{length-map, map-append}
use Rattle.aes3_forms_words.specs.declared.alsa_am824.Words.{Words}
use Rattle.aes3_forms_words.specs.declared.alsa_am824.Words.TheVariants.{Own, Alsa, Am824}
use Rattle.aes3_forms_words.specs.Forms.{written_word}
use Rattle.aes3_forms_words.specs.Lists.{each_word, next, own_of, written_of}
use Rattle.aes3_forms_words.proofs.EachWord.{each-append}
use Rattle.aes3_forms_words.proofs.ReadBack.{read-back}
use Rattle.aes3_frame.specs.Blocks.{IsBlock}
use Rattle.aes3_frame.specs.Files.{block_bytes, file, word_bytes, word_of}
use Rattle.aes3_frame.proofs.BlockLemmas.{block_subframes_384}
use Rattle.aes3_cell.specs.declared.form.Form.{Form}
use Rattle.aes3_cell.specs.Written.{written}
use Rattle.aes3_level.specs.declared.level.Level.{Level}
use Rattle.aes3_level.specs.declared.level.Level.TheVariants.{Low}
use Rattle.aes3_frame.specs.Blocks.{stream}
use Rattle.aes3_frame.specs.Files.{file_blocks}
use Rattle.aes3_frame.proofs.FileLaws.{file_blocks-file, length-bytes}
use Rattle.aes3_refusals.specs.declared.run_error.RunError.{RunError}
use Rattle.aes3_cell.specs.Ends.{Grew, Told}
use Rattle.aes3_cell.proofs.Growing.{grew-is}
use Rattle.aes3_input.specs.Running.{Ends, InputRun}
use Rattle.aes3_input.proofs.InputRuns.{run-told}
use Rattle.aes3_lock.specs.Reports.{blocks, normal}
use Rattle.aes3_lock.proofs.NormalStreams.{blocks-lawful}
use Rattle.aes3_engine.specs.declared.word_encoding.EncodedWords.{EncodedWords}
use Rattle.aes3_engine.specs.Words.{encoded_words, told_words, words_file}

-- bytes of words
octets-words : (ws : List ℕ) (i : ℕ) → get_or (flat_map word_bytes ws) i 0 < 256
octets-words [] i = omega arith
octets-words (w ∷ ws) zero = omega arith
octets-words (w ∷ ws) (suc zero) = omega arith
octets-words (w ∷ ws) (suc (suc zero)) = omega arith
octets-words (w ∷ ws) (suc (suc (suc zero))) = omega arith
octets-words (w ∷ ws) (suc (suc (suc (suc i)))) = octets-words ws i

codes-words : (ws : List ℕ) → ((j : ℕ) → get_or ws j 0 % 16 ≡ 0)
    → (i : ℕ) → get_or (flat_map word_bytes ws) (4 * i) 0 % 16 ≡ 0
codes-words [] h i = refl
codes-words (w ∷ ws) h zero = let z = h 0 in omega (arith, z)
codes-words (w ∷ ws) h (suc i) =
    let e : 4 * suc i ≡ suc (suc (suc (suc (4 * i)))) = omega arith in
    ap (λ n. get_or (flat_map word_bytes (w ∷ ws)) n 0 % 16) e ∙ codes-words ws (λ j. h (suc j)) i

no-codes : (slots : List (List Bool)) (j : ℕ) → get_or (map word_of slots) j 0 % 16 ≡ 0
no-codes [] j = refl
no-codes (bits ∷ slots) zero = omega arith
no-codes (bits ∷ slots) (suc j) = no-codes slots j

-- the words of blocks one behind the other
all-slots : List (List (List Bool)) → List (List Bool)
all-slots bs = flat_map (λ b. b) bs

file-words : (bs : List (List (List Bool))) → file bs ≡ flat_map word_bytes (map word_of (all-slots bs))
unfolding block_bytes all-slots
file-words [] = refl
file-words (b ∷ bs) =
    ap (λ t. flat_map word_bytes (map word_of b) ++ t) (file-words bs)
    ∙ sym (flat_map-append word_bytes (map word_of b) (map word_of (all-slots bs)))
    ∙ ap (flat_map word_bytes) (sym (map-append word_of b (all-slots bs)))

-- each block begins at the first place
block-length : (b : List (List Bool)) → IsBlock b → length (block_bytes b) ≡ 4 * 384
unfolding block_bytes
block-length b h =
    let l = length-bytes (map word_of b) in
    let m = length-map b word_of in
    let n = h.count in
    let k = block_subframes_384 in
    omega (arith, l, m, n, k)

each-blocks : (f : ℕ → ℕ → ℕ → ℕ → ℕ → List ℕ) (bs : List (List (List Bool))) → All IsBlock bs
    → flat_map (λ b. each_word f 0 (block_bytes b)) bs ≡ each_word f 0 (file bs)
each-blocks f [] h = refl
each-blocks f (b ∷ bs) h =
    ap (λ t. each_word f 0 (block_bytes b) ++ t) (each-blocks f bs (λ k d l. h (suc k) d (omega (arith, l))))
    ∙ sym (each-append f 0 384 (block_bytes b) (file bs) (omega arith) (block-length b (h 0 [] (omega arith))))

own-same : (p : ℕ) (v : List ℕ) → each_word (written_word Own) p v ≡ v
own-same p (a ∷ b ∷ c ∷ d ∷ v) = ap (λ t. a ∷ b ∷ c ∷ d ∷ t) (own-same (next p) v)
own-same p (a ∷ b ∷ c ∷ []) = refl
own-same p (a ∷ b ∷ []) = refl
own-same p (a ∷ []) = refl
own-same p [] = refl

file-written : (form : Words) (bs : List (List (List Bool))) → All IsBlock bs
    → words_file form bs ≡ written_of form (file bs)
file-written Own bs h = sym (own-same 0 (file bs))
file-written Alsa bs h = each-blocks (written_word Alsa) bs h
file-written Am824 bs h = each-blocks (written_word Am824) bs h

-- a block file that was written in a form is read back
pub words-back : (form : Words) (bs : List (List (List Bool))) → All IsBlock bs
    → own_of form (words_file form bs) ≡ file bs
words-back form bs h =
    let ws = map word_of (all-slots bs) in
    ap (own_of form) (file-written form bs h)
    ∙ read-back form (file bs)
    (record { each = λ i. subst (λ (v : List ℕ). get_or v i 0 < 256) (sym (file-words bs)) (octets-words ws i) })
    (record {
      each = λ i. ap (λ v. get_or v (4 * i) 0 % 16) (file-words bs) ∙ codes-words ws (no-codes (all-slots bs)) i;
    })

-- what `encode` makes of what was written of cells
pub whole-back : (form : Words) (output : Form) (c : List Level)
    → (encoded_words form output).whole (words_file form (blocks c)) ≡ written output (normal c)
unfolding normal
whole-back Own output c =
    ap (λ bs. written output (stream Low bs)) (file_blocks-file (blocks c) (blocks-lawful c))
whole-back Alsa output c = of-file (words-back Alsa (blocks c) (blocks-lawful c))
  where
    of-file : own_of Alsa (words_file Alsa (blocks c)) ≡ file (blocks c)
        → written output (stream Low (file_blocks (own_of Alsa (words_file Alsa (blocks c)))))
        ≡ written output (stream Low (blocks c))
    of-file e =
        ap (λ b. written output (stream Low (file_blocks b))) e
        ∙ ap (λ bs. written output (stream Low bs)) (file_blocks-file (blocks c) (blocks-lawful c))
whole-back Am824 output c = of-file (words-back Am824 (blocks c) (blocks-lawful c))
  where
    of-file : own_of Am824 (words_file Am824 (blocks c)) ≡ file (blocks c)
        → written output (stream Low (file_blocks (own_of Am824 (words_file Am824 (blocks c)))))
        ≡ written output (stream Low (blocks c))
    of-file e =
        ap (λ b. written output (stream Low (file_blocks b))) e
        ∙ ap (λ bs. written output (stream Low bs)) (file_blocks-file (blocks c) (blocks-lawful c))

pub decoded-back : (form : Words) (output : Form) {max : ℕ} {ends : Ends}
    (r : Result EncodedWords RunError) → InputRun (told_words form output) max ends r
    → IfOk r (λ (n : EncodedWords). (c : List Level) → Told ends.source.old ends.source.new (words_file form (blocks c))
    → Grew ends.sink.old ends.sink.new (written output (normal c)))
decoded-back form output (Ok n) run = λ c t.
    grew-is (whole-back form output c) (run-told {p = told_words form output} run (words_file form (blocks c)) t).4
decoded-back form output (Err e) run = tt

-- the same of a form that is known
pub words-is : {form form' : Words} (output : Form) {max : ℕ} {ends : Ends}
    {r : Result EncodedWords RunError}
    → form ≡ form' → InputRun (told_words form' output) max ends r
    → InputRun (told_words form output) max ends r
words-is output {max} {ends} {r} e run =
    subst (λ (w : Words). InputRun (told_words w output) max ends r) (sym e) run
