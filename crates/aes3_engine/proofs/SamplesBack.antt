-- Samples over a line and back.
use Rattle.std.proofs.Common.{◌≡◌, ℕ, suc, ◌/◌, ◌%◌, get_or, List, [], ◌∷◌, ◌++◌, Bool, map, refl, ap, ap₂, ◌∙◌, arith}
use Rattle.std.specs.List.{flat_map, All}
use Rattle.aes3_cell.specs.declared.form.Form.{Form}
use Rattle.aes3_level.specs.declared.level.Level.TheVariants.{Low}
use Rattle.aes3_frame.specs.Blocks.{IsBlock}
use Rattle.aes3_frame.specs.Files.{bytes_number, file_blocks, word_bytes}
use Rattle.aes3_frame.specs.Samples.{sample_of, block_samples, samples}
use Rattle.aes3_frame.specs.Sampled.{IsSample, sampled, filled}
use Rattle.aes3_frame.proofs.Each.{all-nil, all-cons}
use Rattle.aes3_frame.proofs.FileLaws.{file_blocks-file}
use Rattle.aes3_frame.proofs.SampleBlocks.{sampled-lawful, samples-filled, words-back}
use Rattle.aes3_input.specs.Inputs.{cells_of}
use Rattle.aes3_lock.specs.Reports.{blocks}
use Rattle.aes3_lock.proofs.NormalStreams.{stream-blocks}
use Rattle.aes3_forms_words.specs.declared.alsa_am824.Words.TheVariants.{Own}
use Rattle.aes3_status.specs.declared.change.Change.{Change}
use Rattle.aes3_lock_runs.specs.BlockRuns.{written_stream}
use Rattle.aes3_engine.specs.Rewriting.{rewritten, rewritten_blocks}
use Rattle.aes3_forms_samples.specs.declared.sample_format.SampleFormat.{SampleFormat}
use Rattle.aes3_forms_samples.specs.declared.sample_format.SampleFormat.TheVariants.{S32, S24, S24In32, S16}
use Rattle.aes3_forms_samples.specs.Formats.{narrowed}
use Rattle.aes3_engine.specs.SampleLaws.{IsSampleIn, line_of_pcm, pcm_of_line}
use Rattle.aes3_engine.specs.Sampling.{sample_file, words_in}
use Rattle.aes3_lock_runs.proofs.BlockRuns.{each27, read-back}
use Rattle.aes3_engine.proofs.BitsAt.{lawful-at, samples-at}
use Rattle.aes3_engine.proofs.RewrittenBlocks.{rewritten-keeps}

-- blocks with a change are blocks, and have the same samples
pub rewritten-lawful : (change : Change) (bs : List (List (List Bool))) → All IsBlock bs
    → All IsBlock (rewritten_blocks change bs)
rewritten-lawful change [] h = all-nil IsBlock
rewritten-lawful change (b ∷ bs) h =
    all-cons IsBlock (rewritten change b) (rewritten_blocks change bs)
    (rewritten-keeps IsBlock (λ place channel d bits l. lawful-at place channel d bits) change b (h 0 [] (omega arith)))
    (rewritten-lawful change bs (λ k d lt. h (suc k) d (omega arith)))

block-same : (change : Change) (b : List (List Bool)) → map sample_of (rewritten change b) ≡ map sample_of b
block-same change b = rewritten-keeps (λ d. map sample_of d ≡ map sample_of b)
    (λ place channel d bits l e. samples-at place channel d bits l ∙ e) change b refl

samples-same : (change : Change) (bs : List (List (List Bool))) → samples (rewritten_blocks change bs) ≡ samples bs
unfolding block_samples
samples-same change [] = refl
samples-same change (b ∷ bs) = ap₂ ◌++◌ (ap (flat_map word_bytes) (block-same change b)) (samples-same change bs)

-- a line of blocks gives them, and so their samples
pub line-blocks : (form : Form) (bs : List (List (List Bool))) → All IsBlock bs
    → blocks (cells_of form (written_stream form bs)) ≡ bs
line-blocks form bs h = ap blocks (read-back form bs (each27 bs h)) ∙ stream-blocks Low bs h

blocks-back : (form : Form) (change : Change) (ws : List ℕ) → All IsSample ws
    → samples (blocks (cells_of form (written_stream form (file_blocks (sample_file Own change (filled ws))))))
    ≡ flat_map word_bytes (filled ws)
unfolding sample_file
blocks-back form change ws h =
    let bs = rewritten_blocks change (sampled (filled ws)) in
    let k = rewritten-lawful change (sampled (filled ws)) (sampled-lawful (filled ws)) in
    ap (λ v. samples (blocks (cells_of form (written_stream form v)))) (file_blocks-file bs k)
    ∙ ap samples (line-blocks form bs k) ∙ samples-same change (sampled (filled ws)) ∙ samples-filled ws h

-- they are read as they were, of each form
each-in : (pcm : SampleFormat) (w : ℕ) → IsSampleIn pcm w → IsSample w
each-in S32 w h = h
each-in S24 w h = h
each-in S24In32 w h = h
each-in S16 w h = let l = h.0 in let z = h.1 in (l, omega arith)

all-in : (pcm : SampleFormat) (ws : List ℕ) → All (IsSampleIn pcm) ws → All IsSample ws
all-in pcm ws h = λ k d l. each-in pcm (get_or ws k d) (h k d l)

next-in : (pcm : SampleFormat) (w : ℕ) (ws : List ℕ) → All (IsSampleIn pcm) (w ∷ ws) → All (IsSampleIn pcm) ws
next-in pcm w ws h = λ k d l. h (suc k) d (omega arith)

read-s24 : (ws : List ℕ) → All (IsSampleIn S24) ws → words_in S24 (narrowed S24 (flat_map word_bytes ws)) ≡ ws
read-s24 [] h = refl
read-s24 (w ∷ ws) h =
    let s = h 0 0 (omega arith) in
    let l = s.0 in
    let z = s.1 in
    let e : bytes_number (0 ∷ w / 256 % 256 ∷ w / 256 / 256 % 256 ∷ w / 256 / 256 / 256 % 256 ∷ []) ≡ w = omega arith in
    ap₂ (λ x xs. x ∷ xs) e (read-s24 ws (next-in S24 w ws h))

read-s24in32 : (ws : List ℕ) → All (IsSampleIn S24In32) ws
    → words_in S24In32 (narrowed S24In32 (flat_map word_bytes ws)) ≡ ws
read-s24in32 [] h = refl
read-s24in32 (w ∷ ws) h =
    let s = h 0 0 (omega arith) in
    let l = s.0 in
    let z = s.1 in
    let e : bytes_number (0 ∷ w / 256 % 256 ∷ w / 256 / 256 % 256 ∷ w / 256 / 256 / 256 % 256 ∷ []) ≡ w = omega arith in
    ap₂ (λ x xs. x ∷ xs) e (read-s24in32 ws (next-in S24In32 w ws h))

read-s16 : (ws : List ℕ) → All (IsSampleIn S16) ws → words_in S16 (narrowed S16 (flat_map word_bytes ws)) ≡ ws
read-s16 [] h = refl
read-s16 (w ∷ ws) h =
    let s = h 0 0 (omega arith) in
    let l = s.0 in
    let z = s.1 in
    let e : bytes_number (0 ∷ 0 ∷ w / 256 / 256 % 256 ∷ w / 256 / 256 / 256 % 256 ∷ []) ≡ w = omega arith in
    ap₂ (λ x xs. x ∷ xs) e (read-s16 ws (next-in S16 w ws h))

read-in : (pcm : SampleFormat) (ws : List ℕ) → All (IsSampleIn pcm) ws
    → words_in pcm (narrowed pcm (flat_map word_bytes ws)) ≡ ws
read-in S32 ws h = words-back ws h
read-in S24 ws h = read-s24 ws h
read-in S24In32 ws h = read-s24in32 ws h
read-in S16 ws h = read-s16 ws h

pub samples-back : (pcm : SampleFormat) (form : Form) (change : Change) (ws : List ℕ) → All (IsSampleIn pcm) ws
    → pcm_of_line pcm form (line_of_pcm pcm form change (narrowed pcm (flat_map word_bytes ws)))
    ≡ narrowed pcm (flat_map word_bytes (filled ws))
samples-back pcm form change ws h =
    ap (λ v. pcm_of_line pcm form (written_stream form (file_blocks (sample_file Own change (filled v)))))
    (read-in pcm ws h)
    ∙ ap (narrowed pcm) (blocks-back form change ws (all-in pcm ws h))
