-- Samples with zero in place of each that is not valid.
use Rattle.std.proofs.Common.{◌≡◌, ℕ, zero, suc, ◌+◌, ◌*◌, ◌≤◌, List, [], ◌∷◌, ◌++◌, Bool, true, false, not, cond}
use Rattle.std.proofs.Common.{length, map, take, drop, replicate, set, Some, Result, Ok, Err, IfOk, refl}
use Rattle.std.proofs.Common.{sym, ap, ap₂, ◌∙◌, arith, append-nil}
use Rattle.std.specs.Prelude.{slice_get}
use Rattle.std.specs.List.{flat_map, All}
use Rattle.std.proofs.lemmas.List.{drop_all, drop_at, take_all}
use Rattle.aes3_bits.specs.Bits.{low_bits}
use Rattle.aes3_bits.proofs.Bits.{length-low_bits}
use Rattle.aes3_refusals.specs.declared.run_error.RunError.{RunError}
use Rattle.aes3_cell.specs.declared.counts.Counts.{Counts}
use Rattle.aes3_cell.specs.declared.form.Form.{Form}
use Rattle.aes3_cell.specs.Ends.{Grew, Told}
use Rattle.aes3_cell.proofs.Growing.{grew-is}
use Rattle.aes3_frame.specs.declared.subframe.Subframe.{Subframe}
use Rattle.aes3_frame.specs.Files.{word_bytes}
use Rattle.aes3_frame.specs.Samples.{block_samples, sample_of, samples}
use Rattle.aes3_frame.specs.Subframes.{audio_len, bits_of}
use Rattle.aes3_frame.proofs.StatusBits.{validity-get}
use Rattle.aes3_forms_samples.specs.declared.sample_format.SampleFormat.{SampleFormat}
use Rattle.aes3_forms_samples.specs.Formats.{narrowed}
use Rattle.aes3_engine.proofs.PcmRuns.{narrowed-whole, valid-whole}
use Rattle.aes3_lock.specs.Reports.{blocks}
use Rattle.aes3_input.specs.Inputs.{cells_of}
use Rattle.aes3_input.specs.Running.{Ends}
use Rattle.aes3_input.proofs.InputRuns.{run-wrote}
use Rattle.aes3_lock_runs.specs.ReportRuns.{ReportRun}
use Rattle.aes3_lock_runs.specs.BlockRuns.{report_bytes}
use Rattle.aes3_engine.specs.ValidSamples.{IsAllValid, silenced, valid_block_samples, valid_sample, valid_samples}
use Rattle.aes3_engine.specs.ValidSamples.{validity_bit}

-- the samples of silenced payloads
silent-sample : (p : List Bool) → sample_of (silenced p) ≡ valid_sample p
unfolding audio_len
silent-sample p = go (validity_bit p)
  where
    go : (t : Bool) → sample_of (cond t (replicate audio_len false ++ drop audio_len p) p) ≡ cond t 0 (sample_of p)
    go true = refl
    go false = refl

silent-map : (b : List (List Bool)) → map sample_of (map silenced b) ≡ map valid_sample b
silent-map [] = refl
silent-map (p ∷ b) = ap₂ (λ x xs. x ∷ xs) (silent-sample p) (silent-map b)

pub silent-samples : (b : List (List Bool)) → block_samples (map silenced b) ≡ valid_block_samples b
unfolding block_samples valid_block_samples
silent-samples b = ap (flat_map word_bytes) (silent-map b)

-- where all are valid they are the samples
valid-map : (b : List (List Bool)) → IsAllValid b → map valid_sample b ≡ map sample_of b
valid-map [] h = refl
valid-map (p ∷ b) h =
    ap₂ (λ x xs. x ∷ xs) (ap (λ t. cond t 0 (sample_of p)) (h 0 [] (omega arith)))
    (valid-map b (λ k d l. h (suc k) d (omega arith)))

valid-block : (b : List (List Bool)) → IsAllValid b → valid_block_samples b ≡ block_samples b
unfolding block_samples valid_block_samples
valid-block b h = ap (flat_map word_bytes) (valid-map b h)

all-valid : (bs : List (List (List Bool))) → All IsAllValid bs → valid_samples bs ≡ samples bs
all-valid [] h = refl
all-valid (b ∷ bs) h =
    ap₂ ◌++◌ (valid-block b (h 0 [] (omega arith))) (all-valid bs (λ k d l. h (suc k) d (omega arith)))

pub run-all-valid : {max : ℕ} (pcm : SampleFormat) (input : Form) {ends : Ends}
    (r : Result Counts RunError)
    → ReportRun max input (report_bytes (λ n b. narrowed pcm (valid_block_samples b))) [] ends r
    → IfOk r (λ (n : Counts). (b : List ℕ) → Told ends.source.old ends.source.new b → All IsAllValid (blocks (cells_of input b))
    → Grew ends.sink.old ends.sink.new (narrowed pcm (samples (blocks (cells_of input b)))))
run-all-valid pcm input (Ok n) run = λ b t h.
    grew-is (narrowed-whole pcm valid_block_samples valid-whole (cells_of input b)
    ∙ ap (narrowed pcm) (all-valid (blocks (cells_of input b)) h))
    (run-wrote (Ok n) run b t)
run-all-valid pcm input (Err e) run = tt

-- the payload of a subframe without its audio
low-zero : low_bits audio_len 0 ≡ replicate audio_len false
unfolding audio_len
low-zero = refl

not-true : (t : Bool) → not t ≡ true → t ≡ false
not-true true e = cc
not-true false e = refl

not-false : (t : Bool) → not t ≡ false → t ≡ true
not-false true e = refl
not-false false e = cc

pub silent-bits : (s : Subframe) → not s.v ≡ false
    → low_bits audio_len 0 ++ s.v ∷ s.u ∷ s.c ∷ [] ≡ silenced (bits_of s)
silent-bits s e =
    let rest = s.v ∷ s.u ∷ s.c ∷ [] in
    ap₂ ◌++◌ low-zero
    (sym (drop_at (low_bits audio_len s.audio) rest audio_len (length-low_bits audio_len s.audio)))
    ∙ sym (ap (λ t. cond t (replicate audio_len false ++ drop audio_len (bits_of s)) (bits_of s))
    (validity-get s ∙ not-false s.v e))

pub valid-bits : (s : Subframe) → not s.v ≡ true → bits_of s ≡ silenced (bits_of s)
valid-bits s e =
    sym (ap (λ t. cond t (replicate audio_len false ++ drop audio_len (bits_of s)) (bits_of s)) (validity-get s
    ∙ not-true s.v e))

-- payloads of which the first n are silenced, and two more
abbrev pub silent_front : ℕ → List (List Bool) → List (List Bool)
silent_front n b = map silenced (take n b) ++ drop n b

two-more : (n : ℕ) (b : List (List Bool)) (x y : List Bool) → slice_get (silent_front n b) n ≡ Some x
    → slice_get (silent_front n b) (suc n) ≡ Some y
    → set (set (silent_front n b) n (silenced x)) (suc n) (silenced y) ≡ silent_front (suc (suc n)) b
two-more zero [] x y e f = cc
two-more (suc n) [] x y e f = cc
two-more zero (p ∷ []) x y e f = cc
two-more zero (p ∷ q ∷ b) x y e f = cc
two-more (suc n) (p ∷ b) x y e f = ap (λ xs. silenced p ∷ xs) (two-more n b x y e f)

pub frame-more : (i : ℕ) (b now next : List (List Bool)) (x y u v : List Bool) → now ≡ silent_front (2 * i) b
    → slice_get now (2 * i) ≡ Some x → slice_get now (2 * i + 1) ≡ Some y → u ≡ silenced x → v ≡ silenced y
    → next ≡ set (set now (2 * i) u) (2 * i + 1) v → next ≡ silent_front (2 * (i + 1)) b
frame-more i b now next x y u v e f g p q r =
    let m : 2 * i + 1 ≡ suc (2 * i) = omega arith in
    let k : suc (suc (2 * i)) ≡ 2 * (i + 1) = omega arith in
    r ∙ ap (λ j. set (set now (2 * i) u) j v) m ∙ ap₂ (λ z w. set (set now (2 * i) z) (suc (2 * i)) w) p q
    ∙ ap (λ z. set (set z (2 * i) (silenced x)) (suc (2 * i)) (silenced y)) e
    ∙ two-more (2 * i) b x y (ap (λ z. slice_get z (2 * i)) (sym e) ∙ f)
    (ap₂ slice_get (sym e) (sym m) ∙ g)
    ∙ ap (λ n. silent_front n b) k

pub silent-all : (n : ℕ) (b now : List (List Bool)) → length b ≤ n → now ≡ silent_front n b → now ≡ map silenced b
silent-all n b now l e =
    e ∙ ap₂ (λ p q. map silenced p ++ q) (take_all n b l) (drop_all n b l) ∙ append-nil (map silenced b)
