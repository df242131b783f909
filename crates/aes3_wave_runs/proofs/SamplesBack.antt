-- The samples of a WAV file that was written, read again.
use Rattle.std.proofs.Common.{◌≡◌, ℕ, zero, suc, ◌*◌, ◌%◌, ◌^◌, ◌<◌, ◌&&◌, ltb, List, [], ◌∷◌, Bool, true, false}
use Rattle.std.proofs.Common.{Option, Some, None, length, map, refl, sym, ap, ◌∙◌, subst, append-nil, arith}
use Rattle.std.proofs.Common.{eqb}
use Rattle.std.specs.List.{All}
use Rattle.std.specs.Option.{ForSome, option_or}
use Rattle.std.specs.Prelude.{if◌then◌else◌}
use Rattle.std.proofs.lemmas.Bool.{and_parts, ltb-true}
use Rattle.std.proofs.lemmas.List.{drop_at, length-append, length-map}
use Rattle.aes3_frame.specs.Blocks.{IsBlock, block_subframes}
use Rattle.aes3_frame.specs.Samples.{block_samples, sample_of, samples}
use Rattle.aes3_frame.proofs.FileLaws.{length-bytes}
use Rattle.aes3_forms_samples.specs.declared.sample_format.SampleFormat.TheVariants.{S16, S24}
use Rattle.aes3_forms_samples.specs.Formats.{fours, narrow_one, narrowed, widened}
use Rattle.aes3_status.specs.Consumer as con
use Rattle.aes3_status.specs.Professional as pro
use Rattle.aes3_status.specs.Statuses.{is_professional}
use Rattle.aes3_wave.specs.declared.header_writing.Depth.{Depth}
use Rattle.aes3_wave.specs.declared.header_writing.Depth.TheVariants.{Sixteen, TwentyFour, ThirtyTwo}
use Rattle.aes3_wave.specs.Formats.{frame_len}
use Rattle.aes3_wave.specs.Written.{written_format}
use Rattle.aes3_wave.proofs.ReadBack.{written-read}
use Rattle.aes3_wave_runs.specs.Frames.{all_parts, parts_of}
use Rattle.aes3_wave_runs.specs.Laws.{SamplesComeBack}
use Rattle.aes3_wave_runs.specs.Status.{consumer_rates, professional_frequencies, professional_rates, rate_in, rate_of_status}
use Rattle.aes3_wave_runs.specs.ToWav.{format_of, header_for, named_by, rate_for}
use Rattle.aes3_wave_runs.proofs.Parts.{all-whole, left-whole}
use Rattle.aes3_wave_runs.proofs.WrittenFrames.{none-there, pair_of, sixteen, thirty-two, twenty-four}

-- ---- frames of two samples

-- how many octets samples have in a form
narrowed-len : (f : ℕ → ℕ → ℕ → ℕ → List ℕ) (m n : ℕ) (s : List ℕ)
    → ((a b c d : ℕ) → length (f a b c d) ≡ m) → length s ≡ n * 4 → length (fours f s) ≡ n * m
narrowed-len f m zero s k h = ap (λ v. length (fours f v)) (none-there s (omega arith)) ∙ (let e : 0 ≡ 0 * m = omega arith in e)
narrowed-len f m (suc n) (a ∷ b ∷ c ∷ d ∷ s) k h =
    let l = length-append (f a b c d) (fours f s) in
    let e = k a b c d in
    let r = narrowed-len f m n s k (omega arith) in
    omega arith
narrowed-len f m (suc n) _ k h = absurd (omega arith)

-- the octets of pairs of samples: whole frames, which make the samples again
record Pairs (depth : Depth) (rate n : ℕ) (s : List ℕ) : Type 0 where
  pub len : length (narrowed (format_of depth) s) ≡ n * frame_len (written_format depth rate)
  pub back : parts_of (pair_of depth rate) (frame_len (written_format depth rate)) n (narrowed (format_of depth) s)
      ≡ widened (format_of depth) (narrowed (format_of depth) s)

pairs : (depth : Depth) (rate n : ℕ) (s : List ℕ) → length s ≡ n * 8 → Pairs depth rate n s
pairs Sixteen rate n s h =
    let l = narrowed-len (narrow_one S16) 2 (2 * n) s (λ a b c d. refl) (omega arith) in
    record { len = omega arith; back = sixteen rate n (narrowed S16 s) (omega arith) }
pairs TwentyFour rate n s h =
    let l = narrowed-len (narrow_one S24) 3 (2 * n) s (λ a b c d. refl) (omega arith) in
    record { len = omega arith; back = twenty-four rate n (narrowed S24 s) (omega arith) }
pairs ThirtyTwo rate n s h = record { len = omega arith; back = thirty-two rate n s h }

frame-some : (depth : Depth) (rate : ℕ) → 0 < frame_len (written_format depth rate)
frame-some Sixteen rate = omega arith
frame-some TwentyFour rate = omega arith
frame-some ThirtyTwo rate = omega arith

-- the samples of blocks are pairs
block-pairs : (b : List (List Bool)) → IsBlock b → length (block_samples b) ≡ 192 * 8
unfolding block_samples block_subframes
block-pairs b h =
    let l = length-bytes (map sample_of b) in
    let m = length-map b sample_of in
    let c = h.count in
    omega arith

samples-pairs : (bs : List (List (List Bool))) → All IsBlock bs → length (samples bs) ≡ (192 * length bs) * 8
samples-pairs [] h = refl
samples-pairs (b ∷ bs) h =
    let l = length-append (block_samples b) (samples bs) in
    let p = block-pairs b (h 0 [] (omega arith)) in
    let q = samples-pairs bs (λ k d i. h (suc k) d (omega arith)) in
    omega arith

-- ---- the header

-- each sampling frequency of a table has 32 bits
abbrev are_few : List (ℕ × ℕ) → Bool
are_few [] = true
are_few (row ∷ rows) = ltb row.0 (2 ^ 32) && are_few rows

rate-few : (rows : List (ℕ × ℕ)) (code : ℕ) → are_few rows ≡ true → ForSome (rate_in rows code) (λ n. n < 2 ^ 32)
rate-few [] code h = λ n e. cc
rate-few (row ∷ rows) code h =
    let p = and_parts (ltb row.0 (2 ^ 32)) (are_few rows) h in
    go (eqb code row.1) (ltb-true row.0 (2 ^ 32) p.0) (rate-few rows code p.1)
  where
    go : (t : Bool) → row.0 < 2 ^ 32 → ForSome (rate_in rows code) (λ n. n < 2 ^ 32)
        → ForSome (if t then Some row.0 else rate_in rows code) (λ n. n < 2 ^ 32)
    go true few rest = λ n e. let q : row.0 ≡ n = cc in subst (λ v. v < 2 ^ 32) q few
    go false few rest = rest

either-few : (a b : Option ℕ) → ForSome a (λ n. n < 2 ^ 32) → ForSome b (λ n. n < 2 ^ 32)
    → ForSome (option_or a b) (λ n. n < 2 ^ 32)
either-few (Some x) b p q = p
either-few None b p q = q

named-few : (status : List ℕ) → ForSome (rate_of_status status) (λ n. n < 2 ^ 32)
named-few status =
    go (is_professional status)
    (either-few (rate_in professional_rates (pro.rate status)) (rate_in professional_frequencies (pro.frequency status))
    (rate-few professional_rates (pro.rate status) refl)
    (rate-few professional_frequencies (pro.frequency status) refl))
    (rate-few consumer_rates (con.rate status) refl)
  where
    go : {a b : Option ℕ} (t : Bool) → ForSome a (λ n. n < 2 ^ 32) → ForSome b (λ n. n < 2 ^ 32)
        → ForSome (if t then a else b) (λ n. n < 2 ^ 32)
    go true p q = p
    go false p q = q

first-few : (bs : List (List (List Bool))) → ForSome (named_by bs) (λ n. n < 2 ^ 32)
first-few [] = λ n e. cc
first-few (b ∷ bs) = named-few _

rate-for-few : (rate named : Option ℕ) → ForSome rate (λ n. n < 2 ^ 32) → ForSome named (λ n. n < 2 ^ 32)
    → rate_for rate named < 2 ^ 32
rate-for-few (Some rate) named p q = p rate refl
rate-for-few None (Some rate) p q = q rate refl
rate-for-few None None p q = omega arith

pub samples-come-back : SamplesComeBack
samples-come-back depth rate bs few lawful =
    let r = rate_for rate (named_by bs) in
    let n = 192 * length bs in
    let c = narrowed (format_of depth) (samples bs) in
    let h = header_for depth rate bs in
    let p = pairs depth r n (samples bs) (samples-pairs bs lawful) in
    let is = drop_at h c (length h) refl in
    record {
      header = written-read depth r None c (rate-for-few rate (named_by bs) few (first-few bs)) (λ k e. cc);
      whole = ap (λ v. length v % frame_len (written_format depth r)) (is ∙ sym (append-nil c))
          ∙ left-whole (frame_len (written_format depth r)) n c [] p.len (frame-some depth r);
      samples = λ mono. ap (all_parts (pair_of depth r) (frame_len (written_format depth r))) (is ∙ sym (append-nil c))
          ∙ all-whole (pair_of depth r) (frame_len (written_format depth r)) n c [] p.len (frame-some depth r) ∙ p.back;
    }
