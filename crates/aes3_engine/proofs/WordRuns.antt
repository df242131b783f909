-- A whole run over a block file in other words.
use Rattle.std.proofs.Common.{◌≡◌, ℕ, ◌+◌, ◌*◌, ◌/◌, ◌%◌, ◌<◌, ◌≤◌, inl, inr, List, [], ◌∷◌, ◌++◌, Bool}
use Rattle.std.proofs.Common.{Some}
use Rattle.std.proofs.Common.{None, length, take, drop, get_or, refl, sym, ap, ◌∙◌, subst, arith, append-nil}
use Rattle.std.proofs.Common.{take-append-drop, length-append, true, false, suc, zero, if◌then◌else◌}
use Rattle.std.proofs.lemmas.List.{length-drop}
use Rattle.std.proofs.lemmas.Option.{none-some}
use Rattle.std.specs.Prelude.{take_while}
use Rattle.aes3_cell.specs.declared.counts.Counts.{Counts}
use Rattle.aes3_cell.specs.declared.form.Form.{Form}
use Rattle.aes3_refusals.specs.declared.run_error.RunError.{RunError}
use Rattle.aes3_refusals.specs.declared.run_error.RunError.TheVariants.{BadCell, BadLength, BadCode, BadParity, Read, Write}
use Rattle.aes3_refusals.specs.declared.run_error.RunError.TheVariants.{TooLong, Memory, BadStatusText, BadPadding, BadSample}
use Rattle.aes3_refusals.specs.declared.run_error.RunError.TheVariants.{SoundHeader, Inexact}
use Rattle.aes3_cell.specs.Written.{bytes_of, ending, written}
use Rattle.aes3_level.specs.declared.level.Level.TheVariants.{Low}
use Rattle.aes3_forms_words.specs.declared.alsa_am824.Words.{Words}
use Rattle.aes3_forms_words.specs.declared.alsa_am824.Words.TheVariants.{Own}
use Rattle.aes3_forms_words.specs.Forms.{is_within, own_word}
use Rattle.aes3_forms_words.specs.Lists.{from_block, most_left_out, own_of}
use Rattle.aes3_forms_words.specs.Reading.{read_whole, whole_of}
use Rattle.aes3_forms_words.proofs.EachWord.{length-each}
use Rattle.aes3_forms_words.proofs.OneWord.{own-fours}
use Rattle.aes3_forms_words.proofs.Ahead.{length-own, length-own-le, own-cut, whole-length}
use Rattle.aes3_block.specs.Readers.{FileReader}
use Rattle.aes3_frame.specs.Blocks.{block_subframes, stream}
use Rattle.aes3_frame.specs.Files.{IsBlockFile, blocks_in, file_blocks, has_code, has_parity, is_lawful, lawful_words}
use Rattle.aes3_frame.specs.Files.{words_of}
use Rattle.aes3_frame.proofs.SampleBlocks.{words-join}
use Rattle.aes3_input.specs.Converting.{first_fault, out, whole}
use Rattle.aes3_input.specs.Running.{IsFault, converted}
use Rattle.aes3_input.proofs.InputRuns.{Gives}
use Rattle.aes3_engine.specs.Encoding.{AllLawful, BadCodeAt, BadParityAt, encoded, encoded_file, encoding}
use Rattle.aes3_engine.specs.Words.{IsWordsCause, TakesWords, encoded_other, with_left_out, words_counts}
use Rattle.aes3_engine.specs.Words.{words_left_out, words_reading}
use Rattle.aes3_engine.proofs.EncodeRuns.{clean-lawful, code-cause, end-cases, length-cause, no-end-cause}
use Rattle.aes3_engine.proofs.EncodeRuns.{no-fault-cause, out-encoded, parity-cause, starts, whole-encoded}
use Rattle.aes3_engine.proofs.EncodingLemmas.{encodes-seen}
use Rattle.aes3_engine.proofs.WordReads.{through-fault, through-out}

-- octets that fill no word are none of its words
short-words : (u : List ℕ) → length u < 4 → words_of u ≡ []
short-words [] h = refl
short-words (a ∷ []) h = refl
short-words (a ∷ b ∷ []) h = refl
short-words (a ∷ b ∷ c ∷ []) h = refl
short-words (a ∷ b ∷ c ∷ d ∷ u) h = absurd (omega (arith, h))

own-words : (form : Words) (b : List ℕ) → words_of (own_of form b) ≡ words_of (read_whole form b)
own-words form b =
    let n = length b / 4 in
    let v = whole_of b in
    let u = drop (4 * n) b in
    let left = length-drop (4 * n) b in
    let few : length u < 4 = omega (arith, left) in
    let k = length-own form n v (whole-length b) in
    ap (λ t. words_of (own_of form t)) (sym (take-append-drop (4 * n) b))
    ∙ ap words_of (own-cut form n v u (whole-length b) few)
    ∙ words-join (own_of form v) u (let e = k.1 in omega (arith, e))
    ∙ ap (λ t. words_of (own_of form v) ++ t) (short-words u few) ∙ append-nil (words_of (own_of form v))

same-lawful : (form : Words) (b : List ℕ) → lawful_words (own_of form b) ≡ lawful_words (read_whole form b)
unfolding lawful_words
same-lawful form b = ap (take_while is_lawful) (own-words form b)

pub same-blocks : (form : Words) (b : List ℕ) → file_blocks (own_of form b) ≡ file_blocks (read_whole form b)
unfolding file_blocks
same-blocks form b = ap (λ ws. blocks_in (length ws / block_subframes) ws) (same-lawful form b)

all-same : (form : Words) (b : List ℕ) → AllLawful (read_whole form b) → AllLawful (own_of form b)
all-same form b h = record { is = same-lawful form b ∙ h.is ∙ sym (own-words form b) }

code-same : (form : Words) (b : List ℕ) (at : ℕ) → BadCodeAt (read_whole form b) at → BadCodeAt (own_of form b) at
code-same form b at h = record {
  before = ap length (same-lawful form b) ∙ h.before;
  within = subst (λ (v : List ℕ). at < length v) (sym (own-words form b)) h.within;
  code = ap (λ v. has_code (get_or v at 0)) (own-words form b) ∙ h.code;
}

parity-same : (form : Words) (b : List ℕ) (at : ℕ) → BadParityAt (read_whole form b) at
    → BadParityAt (own_of form b) at
parity-same form b at h = record {
  before = ap length (same-lawful form b) ∙ h.before;
  within = subst (λ (v : List ℕ). at < length v) (sym (own-words form b)) h.within;
  code = ap (λ v. has_code (get_or v at 0)) (own-words form b) ∙ h.code;
  parity = ap (λ v. has_parity (get_or v at 0)) (own-words form b) ∙ h.parity;
}

encoded-same : (form : Words) (output : Form) (b : List ℕ) → encoded output (read_whole form b)
    ≡ encoded output (own_of form b)
unfolding encoded
encoded-same form output b = ap (λ v. bytes_of output (stream Low v)) (sym (same-blocks form b))

-- faults and what is written, of all octets
first-same : (form : Words) (output : Form) (b : List ℕ)
    → first_fault (words_reading form (encoding output)) b ≡ first_fault (encoding output) (read_whole form b)
unfolding first_fault
first-same form output b = through-fault form (encoding output) [] b

out-same : (form : Words) (output : Form) (b : List ℕ)
    → out (words_reading form (encoding output)) b ≡ out (encoding output) (read_whole form b)
unfolding out
out-same form output b = through-out form output [] b

out-words : (form : Words) (output : Form) (b : List ℕ)
    → out (words_reading form (encoding output)) b ≡ encoded output (own_of form b)
out-words form output b =
    out-same form output b ∙ out-encoded output (read_whole form b) ∙ encoded-same form output b

end-same : (form : Words) (output : Form) (b : List ℕ)
    → (words_reading form (encoding output)).end_fault b ≡ (encoding output).end_fault (own_of form b)
unfolding words_reading
end-same form output b = refl

whole-words : (form : Words) (output : Form) (b : List ℕ)
    → whole (words_reading form (encoding output)) b ≡ written output (stream Low (file_blocks (own_of form b)))
unfolding whole words_reading
whole-words form output b =
    ap (λ t. t ++ (encoding output).ends (own_of form b))
    (out-words form output b ∙ sym (out-encoded output (own_of form b)))
    ∙ whole-encoded output (own_of form b)

-- words without a fault are read as a block file
clean-words : (form : Words) (output : Form) (b : List ℕ)
    → first_fault (words_reading form (encoding output)) b ≡ None → AllLawful (own_of form b)
clean-words form output b h =
    all-same form b (clean-lawful output (read_whole form b) (sym (first-same form output b) ∙ h))

pub whole-file : (form : Words) (output : Form) (b : List ℕ)
    → first_fault (words_reading form (encoding output)) b ≡ None
    → (words_reading form (encoding output)).end_fault b ≡ None → IsBlockFile (own_of form b)
whole-file form output b c e = record { whole = whole; lawful = (clean-words form output b c).is }
  where
    whole : length (own_of form b) % (4 * block_subframes) ≡ 0
    whole = elim (end-cases output (own_of form b)) [
      | inl q ↦ q.1
      | inr q ↦ absurd (none-some _ (sym e ∙ end-same form output b ∙ q.0))
    ]

-- the cause of each refusal
module _ (form : Words) (output : Form) (max : ℕ) (b : List ℕ) (ended : Bool) where
  first-of : (e : RunError) → first_fault (words_reading form (encoding output)) (take max b) ≡ Some e
      → first_fault (encoding output) (read_whole form (take max b)) ≡ Some e
  first-of e q = sym (first-same form output (take max b)) ∙ q

  end-of : (e : RunError) → (words_reading form (encoding output)).end_fault b ≡ Some e
      → (encoding output).end_fault (own_of form b) ≡ Some e
  end-of e q = sym (end-same form output b) ∙ q

  pub words-cause : (e : RunError) → IsFault (words_reading form (encoding output)) max b ended e
      → IsWordsCause form max b ended e
  words-cause Read h = (clean-words form output b h.clean, h.short)
  words-cause Write h = h
  words-cause TooLong h = (clean-words form output (take max b) h.0.clean, h.1)
  words-cause (BadCode at) h = elim h [
    | inl q ↦ code-same form (take max b) at (code-cause output (read_whole form (take max b)) at (first-of
        (BadCode at) q))
    | inr q ↦ absurd (no-end-cause output (own_of form b) (BadCode at) (λ k e. cc) (end-of (BadCode at) q.1))
  ]
  words-cause (BadParity at) h = elim h [
    | inl q ↦
        parity-same form (take max b) at
        (parity-cause output (read_whole form (take max b)) at (first-of (BadParity at) q))
    | inr q ↦ absurd (no-end-cause output (own_of form b) (BadParity at) (λ k e. cc) (end-of (BadParity at) q.1))
  ]
  words-cause (BadLength left) h = elim h [
    | inl q ↦
        absurd (no-fault-cause output (read_whole form (take max b)) (BadLength left) (λ k e. cc) (λ k e. cc)
        (first-of (BadLength left) q))
    | inr q ↦
        let c = length-cause output (own_of form b) left (end-of (BadLength left) q.1) in (
          record { lawful = clean-words form output b q.0.clean.clean; count = c.0; some = c.1 },
          q.0.clean.short,
          q.0.end,
        )
  ]
  words-cause (BadCell at) h = elim h [
    | inl q ↦
        no-fault-cause output (read_whole form (take max b)) (BadCell at) (λ k e. cc) (λ k e. cc)
        (first-of (BadCell at) q)
    | inr q ↦ no-end-cause output (own_of form b) (BadCell at) (λ k e. cc) (end-of (BadCell at) q.1)
  ]
  words-cause Memory h = elim h [
    | inl q ↦
        no-fault-cause output (read_whole form (take max b)) Memory (λ k e. cc) (λ k e. cc) (first-of Memory q)
    | inr q ↦ no-end-cause output (own_of form b) Memory (λ k e. cc) (end-of Memory q.1)
  ]
  words-cause BadStatusText h = elim h [
    | inl q ↦
        no-fault-cause output (read_whole form (take max b)) BadStatusText (λ k e. cc) (λ k e. cc)
        (first-of BadStatusText q)
    | inr q ↦ no-end-cause output (own_of form b) BadStatusText (λ k e. cc) (end-of BadStatusText q.1)
  ]
  words-cause (BadPadding at) h = elim h [
    | inl q ↦
        no-fault-cause output (read_whole form (take max b)) (BadPadding at) (λ k e. cc) (λ k e. cc)
        (first-of (BadPadding at) q)
    | inr q ↦ no-end-cause output (own_of form b) (BadPadding at) (λ k e. cc) (end-of (BadPadding at) q.1)
  ]
  words-cause (BadSample at) h = elim h [
    | inl q ↦
        no-fault-cause output (read_whole form (take max b)) (BadSample at) (λ k e. cc) (λ k e. cc)
        (first-of (BadSample at) q)
    | inr q ↦ no-end-cause output (own_of form b) (BadSample at) (λ k e. cc) (end-of (BadSample at) q.1)
  ]
  words-cause SoundHeader h = elim h [
    | inl q ↦
        no-fault-cause output (read_whole form (take max b)) SoundHeader (λ k e. cc) (λ k e. cc)
        (first-of SoundHeader q)
    | inr q ↦ no-end-cause output (own_of form b) SoundHeader (λ k e. cc) (end-of SoundHeader q.1)
  ]
  words-cause (Inexact at) h = elim h [
    | inl q ↦
        no-fault-cause output (read_whole form (take max b)) (Inexact at) (λ k e. cc) (λ k e. cc)
        (first-of (Inexact at) q)
    | inr q ↦ no-end-cause output (own_of form b) (Inexact at) (λ k e. cc) (end-of (Inexact at) q.1)
  ]

-- the counts of a run
pub words-counted : (b : List ℕ) (n : ℕ) → length b ≡ n
    → ◌≡◌ {A = Counts}
    (record { bytes = n; cells = 0; blocks = 0; faults = 0; unfinished = 0; marks = 0 }) (words_counts b)
words-counted b n e = rw (sym e) refl

-- so many words are left out, of n that may be
record LeftOut (form : Words) (n : ℕ) (v : List ℕ) : Type 0 where
  pub count : ℕ
  pub few : count ≤ n
  pub parts : length v ≡ 4 * count + length (from_block form n v)

none-out : (form : Words) (n : ℕ) (v : List ℕ) → from_block form n v ≡ v → LeftOut form n v
none-out form n v e = record { count = 0; few = omega arith; parts = (let l = ap length e in omega (arith, l)) }

left-out : (form : Words) (n : ℕ) (v : List ℕ) → LeftOut form n v
left-out form zero v = none-out form zero v refl
left-out form (suc n) [] = none-out form (suc n) [] refl
left-out form (suc n) (a ∷ []) = none-out form (suc n) (a ∷ []) refl
left-out form (suc n) (a ∷ b ∷ []) = none-out form (suc n) (a ∷ b ∷ []) refl
left-out form (suc n) (a ∷ b ∷ c ∷ []) = none-out form (suc n) (a ∷ b ∷ c ∷ []) refl
left-out form (suc n) (a ∷ b ∷ c ∷ d ∷ v) = go (is_within form a) refl (left-out form n v)
  where
    front : (t : Bool) → is_within form a ≡ t → from_block form (suc n) (a ∷ b ∷ c ∷ d ∷ v)
        ≡ (if t then from_block form n v else a ∷ b ∷ c ∷ d ∷ v)
    front t w = ap (λ s. if s then from_block form n v else a ∷ b ∷ c ∷ d ∷ v) w

    go : (t : Bool) → is_within form a ≡ t → LeftOut form n v → LeftOut form (suc n) (a ∷ b ∷ c ∷ d ∷ v)
    go true w h = record {
      count = suc h.count;
      few = (let f = h.few in omega (arith, f));
      parts = (let e = ap length (front true w) in let p = h.parts in omega (arith, e, p));
    }
    go false w h = none-out form (suc n) (a ∷ b ∷ c ∷ d ∷ v) (front false w)

-- what is left of the bytes beside whole blocks is left out
pub left-out-is : (form : Words) (b : List ℕ) (n : ℕ) → length b ≡ n → IsBlockFile (own_of form b)
    → n % 1536 / 4 ≡ words_left_out form b
unfolding block_subframes
left-out-is form b n e file =
    let h = left-out form most_left_out b in
    let few = h.few in
    let parts = h.parts in
    let size = length-each (own_word form) (own-fours form) 0 (from_block form most_left_out b) in
    let whole = file.whole in
    omega (arith, e, few, parts, size, whole)

-- of a block file's own words none
own-stays : (n : ℕ) (v : List ℕ) → from_block Own n v ≡ v
own-stays zero v = refl
own-stays (suc n) [] = refl
own-stays (suc n) (a ∷ []) = refl
own-stays (suc n) (a ∷ b ∷ []) = refl
own-stays (suc n) (a ∷ b ∷ c ∷ []) = refl
own-stays (suc n) (a ∷ b ∷ c ∷ d ∷ v) = refl

pub none-left-out : (b : List ℕ) → 0 ≡ words_left_out Own b
none-left-out b = let e = ap length (own-stays most_left_out b) in omega (arith, e)

-- the run
pub own-gives : (output : Form) → Gives (encoded_file output) (with_left_out Own (encoded_file output))
own-gives output = record {
  input = λ b h. h;
  whole = λ b h. refl;
  begun = λ b. refl;
  cause = λ max b ended e h. h;
}

pub words-gives : (form : Words) (output : Form) (z : List ℕ → Type 0)
    → Gives (converted (words_reading form (encoding output)) z) (with_left_out form (encoded_other form output))
words-gives form output z = record {
  input = λ b h. whole-file form output b h.clean h.end_clean;
  whole = λ b h. whole-words form output b;
  begun = out-words form output;
  cause = λ max b ended e h. words-cause form output max b ended e h;
}

-- how many octets are read, of which the last are those of the word that is begun
taken-length : (form : Words) {file : FileReader} {blocks left : ℕ} {has_begun : Bool} (begun b : List ℕ)
    → TakesWords form file blocks left has_begun begun b → length (own_of form b) ≡ file.seen + length begun
taken-length form {file} begun b h =
    ap (λ v. length (own_of form v)) h.is ∙ ap length (own-cut form h.count h.words begun h.whole h.few)
    ∙ length-append (own_of form h.words) begun ∙ ap (λ n. n + length begun) (sym (encodes-seen h.encodes))

-- the end
pub end-begun : (form : Words) (output : Form) {file : FileReader} {blocks left : ℕ} {has_begun : Bool}
    (begun b : List ℕ) (n : ℕ)
    → TakesWords form file blocks left has_begun begun b → n ≡ (file.seen + length begun) % 1536 → 0 < n
    → (words_reading form (encoding output)).end_fault b ≡ Some (BadLength n)
unfolding block_subframes
end-begun form output {file} begun b n h e s =
    let l = taken-length form begun b h in
    end-same form output b ∙ elim (end-cases output (own_of form b)) [
      | inl q ↦ absurd (let z = q.1 in omega (arith, l, e, s, z))
      | inr q ↦
          let k : length (own_of form b) % 1536 ≡ n = omega (arith, l, e) in
          q.0 ∙ ap (λ m. Some (BadLength m)) k
    ]

pub end-whole : (form : Words) (output : Form) {file : FileReader} {blocks left : ℕ} {has_begun : Bool}
    (begun b : List ℕ)
    → TakesWords form file blocks left has_begun begun b → (file.seen + length begun) % 1536 ≡ 0
    → (words_reading form (encoding output)).end_fault b ≡ None
unfolding block_subframes
end-whole form output {file} begun b h e =
    let l = taken-length form begun b h in
    end-same form output b ∙ elim (end-cases output (own_of form b)) [
      | inl q ↦ q.0
      | inr q ↦ absurd (let z = q.1 in omega (arith, l, e, z))
    ]

pub ends-is : (form : Words) (output : Form) (b : List ℕ)
    → (words_reading form (encoding output)).ends b ≡ ending output
unfolding words_reading encoding
ends-is form output b = refl

-- no more is read than there is
pub seen-few : (form : Words) {file : FileReader} {blocks left : ℕ} {has_begun : Bool} (begun b : List ℕ)
    → TakesWords form file blocks left has_begun begun b → file.seen + length begun ≤ length b
seen-few form begun b h =
    let l = length-own-le form h.words in
    let s = encodes-seen h.encodes in
    let size = ap length h.is ∙ length-append h.words begun in
    omega (arith, l, s, size)

-- at the start
pub starts-words : (form : Words) (file : FileReader) → file.seen ≡ 0 → file.words ≡ [] → file.bytes ≡ []
    → file.fault ≡ None → (begun : List ℕ) → begun ≡ [] → TakesWords form file 0 383 false begun []
starts-words form file a b c d begun e = record {
  words = [];
  count = 0;
  whole = refl;
  is = sym e;
  few = (let l = ap length e in omega (arith, l));
  encodes = starts file a b c d;
  ahead = record { none = refl; on = λ more. refl };
}
