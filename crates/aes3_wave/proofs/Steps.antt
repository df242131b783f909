-- What the first octets of a file and of a chunk decide.
use Rattle.std.proofs.Common.{inl, inr, ◌≡◌, true, false, Bool, ℕ, ◌+◌, ◌<◌, ◌≤◌, ◌^◌, List, ◌++◌, length, take, drop, refl, sym, ap, ap₂, ◌∙◌, arith}
use Rattle.std.specs.Prelude.{if◌then◌else◌, Option, Some, None, Result, Ok, Err}
use Rattle.std.proofs.lemmas.Bool.{cases_lt, lt-ltb, le-ltb}
use Rattle.std.proofs.lemmas.List.{length-append, take-append-le}
use Rattle.aes3_wave.specs.declared.header_error.HeaderError.{HeaderError}
use Rattle.aes3_wave.specs.declared.wave_format.WaveFormat.{WaveFormat}
use Rattle.aes3_wave.specs.declared.chunk.Known.{Known}
use Rattle.aes3_wave.specs.declared.chunk.WaveHeader.{WaveHeader}
use Rattle.aes3_wave.specs.declared.header_reader.Stage.TheVariants.{First, Chunks}
use Rattle.aes3_wave.specs.Chunks.{chunk_len, head, head_len, is_data, known_with}
use Rattle.aes3_wave.specs.Headers.{after, first_known, found, header_at, header_in, judged, judged_from}
use Rattle.aes3_wave.specs.Following.{IsNext, IsOpenChunk, IsSamples}
use Rattle.aes3_wave.proofs.Chunks.{data-on, from-more, from-short, next-on}

-- ---- the first octets of a file

pub judged-short : (b : List ℕ) → length b < 12 → judged b ≡ Ok None
unfolding judged
judged-short b h =
    ap (λ (t : Bool). if t then Ok None else after 0 (first_known (take 12 b)) (λ known. judged_from 12 known (drop 12 b)))
    (lt-ltb (length b) 12 h)

pub judged-long : (b : List ℕ) → 12 ≤ length b
    → judged b ≡ after 0 (first_known (take 12 b)) (λ known. judged_from 12 known (drop 12 b))
unfolding judged
judged-long b h =
    ap (λ (t : Bool). if t then Ok None else after 0 (first_known (take 12 b)) (λ known. judged_from 12 known (drop 12 b)))
    (le-ltb (length b) 12 h)

first-on : (f c : List ℕ) (r : Result Known HeaderError) → 12 ≤ length f → r ≡ first_known (take 12 f)
    → judged (f ++ c) ≡ after 0 r (λ known. judged_from 12 known (drop 12 (f ++ c)))
first-on f c r h e =
    judged-long (f ++ c) (let l = length-append f c in omega arith)
    ∙ ap (λ v. after 0 (first_known v) (λ known. judged_from 12 known (drop 12 (f ++ c)))) (take-append-le 12 f c h)
    ∙ ap (λ v. after 0 v (λ known. judged_from 12 known (drop 12 (f ++ c)))) (sym e)

pub first-next : (at : ℕ) (f : List ℕ) (known : Known) → 12 ≤ length f → Ok known ≡ first_known (take 12 f)
    → IsNext First at f known 12
first-next at f known h e = record {
  count = refl;
  few = omega arith;
  on = λ c. first-on f c (Ok known) h e;
}

pub first-refused : (f : List ℕ) (e : HeaderError) → 12 ≤ length f → Err e ≡ first_known (take 12 f)
    → (c : List ℕ) → judged (f ++ c) ≡ Err e
first-refused f e h q c =
    first-on f c (Err e) h q
    ∙ ap (λ n. Err (record { cause = e.cause; at = n })) (let z : 0 + e.at ≡ e.at = omega arith in z)

-- ---- those of a chunk

pub open-none : (at : ℕ) (k : Known) (f : List ℕ) → IsOpenChunk k f → judged_from at k f ≡ Ok None
open-none at k f o =
    elim (cases_lt (length f) 8) [
      | inl h ↦ from-short at k f h
      | inr h ↦ from-more at k f h (o.other h) (o.head h)
    ]

header-start : (at : ℕ) (len : Option ℕ) (format : Option WaveFormat) (header : WaveHeader)
    → Ok header ≡ header_at at len format → header.start ≡ at + 8
header-start at len None header e = cc
header-start at len (Some format) header e =
    let q : header ≡ record { format = format; start = at + 8; len = len } = cc in ap (λ (h : WaveHeader). h.start) q

pub chunk-samples : (at : ℕ) (k : Known) (f : List ℕ) (header : WaveHeader) → 8 ≤ length f → is_data f ≡ true
    → Ok header ≡ header_in at k f → IsSamples k at f header
chunk-samples at k f header h d e = record {
  head = h;
  named = d;
  start = header-start at _ _ header e;
  on = λ c. data-on at k f c h d ∙ ap found (sym e);
}

pub chunk-no-format : (at : ℕ) (k : Known) (f : List ℕ) (e : HeaderError) → 8 ≤ length f → is_data f ≡ true
    → Err e ≡ header_in at k f → (c : List ℕ) → judged_from at k (f ++ c) ≡ Err e
chunk-no-format at k f e h d q c = data-on at k f c h d ∙ ap found (sym q)

chunk-on : (at : ℕ) (k : Known) (f c : List ℕ) (r : Result Known HeaderError) → 8 ≤ length f → is_data f ≡ false
    → head_len k f ≤ length f → r ≡ known_with k (head k f)
    → judged_from at k (f ++ c)
    ≡ after at r (λ known. judged_from (at + chunk_len f) known (drop (chunk_len f) (f ++ c)))
chunk-on at k f c r h d q e =
    next-on at k f c h d q
    ∙ ap (λ v. after at v (λ known. judged_from (at + chunk_len f) known (drop (chunk_len f) (f ++ c)))) (sym e)

pub chunk-next : (at : ℕ) (k : Known) (f : List ℕ) (known : Known) (len : ℕ) → 8 ≤ length f → is_data f ≡ false
    → head_len k f ≤ length f → Ok known ≡ known_with k (head k f) → len ≡ chunk_len f → len < 2 ^ 33
    → IsNext (Chunks k) at f known len
chunk-next at k f known len h d q e n few = record {
  count = n;
  few = few;
  on = λ c. chunk-on at k f c (Ok known) h d q e ∙ ap (λ m. judged_from (at + m) known (drop m (f ++ c))) (sym n);
}

pub chunk-refused : (at : ℕ) (k : Known) (f : List ℕ) (e e' : HeaderError) → 8 ≤ length f → is_data f ≡ false
    → head_len k f ≤ length f → Err e ≡ known_with k (head k f) → e'.cause ≡ e.cause → e'.at ≡ at + e.at
    → (c : List ℕ) → judged_from at k (f ++ c) ≡ Err e'
chunk-refused at k f e e' h d q r cause place c =
    chunk-on at k f c (Err e) h d q r
    ∙ ap₂ (λ x n. Err (record { cause = x; at = n })) (sym cause) (sym place)
