-- Octets that have a header, and the chunks that it is made of.
use Rattle.std.proofs.Common.{inl, inr, ◌⊎◌, ◌≡◌, true, false, Bool, ℕ, zero, suc, ◌+◌, ◌<◌, ◌≤◌, List, [], ◌∷◌, ◌++◌, length, take, drop}
use Rattle.std.proofs.Common.{refl, sym, ap, ◌∙◌, arith, append_assoc}
use Rattle.std.specs.Prelude.{Some, None, Result, Ok, Err}
use Rattle.std.specs.List.{concat}
use Rattle.std.proofs.lemmas.Bool.{cases_lt}
use Rattle.std.proofs.lemmas.List.{drop_all, length-append, length-drop, length-take-le, take-append-drop}
use Rattle.aes3_wave.specs.declared.header_error.HeaderError.{HeaderError}
use Rattle.aes3_wave.specs.declared.chunk.Known.{Known}
use Rattle.aes3_wave.specs.declared.chunk.WaveHeader.{WaveHeader}
use Rattle.aes3_wave.specs.Chunks.{chunk_len, head, head_len, is_data, known_with}
use Rattle.aes3_wave.specs.Headers.{Judged, after, first_known, found, header_at, header_in, judged, judged_from, samples_len}
use Rattle.aes3_wave.specs.Laws.{AreChunks, HasParts, IsChunk}
use Rattle.aes3_wave.proofs.Chunks.{chunk-append, content-append, data-append, from-data, from-more, from-next, from-short}
use Rattle.aes3_wave.proofs.Chunks.{head-append, head_len-most}
use Rattle.aes3_wave.proofs.Steps.{judged-long, judged-short}

-- chunks up to the head of that of the samples, which say this header
record MadeFrom (at : ℕ) (k : Known) (b : List ℕ) (header : WaveHeader) : Type 0 where
  pub parts : List (List ℕ)
  pub last : List ℕ
  pub more : List ℕ
  pub known : Known
  pub is : b ≡ concat parts ++ (last ++ more)
  pub chunks : AreChunks k parts known
  pub eight : length last ≡ 8
  pub named : is_data last ≡ true
  pub says : header_in (at + length (concat parts)) known last ≡ Ok header

found-ok : (r : Result WaveHeader HeaderError) (header : WaveHeader) → found r ≡ Ok (Some header) → r ≡ Ok header
found-ok (Ok h) header e = let q : h ≡ header = cc in ap Ok q
found-ok (Err x) header e = cc

after-ok : (at : ℕ) (r : Result Known HeaderError) (f : Known → Judged) (header : WaveHeader)
    → after at r f ≡ Ok (Some header) → (k : Known) × (r ≡ Ok k) × (f k ≡ Ok (Some header))
after-ok at (Ok k) f header e = (k, refl, e)
after-ok at (Err x) f header e = cc

-- the first eight octets are those of the samples' chunk
made-data : (at : ℕ) (k : Known) (b : List ℕ) (header : WaveHeader) → 8 ≤ length b → is_data b ≡ true
    → judged_from at k b ≡ Ok (Some header) → MadeFrom at k b header
made-data at k b header h t e =
    let last = take 8 b in
    let more = drop 8 b in
    let eight : length last ≡ 8 = length-take-le 8 b h in
    let whole : last ++ more ≡ b = take-append-drop 8 b in
    record {
      parts = [];
      last = last;
      more = more;
      known = k;
      is = sym whole;
      chunks = refl;
      eight = eight;
      named = sym (data-append last more (omega arith)) ∙ ap is_data whole ∙ t;
      says = ap (λ n. header_in n k last) (let z : at + 0 ≡ at = omega arith in z)
          ∙ ap (λ n. header_at at (samples_len k n) k.format) (sym (content-append last more (omega arith)))
          ∙ ap (header_in at k) whole
          ∙ found-ok (header_in at k b) header (sym (from-data at k b h t) ∙ e);
    }

chunk-front : (k next : Known) (b : List ℕ) → 8 ≤ length b → is_data b ≡ false → chunk_len b ≤ length b
    → known_with k (head k b) ≡ Ok next
    → IsChunk (take (chunk_len b) b) × (known_with k (head k (take (chunk_len b) b)) ≡ Ok next)
chunk-front k next b h t fits e =
    let f = take (chunk_len b) b in
    let c = drop (chunk_len b) b in
    let len : length f ≡ chunk_len b = length-take-le (chunk_len b) b fits in
    let whole : f ++ c ≡ b = take-append-drop (chunk_len b) b in
    let long : 8 ≤ length f = omega arith in
    let same : chunk_len f ≡ chunk_len b = sym (chunk-append f c long) ∙ ap chunk_len whole in
    let most = head_len-most k f in (
      record {
        head = long;
        whole = len ∙ sym same;
        other = sym (data-append f c long) ∙ ap is_data whole ∙ t;
      },
      ap (known_with k) (sym (head-append k f c long (omega arith)) ∙ ap (head k) whole) ∙ e,
    )

-- a chunk comes first
made-chunk : (at : ℕ) (k next : Known) (b : List ℕ) (header : WaveHeader) → 8 ≤ length b → is_data b ≡ false
    → chunk_len b ≤ length b → known_with k (head k b) ≡ Ok next
    → MadeFrom (at + chunk_len b) next (drop (chunk_len b) b) header → MadeFrom at k b header
made-chunk at k next b header h t fits e m =
    let f = take (chunk_len b) b in
    let front = chunk-front k next b h t fits e in
    let len : length f ≡ chunk_len b = length-take-le (chunk_len b) b fits in
    record {
      parts = f ∷ m.parts;
      last = m.last;
      more = m.more;
      known = m.known;
      is = sym (take-append-drop (chunk_len b) b) ∙ ap (λ v. f ++ v) m.is
          ∙ sym (append_assoc f (concat m.parts) (m.last ++ m.more));
      chunks = (front.0, (next, front.1, m.chunks));
      eight = m.eight;
      named = m.named;
      says = ap (λ n. header_in n m.known m.last)
          (let l = length-append f (concat m.parts) in
          let z : at + length (f ++ concat m.parts) ≡ at + chunk_len b + length (concat m.parts) = omega arith in
          z) ∙ m.says;
    }

made-by : (at : ℕ) (k : Known) (b : List ℕ) (header : WaveHeader) → judged_from at k b ≡ Ok (Some header)
    → ((next : Known) → judged_from (at + chunk_len b) next (drop (chunk_len b) b) ≡ Ok (Some header)
    → MadeFrom (at + chunk_len b) next (drop (chunk_len b) b) header)
    → MadeFrom at k b header
made-by at k b header e again = go (cases_lt (length b) 8)
  where
    rest : 8 ≤ length b → is_data b ≡ false
        → (next : Known) × (known_with k (head k b) ≡ Ok next)
        × (judged_from (at + chunk_len b) next (drop (chunk_len b) b) ≡ Ok (Some header)) → MadeFrom at k b header
    rest h t r =
        elim (cases_lt (length b) (chunk_len b)) [
          | inl q ↦
              (let none = ap (judged_from (at + chunk_len b) r.0) (drop_all (chunk_len b) b (omega (arith, q)))
              ∙ from-short (at + chunk_len b) r.0 [] (omega arith) in
              let no : Ok None ≡ Ok (Some header) = sym none ∙ r.2 in
              cc)
          | inr q ↦ made-chunk at k r.0 b header h t q r.1 (again r.0 r.2)
        ]

    named : 8 ≤ length b → (t : Bool) → is_data b ≡ t → MadeFrom at k b header
    named h true t = made-data at k b header h t e
    named h false t =
        elim (cases_lt (length b) (head_len k b)) [
          | inl q ↦ (let no : Ok None ≡ Ok (Some header) = sym (from-more at k b h t q) ∙ e in cc)
          | inr q ↦ rest h t (after-ok at (known_with k (head k b))
              (λ known. judged_from (at + chunk_len b) known (drop (chunk_len b) b)) header
              (sym (from-next at k b h t q) ∙ e))
        ]

    go : (length b < 8) ⊎ (8 ≤ length b) → MadeFrom at k b header
    go (inl h) = let no : Ok None ≡ Ok (Some header) = sym (from-short at k b h) ∙ e in cc
    go (inr h) = named h (is_data b) refl

made-from : (n at : ℕ) (k : Known) (b : List ℕ) (header : WaveHeader) → length b ≤ n
    → judged_from at k b ≡ Ok (Some header) → MadeFrom at k b header
made-from zero at k b header l e =
    let no : Ok None ≡ Ok (Some header) = sym (from-short at k b (omega arith)) ∙ e in cc
made-from (suc n) at k b header l e =
    made-by at k b header e (λ next q. made-from n (at + chunk_len b) next (drop (chunk_len b) b) header
    (let m = length-drop (chunk_len b) b in omega arith) q)

pub has-parts : (b : List ℕ) (header : WaveHeader) → judged b ≡ Ok (Some header) → HasParts b header
has-parts b header e = go (cases_lt (length b) 12)
  where
    long : 12 ≤ length b → (k : Known) × (first_known (take 12 b) ≡ Ok k)
        × (judged_from 12 k (drop 12 b) ≡ Ok (Some header)) → HasParts b header
    long h r =
        let m = made-from (length (drop 12 b)) 12 r.0 (drop 12 b) header (omega arith) r.2 in
        record {
          first = take 12 b;
          chunks = m.parts;
          last = m.last;
          more = m.more;
          known = m.known;
          is = sym (take-append-drop 12 b) ∙ ap (λ v. take 12 b ++ v) m.is;
          parts = record {
            before = r.0;
            twelve = length-take-le 12 b h;
            says = r.1;
            chunks = m.chunks;
            eight = m.eight;
            named = m.named;
          };
          says = m.says;
        }

    go : (length b < 12) ⊎ (12 ≤ length b) → HasParts b header
    go (inl h) = let no : Ok None ≡ Ok (Some header) = sym (judged-short b h) ∙ e in cc
    go (inr h) =
        long h (after-ok 0 (first_known (take 12 b)) (λ known. judged_from 12 known (drop 12 b)) header
        (sym (judged-long b h) ∙ e))
