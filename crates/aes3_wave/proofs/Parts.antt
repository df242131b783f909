-- Headers and the chunks that they are made of.
use Rattle.std.proofs.Common.{inl, inr, ◌⊎◌, ◌≡◌, ◌≢◌, true, false, Bool, ℕ, zero, suc, ◌+◌, ◌<◌, ◌≤◌, List, [], ◌∷◌, ◌++◌, length, take, drop}
use Rattle.std.proofs.Common.{refl, sym, ap, ◌∙◌, arith, append_assoc}
use Rattle.std.specs.Prelude.{None, Result, Ok, Err}
use Rattle.std.specs.List.{concat}
use Rattle.std.proofs.lemmas.Bool.{cases_lt}
use Rattle.std.proofs.lemmas.List.{drop-append-le, drop_all, drop_at, length-append, length-drop, take_all}
use Rattle.std.proofs.lemmas.List.{take-append-le}
use Rattle.aes3_wave.specs.declared.header_error.HeaderError.{HeaderError}
use Rattle.aes3_wave.specs.declared.chunk.Known.{Known}
use Rattle.aes3_wave.specs.Chunks.{chunk_len, head, head_len, is_data, known_with}
use Rattle.aes3_wave.specs.Headers.{Judged, after, first_known, found, header_in, judged, judged_from}
use Rattle.aes3_wave.specs.Laws.{AreChunks, IsChunk, IsMadeOf}
use Rattle.aes3_wave.proofs.Chunks.{data-on, from-data, from-more, from-next, from-short, head_len-most}
use Rattle.aes3_wave.proofs.Chunks.{next-on}
use Rattle.aes3_wave.proofs.Steps.{judged-long, judged-short}

-- ---- parts are read

pub chunk-read : (at : ℕ) (k known : Known) (f c : List ℕ) → IsChunk f → known_with k (head k f) ≡ Ok known
    → judged_from at k (f ++ c) ≡ judged_from (at + length f) known c
chunk-read at k known f c w e =
    let most = head_len-most k f in
    let whole = w.whole in
    next-on at k f c w.head w.other (omega arith)
    ∙ ap (λ r. after at r (λ known. judged_from (at + chunk_len f) known (drop (chunk_len f) (f ++ c)))) e
    ∙ ap (judged_from (at + chunk_len f) known) (drop_at f c (chunk_len f) whole)
    ∙ ap (λ n. judged_from (at + n) known c) (sym whole)

pub chunks-read : (at : ℕ) (k known : Known) (chunks : List (List ℕ)) (c : List ℕ) → AreChunks k chunks known
    → judged_from at k (concat chunks ++ c) ≡ judged_from (at + length (concat chunks)) known c
chunks-read at k known [] c w =
    ap (λ v. judged_from at v c) (sym w)
    ∙ ap (λ n. judged_from n known c) (let e : at ≡ at + 0 = omega arith in e)
chunks-read at k known (f ∷ chunks) c w =
    ap (judged_from at k) (append_assoc f (concat chunks) c)
    ∙ chunk-read at k w.1.0 f (concat chunks ++ c) w.0 w.1.1
    ∙ chunks-read (at + length f) w.1.0 known chunks c w.1.2
    ∙ ap (λ n. judged_from n known c)
    (let l = length-append f (concat chunks) in
    let e : at + length f + length (concat chunks) ≡ at + length (f ++ concat chunks) = omega arith in
    e)

pub first-read : (first c : List ℕ) (k : Known) → length first ≡ 12 → first_known first ≡ Ok k
    → judged (first ++ c) ≡ judged_from 12 k c
first-read first c k h e =
    judged-long (first ++ c) (let l = length-append first c in omega arith)
    ∙ ap (λ v. after 0 (first_known v) (λ known. judged_from 12 known (drop 12 (first ++ c))))
    (take-append-le 12 first c (omega arith) ∙ take_all 12 first (omega arith))
    ∙ ap (λ r. after 0 r (λ known. judged_from 12 known (drop 12 (first ++ c)))) e
    ∙ ap (judged_from 12 k) (drop_at first c 12 h)

pub parts-read : (first : List ℕ) (chunks : List (List ℕ)) (last more : List ℕ) (known : Known)
    → IsMadeOf first chunks last known
    → judged (first ++ (concat chunks ++ (last ++ more))) ≡ found (header_in (12 + length (concat chunks)) known last)
parts-read first chunks last more known w =
    let eight = w.eight in
    first-read first (concat chunks ++ (last ++ more)) w.before w.twelve w.says
    ∙ chunks-read 12 w.before known chunks (last ++ more) w.chunks
    ∙ data-on (12 + length (concat chunks)) known last more (omega arith) w.named

-- ---- what is decided stays

abbrev Decided : Judged → Type 0
Decided j = j ≢ Ok None

after-stays : (at : ℕ) (r : Result Known HeaderError) (f g : Known → Judged) → Decided (after at r g)
    → ((k : Known) → Decided (g k) → f k ≡ g k) → after at r f ≡ after at r g
after-stays at (Ok k) f g d h = h k d
after-stays at (Err e) f g d h = refl

stays-by : (at : ℕ) (k : Known) (b c : List ℕ) → Decided (judged_from at k b)
    → ((known : Known) → Decided (judged_from (at + chunk_len b) known (drop (chunk_len b) b))
    → judged_from (at + chunk_len b) known (drop (chunk_len b) b ++ c)
    ≡ judged_from (at + chunk_len b) known (drop (chunk_len b) b))
    → judged_from at k (b ++ c) ≡ judged_from at k b
stays-by at k b c d again = go (cases_lt (length b) 8)
  where
    rest : (known : Known) → Decided (judged_from (at + chunk_len b) known (drop (chunk_len b) b))
        → judged_from (at + chunk_len b) known (drop (chunk_len b) (b ++ c))
        ≡ judged_from (at + chunk_len b) known (drop (chunk_len b) b)
    rest known q =
        elim (cases_lt (length b) (chunk_len b)) [
          | inl h ↦ absurd (q (ap (judged_from (at + chunk_len b) known) (drop_all (chunk_len b) b (omega (arith, h)))
              ∙ from-short (at + chunk_len b) known [] (omega arith)))
          | inr h ↦ ap (judged_from (at + chunk_len b) known) (drop-append-le (chunk_len b) b c h) ∙ again known q
        ]

    head-there : 8 ≤ length b → is_data b ≡ false → head_len k b ≤ length b
        → judged_from at k (b ++ c) ≡ judged_from at k b
    head-there h t q =
        let e = from-next at k b h t q in
        next-on at k b c h t q
        ∙ after-stays at (known_with k (head k b))
        (λ known. judged_from (at + chunk_len b) known (drop (chunk_len b) (b ++ c)))
        (λ known. judged_from (at + chunk_len b) known (drop (chunk_len b) b)) (λ z. d (e ∙ z)) rest
        ∙ sym e

    named : 8 ≤ length b → (t : Bool) → is_data b ≡ t → judged_from at k (b ++ c) ≡ judged_from at k b
    named h true t = data-on at k b c h t ∙ sym (from-data at k b h t)
    named h false t =
        elim (cases_lt (length b) (head_len k b)) [
          | inl q ↦ absurd (d (from-more at k b h t q))
          | inr q ↦ head-there h t q
        ]

    go : (length b < 8) ⊎ (8 ≤ length b) → judged_from at k (b ++ c) ≡ judged_from at k b
    go (inl h) = absurd (d (from-short at k b h))
    go (inr h) = named h (is_data b) refl

pub from-stays : (n at : ℕ) (k : Known) (b c : List ℕ) → length b ≤ n → Decided (judged_from at k b)
    → judged_from at k (b ++ c) ≡ judged_from at k b
from-stays zero at k b c l d = absurd (d (from-short at k b (omega arith)))
from-stays (suc n) at k b c l d =
    stays-by at k b c d (λ known q. from-stays n (at + chunk_len b) known (drop (chunk_len b) b) c
    (let m = length-drop (chunk_len b) b in omega arith) q)

pub decided-stays : (b c : List ℕ) → Decided (judged b) → judged (b ++ c) ≡ judged b
decided-stays b c d = go (cases_lt (length b) 12)
  where
    long : 12 ≤ length b → judged (b ++ c) ≡ judged b
    long h =
        let e = judged-long b h in
        judged-long (b ++ c) (let l = length-append b c in omega arith)
        ∙ ap (λ v. after 0 (first_known v) (λ known. judged_from 12 known (drop 12 (b ++ c)))) (take-append-le 12 b c h)
        ∙ after-stays 0 (first_known (take 12 b)) (λ known. judged_from 12 known (drop 12 (b ++ c)))
        (λ known. judged_from 12 known (drop 12 b)) (λ z. d (e ∙ z))
        (λ known q. ap (judged_from 12 known) (drop-append-le 12 b c h)
        ∙ from-stays (length (drop 12 b)) 12 known (drop 12 b) c (omega arith) q)
        ∙ sym e

    go : (length b < 12) ⊎ (12 ≤ length b) → judged (b ++ c) ≡ judged b
    go (inl h) = absurd (d (judged-short b h))
    go (inr h) = long h
