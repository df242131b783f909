-- What the first octets of chunks say, whatever comes after them.
use Rattle.std.proofs.Common.{◌≡◌, ◌&&◌, ◌||◌, true, false, Bool, ℕ, zero, suc, ◌+◌, ◌%◌, ◌<◌, ◌≤◌, List, ◌++◌, length, take}
use Rattle.std.proofs.Common.{drop, refl, sym, ap, ap₂, ◌∙◌, arith, min}
use Rattle.std.specs.Prelude.{codes, if◌then◌else◌, nat_lt, is_none, None, Result, Ok, Err}
use Rattle.std.proofs.lemmas.Bool.{lt-ltb, le-ltb}
use Rattle.std.proofs.lemmas.List.{get_or_append_left, length-append, length-drop, take-append-le}
use Rattle.aes3_wave.specs.declared.header_error.HeaderError.{HeaderError}
use Rattle.aes3_wave.specs.declared.chunk.Known.{Known}
use Rattle.aes3_wave.specs.Octets.{begins, u32_at}
use Rattle.aes3_wave.specs.Chunks.{chunk_len, content_len, head, head_len, is_data, is_format, is_sizes, known_with}
use Rattle.aes3_wave.specs.Headers.{Judged, after, found, header_at, header_in, judged_chunks, judged_from, samples_len}

-- ---- numbers and names

pub begins-append : (b c w : List ℕ) → length w ≤ length b → begins (b ++ c) w ≡ begins b w
begins-append b c w h = rw (take-append-le (length w) b c h) refl

pub u32-append : (b c : List ℕ) (at : ℕ) → at + 4 ≤ length b → u32_at (b ++ c) at ≡ u32_at b at
u32-append b c at h =
    let e0 = get_or_append_left b c 0 at (omega arith) in
    let e1 = get_or_append_left b c 0 (at + 1) (omega arith) in
    let e2 = get_or_append_left b c 0 (at + 2) (omega arith) in
    let e3 = get_or_append_left b c 0 (at + 2 + 1) (omega arith) in
    omega (arith, e0, e1, e2, e3)

-- ---- the head of a chunk

pub content-append : (b c : List ℕ) → 8 ≤ length b → content_len (b ++ c) ≡ content_len b
content-append b c h = u32-append b c 4 h

pub chunk-append : (b c : List ℕ) → 8 ≤ length b → chunk_len (b ++ c) ≡ chunk_len b
chunk-append b c h = ap (λ n. 8 + n + n % 2) (content-append b c h)

pub data-append : (b c : List ℕ) → 8 ≤ length b → is_data (b ++ c) ≡ is_data b
data-append b c h = begins-append b c (codes "data") (let q : 4 ≤ length b = omega arith in q)

pub format-append : (k : Known) (b c : List ℕ) → 8 ≤ length b → is_format k (b ++ c) ≡ is_format k b
format-append k b c h =
    ap (λ t. t && is_none k.format) (begins-append b c (codes "fmt ") (let q : 4 ≤ length b = omega arith in q))

pub sizes-append : (k : Known) (b c : List ℕ) → 8 ≤ length b → is_sizes k (b ++ c) ≡ is_sizes k b
sizes-append k b c h =
    ap (λ t. t && k.is_long && is_none k.sizes) (begins-append b c (codes "ds64") (let q : 4 ≤ length b = omega arith in q))

abbrev head_by : Bool → ℕ → ℕ
head_by t n = if t then 8 + min n 40 else 8

pub head_len-append : (k : Known) (b c : List ℕ) → 8 ≤ length b → head_len k (b ++ c) ≡ head_len k b
head_len-append k b c h =
    ap₂ head_by (ap₂ (λ s t. s || t) (format-append k b c h) (sizes-append k b c h)) (content-append b c h)

head_by-most : (t : Bool) (n : ℕ) → head_by t n ≤ 8 + n
head_by-most true n = omega arith
head_by-most false n = omega arith

pub head_len-most : (k : Known) (b : List ℕ) → head_len k b ≤ chunk_len b
head_len-most k b = let h = head_by-most (is_format k b || is_sizes k b) (content_len b) in omega arith

pub head-append : (k : Known) (b c : List ℕ) → 8 ≤ length b → head_len k b ≤ length b → head k (b ++ c) ≡ head k b
head-append k b c h q =
    ap (λ n. take n (b ++ c)) (head_len-append k b c h) ∙ take-append-le (head_len k b) b c q

-- ---- chunks, one after the other

abbrev cases : Bool → Bool → Bool → Judged → Judged → Judged
cases t u v x y = if t then Ok None else if u then x else if v then Ok None else y

cases-next : (t u v : Bool) (x y : Judged) → t ≡ false → u ≡ false → v ≡ false → cases t u v x y ≡ y
cases-next t u v x y p q r =
    ap (λ s. cases s u v x y) p ∙ ap (λ s. cases false s v x y) q ∙ ap (λ s. cases false false s x y) r

cases-data : (t u v : Bool) (x y : Judged) → t ≡ false → u ≡ true → cases t u v x y ≡ x
cases-data t u v x y p q = ap (λ s. cases s u v x y) p ∙ ap (λ s. cases false s v x y) q

cases-more : (t u v : Bool) (x y : Judged) → t ≡ false → u ≡ false → v ≡ true → cases t u v x y ≡ Ok None
cases-more t u v x y p q r =
    ap (λ s. cases s u v x y) p ∙ ap (λ s. cases false s v x y) q ∙ ap (λ s. cases false false s x y) r

pub after-same : (at : ℕ) (r : Result Known HeaderError) (f g : Known → Judged) → ((k : Known) → f k ≡ g k)
    → after at r f ≡ after at r g
after-same at (Ok k) f g h = h k
after-same at (Err e) f g h = refl

rest-fewer : (n : ℕ) (b : List ℕ) → length b ≤ suc n → length (drop (chunk_len b) b) ≤ n
rest-fewer n b h = let l = length-drop (chunk_len b) b in omega arith

-- any number that is great enough is the same
pub enough : (n m at : ℕ) (k : Known) (b : List ℕ) → length b ≤ n → length b ≤ m
    → judged_chunks n at k b ≡ judged_chunks m at k b
enough zero zero at k b p q = refl
enough zero (suc m) at k b p q =
    sym (ap (λ t. cases t (is_data b) (nat_lt (length b) (head_len k b)) (found (header_in at k b))
    (after at (known_with k (head k b)) (λ known. judged_chunks m (at + chunk_len b) known (drop (chunk_len b) b))))
    (lt-ltb (length b) 8 (omega arith)))
enough (suc n) zero at k b p q =
    ap (λ t. cases t (is_data b) (nat_lt (length b) (head_len k b)) (found (header_in at k b))
    (after at (known_with k (head k b)) (λ known. judged_chunks n (at + chunk_len b) known (drop (chunk_len b) b))))
    (lt-ltb (length b) 8 (omega arith))
enough (suc n) (suc m) at k b p q =
    ap (cases (nat_lt (length b) 8) (is_data b) (nat_lt (length b) (head_len k b)) (found (header_in at k b)))
    (after-same at (known_with k (head k b))
    (λ known. judged_chunks n (at + chunk_len b) known (drop (chunk_len b) b))
    (λ known. judged_chunks m (at + chunk_len b) known (drop (chunk_len b) b))
    (λ known. enough n m (at + chunk_len b) known (drop (chunk_len b) b) (rest-fewer n b p) (rest-fewer m b q)))

-- chunks as their first one and what comes after it
opened : (at : ℕ) (k : Known) (b : List ℕ)
    → judged_from at k b ≡ cases (nat_lt (length b) 8) (is_data b) (nat_lt (length b) (head_len k b))
    (found (header_in at k b))
    (after at (known_with k (head k b)) (λ known. judged_from (at + chunk_len b) known (drop (chunk_len b) b)))
unfolding judged_from
opened at k b =
    enough (length b) (suc (length b)) at k b (omega arith) (omega arith)
    ∙ ap (cases (nat_lt (length b) 8) (is_data b) (nat_lt (length b) (head_len k b)) (found (header_in at k b)))
    (after-same at (known_with k (head k b))
    (λ known. judged_chunks (length b) (at + chunk_len b) known (drop (chunk_len b) b))
    (λ known. judged_chunks (length (drop (chunk_len b) b)) (at + chunk_len b) known (drop (chunk_len b) b))
    (λ known. enough (length b) (length (drop (chunk_len b) b)) (at + chunk_len b) known (drop (chunk_len b) b)
    (let l = length-drop (chunk_len b) b in omega arith) (omega arith)))

pub from-short : (at : ℕ) (k : Known) (b : List ℕ) → length b < 8 → judged_from at k b ≡ Ok None
from-short at k b h =
    opened at k b
    ∙ ap (λ t. cases t (is_data b) (nat_lt (length b) (head_len k b)) (found (header_in at k b))
    (after at (known_with k (head k b)) (λ known. judged_from (at + chunk_len b) known (drop (chunk_len b) b))))
    (lt-ltb (length b) 8 h)

pub from-data : (at : ℕ) (k : Known) (b : List ℕ) → 8 ≤ length b → is_data b ≡ true
    → judged_from at k b ≡ found (header_in at k b)
from-data at k b h d =
    opened at k b
    ∙ cases-data (nat_lt (length b) 8) (is_data b) (nat_lt (length b) (head_len k b)) (found (header_in at k b))
    (after at (known_with k (head k b)) (λ known. judged_from (at + chunk_len b) known (drop (chunk_len b) b)))
    (le-ltb (length b) 8 h) d

pub from-more : (at : ℕ) (k : Known) (b : List ℕ) → 8 ≤ length b → is_data b ≡ false → length b < head_len k b
    → judged_from at k b ≡ Ok None
from-more at k b h d q =
    opened at k b
    ∙ cases-more (nat_lt (length b) 8) (is_data b) (nat_lt (length b) (head_len k b)) (found (header_in at k b))
    (after at (known_with k (head k b)) (λ known. judged_from (at + chunk_len b) known (drop (chunk_len b) b)))
    (le-ltb (length b) 8 h) d (lt-ltb (length b) (head_len k b) q)

pub from-next : (at : ℕ) (k : Known) (b : List ℕ) → 8 ≤ length b → is_data b ≡ false → head_len k b ≤ length b
    → judged_from at k b
    ≡ after at (known_with k (head k b)) (λ known. judged_from (at + chunk_len b) known (drop (chunk_len b) b))
from-next at k b h d q =
    opened at k b
    ∙ cases-next (nat_lt (length b) 8) (is_data b) (nat_lt (length b) (head_len k b)) (found (header_in at k b))
    (after at (known_with k (head k b)) (λ known. judged_from (at + chunk_len b) known (drop (chunk_len b) b)))
    (le-ltb (length b) 8 h) d (le-ltb (length b) (head_len k b) q)

-- ---- the same with more octets after them

pub data-on : (at : ℕ) (k : Known) (f c : List ℕ) → 8 ≤ length f → is_data f ≡ true
    → judged_from at k (f ++ c) ≡ found (header_in at k f)
data-on at k f c h d =
    from-data at k (f ++ c) (let l = length-append f c in omega arith) (data-append f c h ∙ d)
    ∙ ap (λ n. found (header_at at (samples_len k n) k.format)) (content-append f c h)

pub next-on : (at : ℕ) (k : Known) (f c : List ℕ) → 8 ≤ length f → is_data f ≡ false → head_len k f ≤ length f
    → judged_from at k (f ++ c)
    ≡ after at (known_with k (head k f)) (λ known. judged_from (at + chunk_len f) known (drop (chunk_len f) (f ++ c)))
next-on at k f c h d q =
    from-next at k (f ++ c) (let l = length-append f c in omega arith) (data-append f c h ∙ d)
    (let l = length-append f c in let e = head_len-append k f c h in omega arith)
    ∙ ap (λ v. after at (known_with k v)
    (λ known. judged_from (at + chunk_len (f ++ c)) known (drop (chunk_len (f ++ c)) (f ++ c)))) (head-append k f c h q)
    ∙ ap (λ n. after at (known_with k (head k f)) (λ known. judged_from (at + n) known (drop n (f ++ c))))
    (chunk-append f c h)
