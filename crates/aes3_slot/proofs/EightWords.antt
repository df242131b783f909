-- Eight words at once, lane by lane.
use Rattle.std.proofs.Common.{◌≡◌, ℕ, ◌+◌, ◌-◌, ◌*◌, ◌/◌, ◌%◌, ◌^◌, ◌<◌, ◌≤◌, ◌⊎◌, inl, inr, List, Bool, ◌&&◌, not}
use Rattle.std.proofs.Common.{length, get_or, map, drop, replicate, refl, sym, ap, ap₂, ◌∙◌, subst, arith, w64, lit<}
use Rattle.std.specs.Prelude.{bit_and, bit_or, bit_xor, if◌then◌else◌}
use Rattle.std.specs.Int.{bit_at, bit_not}
use Rattle.std.specs.Simd.Lanes.{zip2, chunk, put_chunk}
use Rattle.std.proofs.lemmas.Bool.{cases_lt}
use Rattle.std.proofs.lemmas.List.{get_or-map, length-map}
use Rattle.std.proofs.lemmas.Nat.{and_le_l, xor_lt, or_lt, mod_below, shr_le}
use Rattle.std.proofs.lemmas.Simd.{get_or-zip2, length-zip2, get_or-chunk, get_or-put_chunk_below, get_or-put_chunk_at}
use Rattle.std.proofs.lemmas.Simd.{get_or-replicate, length-replicate}
use Rattle.aes3_slot.specs.declared.mark.Mark.TheVariants.{Z}
use Rattle.aes3_slot.specs.Preambles.{begins_with, unlike_at, with_seven, words_with_seven, InLanes, MarksAreTold}
use Rattle.aes3_slot.proofs.Windows.{Says, says-and, says-not, unlike-bit, mark-begins}
use Rattle.aes3_slot.proofs.WordMarks.{word-mark}

says : {v : List ℕ} {p : ℕ → ℕ → Bool} (l : InLanes v p) (i k : ℕ) → i < 8 → k < 64 → Says (get_or v i 0) k (p i k)
says l i k h g = record { is = l.bits i k h g }

-- `a & b` and `!a`
pub lanes-and : {v w : List ℕ} {p q : ℕ → ℕ → Bool} → InLanes v p → InLanes w q
    → InLanes (zip2 bit_and v w) (λ i k. p i k && q i k)
lanes-and {v} {w} {p} {q} a b = record {
  count = length-zip2 bit_and v w (a.count ∙ sym b.count) ∙ a.count;
  fit = λ i h. let l = and_le_l (get_or v i 0) (get_or w i 0) in let f = a.fit i h in
      subst (λ n. n < 2 ^ 64) (sym (at i h)) (omega (arith, l, f));
  bits = λ i k h g. ap (λ n. bit_at n k) (at i h) ∙ (says-and (says a i k h g) (says b i k h g)).is;
}
  where
    at : (i : ℕ) → i < 8 → get_or (zip2 bit_and v w) i 0 ≡ bit_and (get_or v i 0) (get_or w i 0)
    at i h = get_or-zip2 bit_and v w i 0 0 0 (let n = a.count in omega (arith, h, n)) (let n = b.count in
        omega (arith, h, n))

pub lanes-not : {v : List ℕ} {p : ℕ → ℕ → Bool} → InLanes v p → InLanes (map (bit_not w64) v) (λ i k. not (p i k))
lanes-not {v} {p} a = record {
  count = length-map v (bit_not w64) ∙ a.count;
  fit = λ i h. subst (λ n. n < 2 ^ 64) (sym (at i h)) (not-lt (get_or v i 0));
  bits = λ i k h g. ap (λ n. bit_at n k) (at i h) ∙ (says-not (a.fit i h) g (says a i k h g)).is;
}
  where
    at : (i : ℕ) → i < 8 → get_or (map (bit_not w64) v) i 0 ≡ bit_not w64 (get_or v i 0)
    at i h = get_or-map (bit_not w64) v i 0 0 (let n = a.count in omega (arith, h, n))

    not-lt : (x : ℕ) → bit_not w64 x < 2 ^ 64
    not-lt x = omega arith

-- `a ^ (a >> d | b << (64 - d))`
abbrev moved_lanes : List ℕ → List ℕ → ℕ → List ℕ
moved_lanes v w d = zip2 bit_or (zip2 (λ x s. x / 2 ^ s) v (replicate 8 d))
    (zip2 (λ x s. x * 2 ^ s % 2 ^ 64) w (replicate 8 (64 - d)))

pub unlike-lanes : (v w : List ℕ) (d : ℕ) → length v ≡ 8 → length w ≡ 8 → ((i : ℕ) → i < 8 → get_or v i 0 < 2 ^ 64)
    → 0 < d → d < 8
    → InLanes (zip2 bit_xor v
    (zip2 bit_or (zip2 (λ x s. x / 2 ^ s) v (replicate 8 d))
    (zip2 (λ x s. x * 2 ^ s % 2 ^ 64) w (replicate 8 (64 - d)))))
    (λ i k. unlike_at (with_seven (get_or v i 0) (get_or w i 0)) k d)
unlike-lanes v w d lv lw fit z s = record {
  count = length-zip2 bit_xor v (moved_lanes v w d) (lv ∙ sym lm) ∙ lv;
  fit = λ i h. subst (λ n. n < 2 ^ 64) (sym (at i h)) (unlike-lt (get_or v i 0) (get_or w i 0) (fit i h));
  bits = λ i k h g. ap (λ n. bit_at n k) (at i h) ∙ unlike-bit (get_or v i 0) (get_or w i 0) d k (fit i h) z s g;
}
  where
    ld : length (zip2 (λ x s. x / 2 ^ s) v (replicate 8 d)) ≡ 8
    ld = length-zip2 (λ x s. x / 2 ^ s) v (replicate 8 d) (lv ∙ sym (length-replicate 8 d)) ∙ lv

    lu : length (zip2 (λ x s. x * 2 ^ s % 2 ^ 64) w (replicate 8 (64 - d))) ≡ 8
    lu = length-zip2 (λ x s. x * 2 ^ s % 2 ^ 64) w (replicate 8 (64 - d)) (lw ∙ sym (length-replicate 8 (64 - d))) ∙ lw

    lm : length (moved_lanes v w d) ≡ 8
    lm = length-zip2 bit_or (zip2 (λ x s. x / 2 ^ s) v (replicate 8 d))
        (zip2 (λ x s. x * 2 ^ s % 2 ^ 64) w (replicate 8 (64 - d))) (ld ∙ sym lu) ∙ ld

    at : (i : ℕ) → i < 8
        → get_or (zip2 bit_xor v (moved_lanes v w d)) i 0 ≡ bit_xor (get_or v i 0)
        (bit_or (get_or v i 0 / 2 ^ d) (get_or w i 0 * 2 ^ (64 - d) % 2 ^ 64))
    at i h =
        get_or-zip2 bit_xor v (moved_lanes v w d) i 0 0 0 (omega (arith, h, lv)) (omega (arith, h, lm))
        ∙ ap (bit_xor (get_or v i 0))
        (get_or-zip2 bit_or (zip2 (λ x s. x / 2 ^ s) v (replicate 8 d))
        (zip2 (λ x s. x * 2 ^ s % 2 ^ 64) w (replicate 8 (64 - d))) i 0 0 0 (omega (arith, h, ld))
        (omega (arith, h, lu))
        ∙ ap₂ bit_or
        (get_or-zip2 (λ x s. x / 2 ^ s) v (replicate 8 d) i 0 0 0 (omega (arith, h, lv))
        (let n = length-replicate 8 d in omega (arith, h, n))
        ∙ ap (λ t. get_or v i 0 / 2 ^ t) (get_or-replicate 8 i d 0 h))
        (get_or-zip2 (λ x s. x * 2 ^ s % 2 ^ 64) w (replicate 8 (64 - d)) i 0 0 0 (omega (arith, h, lw))
        (let n = length-replicate 8 (64 - d) in omega (arith, h, n))
        ∙ ap (λ t. get_or w i 0 * 2 ^ t % 2 ^ 64) (get_or-replicate 8 i (64 - d) 0 h)))

    unlike-lt : (x y : ℕ) → x < 2 ^ 64 → bit_xor x (bit_or (x / 2 ^ d) (y * 2 ^ (64 - d) % 2 ^ 64)) < 2 ^ 64
    unlike-lt x y h =
        let q = shr_le x d in
        xor_lt 64 x _ h
        (or_lt 64 (x / 2 ^ d) (y * 2 ^ (64 - d) % 2 ^ 64) (omega (arith, h, q))
        (mod_below (y * 2 ^ (64 - d)) (2 ^ 64) (lit< tt)))

-- the preambles of blocks, by the cells that differ
pub block-lanes : {v : List ℕ} (cells next : List ℕ)
    → InLanes v (λ i k. ((not (unlike_at (with_seven (get_or cells i 0) (get_or next i 0)) k 1) && not
    (unlike_at (with_seven (get_or cells i 0) (get_or next i 0)) k 2))
    && (unlike_at (with_seven (get_or cells i 0) (get_or next i 0)) k 3 && unlike_at
    (with_seven (get_or cells i 0) (get_or next i 0)) k 7))
    && (not (unlike_at (with_seven (get_or cells i 0) (get_or next i 0)) k 4) &&
    (unlike_at (with_seven (get_or cells i 0) (get_or next i 0)) k 5 && unlike_at
    (with_seven (get_or cells i 0) (get_or next i 0)) k 6)))
    → InLanes v (λ i k. begins_with Z (drop k (with_seven (get_or cells i 0) (get_or next i 0))))
block-lanes cells next a = record {
  count = a.count;
  fit = a.fit;
  bits = λ i k h g. a.bits i k h g
      ∙ ap (λ b. if b then 1 else 0) (mark-begins (get_or cells i 0) (get_or next i 0) k g Z);
}

-- eight more words are told
pub eight-more : (words out v : List ℕ) (next i : ℕ) → length out ≡ length words → i + 9 ≤ length words
    → MarksAreTold words next out i
    → InLanes v (λ j k. begins_with Z
    (drop k (with_seven (get_or (chunk i 8 words) j 0) (get_or (chunk (i + 1) 8 words) j 0))))
    → MarksAreTold words next (put_chunk i out v) (i + 8)
eight-more words out v next i lo room before lanes = λ j k h g. go j k h g (cases_lt j i)
  where
    lv : length v ≡ 8
    lv = lanes.count

    go : (j k : ℕ) → j < i + 8 → k < 64 → (j < i) ⊎ (i ≤ j)
        → bit_at (get_or (put_chunk i out v) j 0) k
        ≡ (if begins_with Z (drop (64 * j + k) (words_with_seven words next)) then 1 else 0)
    go j k h g (inl l) = ap (λ n. bit_at n k) (get_or-put_chunk_below i out v j 0 l) ∙ before j k l g
    go j k h g (inr l) =
        let e : j ≡ i + (j - i) = omega arith in
        let f : i + 1 + (j - i) ≡ j + 1 = omega arith in
        let small : j - i < 8 = omega arith in
        ap (λ n. bit_at (get_or (put_chunk i out v) n 0) k) e
        ∙ ap (λ n. bit_at n k)
        (get_or-put_chunk_at i out v (j - i) 0 (omega (arith, lv, small)) (omega (arith, lv, lo, room)))
        ∙ lanes.bits (j - i) k small g
        ∙ ap (λ b. if b then 1 else 0)
        (ap₂ (λ a b. begins_with Z (drop k (with_seven a b))) (get_or-chunk i 8 words (j - i) 0 small
        ∙ ap (λ n. get_or words n 0) (sym e)) (get_or-chunk (i + 1) 8 words (j - i) 0 small
        ∙ ap (λ n. get_or words n 0) f)
        ∙ word-mark words next j k (get_or words (j + 1) 0) (omega (arith, h, room)) g (λ q. refl)
        (λ q. absurd (omega (arith, h, room, q))))
