-- Octets of many words, joined and parted.
use Rattle.std.proofs.Common.{◌≡◌, ◌<◌, ◌≤◌, ◌+◌, ◌*◌, ◌/◌, ◌%◌, ℕ, suc, zero, List, [], ◌∷◌, ◌++◌, length, take, drop}
use Rattle.std.proofs.Common.{get_or, refl, sym, ap, ap₂, ◌∙◌, append_assoc, append-nil, take-append-drop, arith}
use Rattle.std.proofs.lemmas.List.{length-append, length-take-le, length-drop, take_at, drop_at, drop-drop}
use Rattle.std.proofs.lemmas.List.{take-append-le, drop-append-le}
use Rattle.std.proofs.Math.Seq.{take-add}
use borrow.Rule.Slice.PartMut.{put_mid}
use Rattle.aes3_forms_words.specs.Lists.{each_word, next}

-- what is made of a word is a word
pub record Fours (f : ℕ → ℕ → ℕ → ℕ → ℕ → List ℕ) : Type 0 where
  pub four : (p a b c d : ℕ) → length (f p a b c d) ≡ 4

-- octets that fill no word
pub few-stay : (f : ℕ → ℕ → ℕ → ℕ → ℕ → List ℕ) (p : ℕ) (v : List ℕ) → length v < 4 → each_word f p v ≡ v
few-stay f p [] h = refl
few-stay f p (a ∷ []) h = refl
few-stay f p (a ∷ b ∷ []) h = refl
few-stay f p (a ∷ b ∷ c ∷ []) h = refl
few-stay f p (a ∷ b ∷ c ∷ d ∷ v) h = absurd (omega (arith, h))

pub length-each : (f : ℕ → ℕ → ℕ → ℕ → ℕ → List ℕ) → Fours f → (p : ℕ) (v : List ℕ)
    → length (each_word f p v) ≡ length v
length-each f k p (a ∷ b ∷ c ∷ d ∷ v) =
    let i = length-append (f p a b c d) (each_word f (next p) v) in
    let j = length-each f k (next p) v in
    let l = k.four p a b c d in
    omega (arith, i, j, l)
length-each f k p (a ∷ b ∷ c ∷ []) = refl
length-each f k p (a ∷ b ∷ []) = refl
length-each f k p (a ∷ []) = refl
length-each f k p [] = refl

-- m whole words and what follows them
pub each-append : (f : ℕ → ℕ → ℕ → ℕ → ℕ → List ℕ) (p m : ℕ) (v w : List ℕ) → p < 384 → length v ≡ 4 * m
    → each_word f p (v ++ w) ≡ each_word f p v ++ each_word f ((p + m) % 384) w
each-append f p zero [] w h l = let e : (p + 0) % 384 ≡ p = omega (arith, h) in ap (λ q. each_word f q w) (sym e)
each-append f p (suc m) [] w h l = absurd (omega (arith, l))
each-append f p m (a ∷ []) w h l = absurd (omega (arith, l))
each-append f p m (a ∷ b ∷ []) w h l = absurd (omega (arith, l))
each-append f p m (a ∷ b ∷ c ∷ []) w h l = absurd (omega (arith, l))
each-append f p zero (a ∷ b ∷ c ∷ d ∷ v) w h l = absurd (omega (arith, l))
each-append f p (suc m) (a ∷ b ∷ c ∷ d ∷ v) w h l =
    let q : next p < 384 = omega arith in
    let e : (next p + m) % 384 ≡ (p + suc m) % 384 = omega arith in
    ap (λ t. f p a b c d ++ t)
    (each-append f (next p) m v w q (omega (arith, l)) ∙ ap (λ r. each_word f (next p) v ++ each_word f r w) e)
    ∙ sym (append_assoc (f p a b c d) (each_word f (next p) v) (each_word f ((p + suc m) % 384) w))

-- whole words and octets that fill none
pub each-cut : (f : ℕ → ℕ → ℕ → ℕ → ℕ → List ℕ) (p m : ℕ) (v w : List ℕ) → p < 384 → length v ≡ 4 * m → length w < 4
    → each_word f p (v ++ w) ≡ each_word f p v ++ w
each-cut f p m v w h l s =
    each-append f p m v w h l ∙ ap (λ t. each_word f p v ++ t) (few-stay f ((p + m) % 384) w s)

-- the words of a list before word n, and those from it on that are still to come
front-words : (f : ℕ → ℕ → ℕ → ℕ → ℕ → List ℕ) → Fours f → (p n : ℕ) (xs now : List ℕ)
    → now ≡ each_word f p (take n xs) ++ drop n xs → n ≤ length xs
    → (take n now ≡ each_word f p (take n xs)) × (drop n now ≡ drop n xs)
front-words f k p n xs now e h =
    let l : length (each_word f p (take n xs)) ≡ n = length-each f k p (take n xs) ∙ length-take-le n xs h in (
      ap (take n) e ∙ take_at (each_word f p (take n xs)) (drop n xs) n l,
      ap (drop n) e ∙ drop_at (each_word f p (take n xs)) (drop n xs) n l,
    )

-- one word more
pub word-more : (f : ℕ → ℕ → ℕ → ℕ → ℕ → List ℕ) → Fours f → (p i q n k : ℕ) (xs now ys : List ℕ)
    → now ≡ each_word f p (take n xs) ++ drop n xs → p < 384 → n ≡ 4 * i → n + 4 ≤ length xs → k ≡ 4
    → q ≡ (p + i) % 384 → ys ≡ each_word f q (take 4 (drop n now))
    → put_mid n k now ys ≡ each_word f p (take (n + 4) xs) ++ drop (n + 4) xs
word-more f k p i q n m xs now ys e below is h s at made =
    let r = front-words f k p n xs now e (omega (arith, h)) in
    let size = length-take-le n xs (omega (arith, h)) in
    ap₂ ◌++◌ r.0 (ap₂ ◌++◌
    (made ∙ ap₂ (λ a t. each_word f a (take 4 t)) at r.1)
    (ap₂ drop s r.1 ∙ drop-drop 4 n xs))
    ∙ sym (append_assoc (each_word f p (take n xs))
    (each_word f ((p + i) % 384) (take 4 (drop n xs))) (drop (n + 4) xs))
    ∙ ap (λ t. t ++ drop (n + 4) xs)
    (sym (each-append f p i (take n xs) (take 4 (drop n xs)) below (omega (arith, size, is)))
    ∙ ap (each_word f p) (sym (take-add n 4 xs)))

-- all words
pub all-words : (f : ℕ → ℕ → ℕ → ℕ → ℕ → List ℕ) (p i n : ℕ) (xs : List ℕ) → p < 384 → n ≡ 4 * i → n ≤ length xs
    → length xs < n + 4 → each_word f p (take n xs) ++ drop n xs ≡ each_word f p xs
all-words f p i n xs below is h s =
    let size = length-take-le n xs h in
    let left = length-drop n xs in
    sym (each-cut f p i (take n xs) (drop n xs) below (omega (arith, size, is)) (omega (arith, left, s)))
    ∙ ap (each_word f p) (take-append-drop n xs)

-- a word by itself
pub one-word : (f : ℕ → ℕ → ℕ → ℕ → ℕ → List ℕ) (p : ℕ) (v : List ℕ) → length v ≡ 4
    → f p (get_or v 0 0) (get_or v 1 0) (get_or v 2 0) (get_or v 3 0) ≡ each_word f p v
one-word f p (a ∷ b ∷ c ∷ d ∷ []) h = sym (append-nil (f p a b c d))
one-word f p [] h = absurd (omega (arith, h))
one-word f p (a ∷ []) h = absurd (omega (arith, h))
one-word f p (a ∷ b ∷ []) h = absurd (omega (arith, h))
one-word f p (a ∷ b ∷ c ∷ []) h = absurd (omega (arith, h))
one-word f p (a ∷ b ∷ c ∷ d ∷ e ∷ v) h = absurd (omega (arith, h))
