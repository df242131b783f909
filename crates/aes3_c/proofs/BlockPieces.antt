-- Pieces of memory of one length, and the words of blocks that are judged in turn.
use Rattle.std.proofs.Common.{◌≡◌, ℕ, ◌+◌, ◌-◌, ◌*◌, ◌/◌, ◌<◌, ◌≤◌, inl, inr, List, ◌++◌, length, take, drop, get_or, true, false}
use Rattle.std.proofs.Common.{MatchOption, Option, Some, sym, ap, ◌∙◌, arith, rules, subst, take-append-drop}
use Rattle.std.proofs.lemmas.Bool.{cases_lt}
use Rattle.std.proofs.lemmas.List.{drop-append-le, drop-drop, drop-take, drop_at, places, get_or-drop, get_or-take, length-drop, length-take-le}
use Rattle.std.proofs.lemmas.List.{take-append-le, take-take, take_at}
use Rattle.std.proofs.lemmas.Slice.{overwrites}
use borrow.Rule.Slice.PartMut.{put_mid}
use Rattle.aes3_frame.specs.Files.{is_lawful}
use Rattle.aes3_c.specs.Blocks.{IsFirstWrong, piece_at, word_in}

-- what is known of an option that has a value
pub known-some : {T : Type 0} (o : Option T) (t : T) (P : Type 0) (Q : T → Type 0) → o ≡ Some t → MatchOption o P Q → Q t
known-some {T} o t P Q e h = subst (λ (x : Option T). MatchOption x P Q) e h

-- pieces before another one, and pieces of which there is room for so many
pub piece-below : (len i j : ℕ) → i < j → len * i + len ≤ len * j
piece-below len i j h = grind arith

pub piece-room : (len i n size : ℕ) → i < n → n ≤ size / len → len * i + len ≤ size
piece-room len i n size h l = grind arith

-- a part that is put back as it was
pub put-same : (a k n : ℕ) (xs ys : List ℕ) → ys ≡ take n (drop a xs) → n ≡ k → put_mid a k xs ys ≡ xs
put-same a k n xs ys e h =
    ap (λ y. take a xs ++ (y ++ drop k (drop a xs))) (e ∙ ap (λ i. take i (drop a xs)) h)
    ∙ ap (λ t. take a xs ++ t) (take-append-drop k (drop a xs))
    ∙ take-append-drop a xs

-- a part of the same length is put
pub length-put : (a k : ℕ) (xs ys : List ℕ) → a + k ≤ length xs → length ys ≡ k → length (put_mid a k xs ys) ≡ length xs
length-put a k xs ys h l = search (rules, overwrites)

-- the rest behind one piece more
pub rest-later : (len i : ℕ) (xs was : List ℕ) → drop (len * i) xs ≡ drop (len * i) was
    → drop (len * (i + 1)) xs ≡ drop (len * (i + 1)) was
rest-later len i xs was e =
    ap (λ n. drop n xs) (let n : len * (i + 1) ≡ len * i + len = omega arith in n)
    ∙ sym (drop-drop len (len * i) xs) ∙ ap (drop len) e ∙ drop-drop len (len * i) was
    ∙ ap (λ n. drop n was) (let n : len * i + len ≡ len * (i + 1) = omega arith in n)

-- what is in memory before a part that was put
pub number-before : (a k : ℕ) (xs ys : List ℕ) (j : ℕ) → j < a → a ≤ length xs
    → get_or (put_mid a k xs ys) j 0 ≡ get_or xs j 0
number-before a k xs ys j h l = search (rules, places)

front-stays : (m n a : ℕ) (xs more : List ℕ) → m + n ≤ a → a ≤ length xs
    → take n (drop m (take a xs ++ more)) ≡ take n (drop m xs)
front-stays m n a xs more h l =
    let size = length-take-le a xs l in
    let left = length-drop m (take a xs) in
    ap (take n) (drop-append-le m (take a xs) more (omega (arith, h, size)))
    ∙ take-append-le n (drop m (take a xs)) more (omega (arith, h, size, left))
    ∙ ap (λ i. take n (drop m (take i xs))) (let e : a ≡ m + (a - m) = omega (arith, h) in e)
    ∙ ap (take n) (drop-take m (a - m) xs)
    ∙ take-take n (a - m) (drop m xs) (omega (arith, h))

-- pieces before the one that was put, and that one
pub piece-before : (len i j k : ℕ) (xs ys : List ℕ) → i < j → len * j ≤ length xs
    → piece_at len i (put_mid (len * j) k xs ys) ≡ piece_at len i xs
piece-before len i j k xs ys h l =
    front-stays (len * i) len (len * j) xs (ys ++ drop k (drop (len * j) xs)) (piece-below len i j h) l

pub piece-here : (len j k : ℕ) (xs ys : List ℕ) → length ys ≡ len → len * j ≤ length xs
    → piece_at len j (put_mid (len * j) k xs ys) ≡ ys
piece-here len j k xs ys h l =
    ap (take len) (drop_at (take (len * j) xs) (ys ++ drop k (drop (len * j) xs)) (len * j) (length-take-le (len * j) xs l))
    ∙ take_at ys (drop k (drop (len * j) xs)) len h

-- ---- words that are judged

-- the first words of one more block
pub lawful-more : (word : ℕ → ℕ) (piece : List ℕ) (i n : ℕ) → n ≤ 384
    → ((k : ℕ) → k < 384 → get_or piece k 0 ≡ word (384 * i + k))
    → ((k : ℕ) → k < 384 * i → is_lawful (word k) ≡ true)
    → ((k : ℕ) → k < n → is_lawful (get_or piece k 0) ≡ true)
    → (k : ℕ) → k < 384 * i + n → is_lawful (word k) ≡ true
lawful-more word piece i n few same before more k h = elim (cases_lt k (384 * i)) [
  | inl below ↦ before k below
  | inr above ↦
      ap (λ j. is_lawful (word j)) (let q : k ≡ 384 * i + (k - 384 * i) = omega (arith, above) in q)
      ∙ ap is_lawful (sym (same (k - 384 * i) (omega (arith, above, h, few))))
      ∙ more (k - 384 * i) (omega (arith, above, h))
]

-- all of them
pub all-right : (word : ℕ → ℕ) (n answer : ℕ) → answer ≡ 384 * n → ((k : ℕ) → k < 384 * n → is_lawful (word k) ≡ true)
    → IsFirstWrong word n answer
all-right word n answer e h = record {
  within = omega (arith, e);
  lawful = λ k l. h k (omega (arith, e, l));
  unlawful = λ no. absurd (no e);
}

-- up to one of a block
pub first-wrong : (word : ℕ → ℕ) (piece : List ℕ) (n i k answer : ℕ) → answer ≡ 384 * i + k → i < n → k < 384
    → ((j : ℕ) → j < 384 → get_or piece j 0 ≡ word (384 * i + j))
    → ((j : ℕ) → j < 384 * i → is_lawful (word j) ≡ true)
    → ((j : ℕ) → j < k → is_lawful (get_or piece j 0) ≡ true)
    → is_lawful (get_or piece k 0) ≡ false → IsFirstWrong word n answer
first-wrong word piece n i k answer e within few same before here wrong = record {
  within = omega (arith, e, within, few);
  lawful = λ j l. lawful-more word piece i k (omega (arith, few)) same before here j (omega (arith, e, l));
  unlawful = λ _. ap (λ j. is_lawful (word j)) e ∙ ap is_lawful (sym (same k few)) ∙ wrong;
}

-- a word of a piece
pub word-of-piece : (words piece : List ℕ) (i : ℕ) → piece ≡ piece_at 384 i words → (k : ℕ) → k < 384
    → get_or piece k 0 ≡ word_in words (384 * i + k)
word-of-piece words piece i e k h =
    ap (λ p. get_or p k 0) e ∙ get_or-take 384 (drop (384 * i) words) k 0 h ∙ get_or-drop (384 * i) words k 0
