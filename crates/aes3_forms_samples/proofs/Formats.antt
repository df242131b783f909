-- Samples in other forms, one behind the other.
use Rattle.std.proofs.Common.{rules, ◌≡◌, ◌≢◌, ◌==◌, ◌&&◌, true, false, ℕ, zero, suc, ◌+◌, ◌*◌, ◌/◌, ◌%◌, ◌<◌, ◌≤◌, List, [], ◌∷◌, ◌++◌, length, take}
use Rattle.std.proofs.Common.{drop, replicate, get_or, refl, sym, ap, ap₂, ◌∙◌, arith, append_assoc}
use borrow.Rule.Slice.PartMut.{put_mid}
use Rattle.std.proofs.lemmas.List.{drop_more, drop_all, drop-drop, get_or-drop, get_or-take, take_all, length-take}
use Rattle.std.proofs.lemmas.List.{length-take-le}
use Rattle.std.proofs.lemmas.Slice.{drop-put_mid, take-put_mid}
use Rattle.aes3_forms_samples.specs.declared.sample_format.SampleFormat.{SampleFormat}
use Rattle.aes3_forms_samples.specs.declared.sample_format.SampleFormat.TheVariants.{S32, S24, S24In32, S16}
use Rattle.aes3_forms_samples.specs.Formats.{block_len, fits, fours, narrow_one, narrowed, sample_len, seconds_are_zero, wide_threes}
use Rattle.aes3_forms_samples.specs.Formats.{wide_twos, widened}
use Rattle.aes3_forms_samples.specs.Laws.{AreSigned, HaveLowZeros, HaveSigns}

-- ---- fours

pub fours-join : (f : ℕ → ℕ → ℕ → ℕ → List ℕ) (p q : List ℕ) → length p % 4 ≡ 0
    → fours f (p ++ q) ≡ fours f p ++ fours f q
fours-join f [] q h = refl
fours-join f (a ∷ []) q h = absurd (omega arith)
fours-join f (a ∷ b ∷ []) q h = absurd (omega arith)
fours-join f (a ∷ b ∷ c ∷ []) q h = absurd (omega arith)
fours-join f (a ∷ b ∷ c ∷ d ∷ p) q h =
    ap (λ v. f a b c d ++ v) (fours-join f p q (omega arith)) ∙ sym (append_assoc (f a b c d) (fours f p) (fours f q))

fours-more : (f : ℕ → ℕ → ℕ → ℕ → List ℕ) (b d : List ℕ) → (v : List ℕ) × (fours f (b ++ d) ≡ fours f b ++ v)
fours-more f [] d = (fours f d, refl)
fours-more f (x ∷ []) d = (fours f (x ∷ d), refl)
fours-more f (x ∷ y ∷ []) d = (fours f (x ∷ y ∷ d), refl)
fours-more f (x ∷ y ∷ z ∷ []) d = (fours f (x ∷ y ∷ z ∷ d), refl)
fours-more f (x ∷ y ∷ z ∷ w ∷ b) d = let r = fours-more f b d in
    (r.0, ap (λ v. f x y z w ++ v) r.1 ∙ sym (append_assoc (f x y z w) (fours f b) r.0))

pub fours-short : (f : ℕ → ℕ → ℕ → ℕ → List ℕ) (b : List ℕ) → length b < 4 → fours f b ≡ []
fours-short f [] h = refl
fours-short f (a ∷ []) h = refl
fours-short f (a ∷ b ∷ []) h = refl
fours-short f (a ∷ b ∷ c ∷ []) h = refl
fours-short f (a ∷ b ∷ c ∷ d ∷ b') h = absurd (omega arith)

-- the four octets at a place
pub four-at : (xs : List ℕ) (n : ℕ) → n + 4 ≤ length xs
    → drop n xs ≡ get_or xs n 0 ∷ get_or xs (n + 1) 0 ∷ get_or xs (n + 2) 0 ∷ get_or xs (n + 3) 0 ∷ drop (n + 4) xs
four-at xs n h =
    drop_more xs n 0 (omega arith)
    ∙ ap (λ v. get_or xs n 0 ∷ v) (drop_more xs (n + 1) 0 (omega arith))
    ∙ ap (λ k. get_or xs n 0 ∷ get_or xs (n + 1) 0 ∷ drop k xs) (let e : n + 1 + 1 ≡ n + 2 = omega arith in e)
    ∙ ap (λ v. get_or xs n 0 ∷ get_or xs (n + 1) 0 ∷ v) (drop_more xs (n + 2) 0 (omega arith))
    ∙ ap (λ k. get_or xs n 0 ∷ get_or xs (n + 1) 0 ∷ get_or xs (n + 2) 0 ∷ drop k xs)
    (let e : n + 2 + 1 ≡ n + 3 = omega arith in e)
    ∙ ap (λ v. get_or xs n 0 ∷ get_or xs (n + 1) 0 ∷ get_or xs (n + 2) 0 ∷ v) (drop_more xs (n + 3) 0 (omega arith))
    ∙ ap (λ k. get_or xs n 0 ∷ get_or xs (n + 1) 0 ∷ get_or xs (n + 2) 0 ∷ get_or xs (n + 3) 0 ∷ drop k xs)
    (let e : n + 3 + 1 ≡ n + 4 = omega arith in e)

pub three-at : (xs : List ℕ) (n : ℕ) → n + 3 ≤ length xs
    → drop n xs ≡ get_or xs n 0 ∷ get_or xs (n + 1) 0 ∷ get_or xs (n + 2) 0 ∷ drop (n + 3) xs
three-at xs n h =
    drop_more xs n 0 (omega arith)
    ∙ ap (λ v. get_or xs n 0 ∷ v) (drop_more xs (n + 1) 0 (omega arith))
    ∙ ap (λ k. get_or xs n 0 ∷ get_or xs (n + 1) 0 ∷ drop k xs) (let e : n + 1 + 1 ≡ n + 2 = omega arith in e)
    ∙ ap (λ v. get_or xs n 0 ∷ get_or xs (n + 1) 0 ∷ v) (drop_more xs (n + 2) 0 (omega arith))
    ∙ ap (λ k. get_or xs n 0 ∷ get_or xs (n + 1) 0 ∷ get_or xs (n + 2) 0 ∷ drop k xs)
    (let e : n + 2 + 1 ≡ n + 3 = omega arith in e)

pub two-at : (xs : List ℕ) (n : ℕ) → n + 2 ≤ length xs
    → drop n xs ≡ get_or xs n 0 ∷ get_or xs (n + 1) 0 ∷ drop (n + 2) xs
two-at xs n h =
    drop_more xs n 0 (omega arith)
    ∙ ap (λ v. get_or xs n 0 ∷ v) (drop_more xs (n + 1) 0 (omega arith))
    ∙ ap (λ k. get_or xs n 0 ∷ get_or xs (n + 1) 0 ∷ drop k xs) (let e : n + 1 + 1 ≡ n + 2 = omega arith in e)

-- ---- samples of 32 bits in a form

pub narrowed-none : (f : SampleFormat) → narrowed f [] ≡ []
narrowed-none S32 = refl
narrowed-none S24 = refl
narrowed-none S24In32 = refl
narrowed-none S16 = refl

pub narrowed-join : (f : SampleFormat) (p q : List ℕ) → length p % 4 ≡ 0
    → narrowed f (p ++ q) ≡ narrowed f p ++ narrowed f q
narrowed-join S32 p q h = refl
narrowed-join S24 p q h = fours-join (narrow_one S24) p q h
narrowed-join S24In32 p q h = fours-join (narrow_one S24In32) p q h
narrowed-join S16 p q h = fours-join (narrow_one S16) p q h

-- ---- samples in a form

pub widened-none : (f : SampleFormat) → widened f [] ≡ []
widened-none S32 = refl
widened-none S24 = refl
widened-none S24In32 = refl
widened-none S16 = refl

threes-join : (p q : List ℕ) → length p % 3 ≡ 0 → wide_threes (p ++ q) ≡ wide_threes p ++ wide_threes q
threes-join [] q h = refl
threes-join (a ∷ []) q h = absurd (omega arith)
threes-join (a ∷ b ∷ []) q h = absurd (omega arith)
threes-join (a ∷ b ∷ c ∷ p) q h = ap (λ v. 0 ∷ a ∷ b ∷ c ∷ v) (threes-join p q (omega arith))

twos-join : (p q : List ℕ) → length p % 2 ≡ 0 → wide_twos (p ++ q) ≡ wide_twos p ++ wide_twos q
twos-join [] q h = refl
twos-join (a ∷ []) q h = absurd (omega arith)
twos-join (a ∷ b ∷ p) q h = ap (λ v. 0 ∷ 0 ∷ a ∷ b ∷ v) (twos-join p q (omega arith))

pub widened-join : (f : SampleFormat) (p q : List ℕ) → length p % sample_len f ≡ 0
    → widened f (p ++ q) ≡ widened f p ++ widened f q
widened-join S32 p q h = refl
widened-join S24 p q h = threes-join p q h
widened-join S24In32 p q h = fours-join (λ a b c d. 0 ∷ a ∷ b ∷ c ∷ []) p q h
widened-join S16 p q h = twos-join p q h

-- more octets leave what was whole
threes-more : (b d : List ℕ) → (v : List ℕ) × (wide_threes (b ++ d) ≡ wide_threes b ++ v)
threes-more [] d = (wide_threes d, refl)
threes-more (x ∷ []) d = (wide_threes (x ∷ d), refl)
threes-more (x ∷ y ∷ []) d = (wide_threes (x ∷ y ∷ d), refl)
threes-more (x ∷ y ∷ z ∷ b) d = let r = threes-more b d in (r.0, ap (λ v. 0 ∷ x ∷ y ∷ z ∷ v) r.1)

twos-more : (b d : List ℕ) → (v : List ℕ) × (wide_twos (b ++ d) ≡ wide_twos b ++ v)
twos-more [] d = (wide_twos d, refl)
twos-more (x ∷ []) d = (wide_twos (x ∷ d), refl)
twos-more (x ∷ y ∷ b) d = let r = twos-more b d in (r.0, ap (λ v. 0 ∷ 0 ∷ x ∷ y ∷ v) r.1)

pub widened-more : (f : SampleFormat) (b d : List ℕ) → (v : List ℕ) × (widened f (b ++ d) ≡ widened f b ++ v)
widened-more S32 b d = (d, refl)
widened-more S24 b d = threes-more b d
widened-more S24In32 b d = fours-more (λ a b c d. 0 ∷ a ∷ b ∷ c ∷ []) b d
widened-more S16 b d = twos-more b d

-- how many samples they have
length-threes : (b : List ℕ) → length (wide_threes b) ≡ 4 * (length b / 3)
length-threes [] = refl
length-threes (a ∷ []) = refl
length-threes (a ∷ b ∷ []) = refl
length-threes (a ∷ b ∷ c ∷ rest) = let e = length-threes rest in omega arith

length-twos : (b : List ℕ) → length (wide_twos b) ≡ 4 * (length b / 2)
length-twos [] = refl
length-twos (a ∷ []) = refl
length-twos (a ∷ b ∷ rest) = let e = length-twos rest in omega arith

length-wide_fours : (b : List ℕ) → length (fours (λ a b c d. 0 ∷ a ∷ b ∷ c ∷ []) b) ≡ 4 * (length b / 4)
length-wide_fours [] = refl
length-wide_fours (a ∷ []) = refl
length-wide_fours (a ∷ b ∷ []) = refl
length-wide_fours (a ∷ b ∷ c ∷ []) = refl
length-wide_fours (a ∷ b ∷ c ∷ d ∷ rest) = let e = length-wide_fours rest in omega arith

pub length-widened : (f : SampleFormat) (b : List ℕ) → length (widened f b) / 4 ≡ length b / sample_len f
length-widened S32 b = refl
length-widened S24 b = let e = length-threes b in omega arith
length-widened S24In32 b = let e = length-wide_fours b in omega arith
length-widened S16 b = let e = length-twos b in omega arith

pub widened-whole : (f : SampleFormat) (b : List ℕ) → length b % sample_len f ≡ 0 → length (widened f b) % 4 ≡ 0
widened-whole S32 b h = h
widened-whole S24 b h = let e = length-threes b in omega arith
widened-whole S24In32 b h = let e = length-wide_fours b in omega arith
widened-whole S16 b h = let e = length-twos b in omega arith

-- zeros
threes-zeros : (n : ℕ) → wide_threes (replicate (3 * n) 0) ≡ replicate (4 * n) 0
threes-zeros zero = refl
threes-zeros (suc n) =
    ap (λ k. wide_threes (replicate k 0)) (let e : 3 * suc n ≡ suc (suc (suc (3 * n))) = omega arith in e)
    ∙ ap (λ v. 0 ∷ 0 ∷ 0 ∷ 0 ∷ v) (threes-zeros n)
    ∙ ap (λ k. replicate k 0) (let e : suc (suc (suc (suc (4 * n)))) ≡ 4 * suc n = omega arith in e)

fours-zeros : (n : ℕ) → fours (λ a b c d. 0 ∷ a ∷ b ∷ c ∷ []) (replicate (4 * n) 0) ≡ replicate (4 * n) 0
fours-zeros zero = refl
fours-zeros (suc n) =
    ap (λ k. fours (λ a b c d. 0 ∷ a ∷ b ∷ c ∷ []) (replicate k 0))
    (let e : 4 * suc n ≡ suc (suc (suc (suc (4 * n)))) = omega arith in e)
    ∙ ap (λ v. 0 ∷ 0 ∷ 0 ∷ 0 ∷ v) (fours-zeros n)
    ∙ ap (λ k. replicate k 0) (let e : suc (suc (suc (suc (4 * n)))) ≡ 4 * suc n = omega arith in e)

twos-zeros : (n : ℕ) → wide_twos (replicate (2 * n) 0) ≡ replicate (4 * n) 0
twos-zeros zero = refl
twos-zeros (suc n) =
    ap (λ k. wide_twos (replicate k 0)) (let e : 2 * suc n ≡ suc (suc (2 * n)) = omega arith in e)
    ∙ ap (λ v. 0 ∷ 0 ∷ 0 ∷ 0 ∷ v) (twos-zeros n)
    ∙ ap (λ k. replicate k 0) (let e : suc (suc (suc (suc (4 * n)))) ≡ 4 * suc n = omega arith in e)

pub widened-zeros : (f : SampleFormat) (n : ℕ) → widened f (replicate (sample_len f * n) 0) ≡ replicate (4 * n) 0
widened-zeros S32 n = refl
widened-zeros S24 n = threes-zeros n
widened-zeros S24In32 n = fours-zeros n
widened-zeros S16 n = twos-zeros n

-- ---- samples in a form and back

threes-back : (b : List ℕ) → length b % 3 ≡ 0 → fours (narrow_one S24) (wide_threes b) ≡ b
threes-back [] h = refl
threes-back (a ∷ []) h = absurd (omega arith)
threes-back (a ∷ b ∷ []) h = absurd (omega arith)
threes-back (a ∷ b ∷ c ∷ rest) h = ap (λ v. a ∷ b ∷ c ∷ v) (threes-back rest (omega arith))

fours-back : (b : List ℕ) → length b % 4 ≡ 0 → AreSigned b
    → fours (narrow_one S24In32) (fours (λ a b c d. 0 ∷ a ∷ b ∷ c ∷ []) b) ≡ b
fours-back [] h s = refl
fours-back (a ∷ []) h s = absurd (omega arith)
fours-back (a ∷ b ∷ []) h s = absurd (omega arith)
fours-back (a ∷ b ∷ c ∷ []) h s = absurd (omega arith)
fours-back (a ∷ b ∷ c ∷ d ∷ rest) h s =
    ap₂ (λ x v. a ∷ b ∷ c ∷ x ∷ v) (sym s.0) (fours-back rest (omega arith) s.1)

twos-back : (b : List ℕ) → length b % 2 ≡ 0 → fours (narrow_one S16) (wide_twos b) ≡ b
twos-back [] h = refl
twos-back (a ∷ []) h = absurd (omega arith)
twos-back (a ∷ b ∷ rest) h = ap (λ v. a ∷ b ∷ v) (twos-back rest (omega arith))

pub widened-back : (f : SampleFormat) (b : List ℕ) → length b % sample_len f ≡ 0 → HaveSigns f b
    → narrowed f (widened f b) ≡ b
widened-back S32 b h s = refl
widened-back S24 b h s = threes-back b h
widened-back S24In32 b h s = fours-back b h s
widened-back S16 b h s = twos-back b h

-- ---- one sample of a block

-- the octets at a place of a front
front-at : (n : ℕ) (xs : List ℕ) (i : ℕ) → i < n → get_or (take n xs) i 0 ≡ get_or xs i 0
front-at n xs i h = get_or-take n xs i 0 h

module _ (xs : List ℕ) (size : length xs ≡ 1536) (i : ℕ) (h : i < 384) where
  four-of : drop (4 * i) (take 1536 xs)
      ≡ get_or xs (4 * i) 0 ∷ get_or xs (4 * i + 1) 0 ∷ get_or xs (4 * i + 2) 0 ∷ get_or xs (4 * i + 3) 0
      ∷ drop (4 * (i + 1)) (take 1536 xs)
  four-of =
      let e : take 1536 xs ≡ xs = take_all 1536 xs (omega arith) in
      ap (drop (4 * i)) e ∙ four-at xs (4 * i) (omega arith)
      ∙ ap₂ (λ k v. get_or xs (4 * i) 0 ∷ get_or xs (4 * i + 1) 0 ∷ get_or xs (4 * i + 2) 0 ∷ get_or xs (4 * i + 3) 0
      ∷ drop k v) (let n : 4 * i + 4 ≡ 4 * (i + 1) = omega arith in n) (sym e)

  three-of : drop (3 * i) (take 1152 xs)
      ≡ get_or xs (3 * i) 0 ∷ get_or xs (3 * i + 1) 0 ∷ get_or xs (3 * i + 2) 0 ∷ drop (3 * (i + 1)) (take 1152 xs)
  three-of =
      let l : length (take 1152 xs) ≡ 1152 = length-take-le 1152 xs (omega arith) in
      three-at (take 1152 xs) (3 * i) (omega arith)
      ∙ ap₂ (λ a v. a ∷ v) (front-at 1152 xs (3 * i) (omega arith))
      (ap₂ (λ b v. b ∷ v) (front-at 1152 xs (3 * i + 1) (omega arith))
      (ap₂ (λ c k. c ∷ drop k (take 1152 xs)) (front-at 1152 xs (3 * i + 2) (omega arith))
      (let n : 3 * i + 3 ≡ 3 * (i + 1) = omega arith in n)))

  two-of : drop (2 * i) (take 768 xs)
      ≡ get_or xs (2 * i) 0 ∷ get_or xs (2 * i + 1) 0 ∷ drop (2 * (i + 1)) (take 768 xs)
  two-of =
      let l : length (take 768 xs) ≡ 768 = length-take-le 768 xs (omega arith) in
      two-at (take 768 xs) (2 * i) (omega arith)
      ∙ ap₂ (λ a v. a ∷ v) (front-at 768 xs (2 * i) (omega arith))
      (ap₂ (λ b k. b ∷ drop k (take 768 xs)) (front-at 768 xs (2 * i + 1) (omega arith))
      (let n : 2 * i + 2 ≡ 2 * (i + 1) = omega arith in n))

  abbrev left : SampleFormat → ℕ → List ℕ
  left f n = widened f (drop (sample_len f * n) (take (block_len f) xs))

  pub one-s32 : left S32 i ≡ get_or xs (4 * i) 0 ∷ get_or xs (4 * i + 1) 0 ∷ get_or xs (4 * i + 2) 0
      ∷ get_or xs (4 * i + 3) 0 ∷ left S32 (i + 1)
  unfolding block_len
  one-s32 = four-of

  pub one-s24 : left S24 i ≡ 0 ∷ get_or xs (3 * i) 0 ∷ get_or xs (3 * i + 1) 0 ∷ get_or xs (3 * i + 2) 0
      ∷ left S24 (i + 1)
  unfolding block_len
  one-s24 = ap wide_threes three-of

  pub one-s24in32 : left S24In32 i ≡ 0 ∷ get_or xs (4 * i) 0 ∷ get_or xs (4 * i + 1) 0 ∷ get_or xs (4 * i + 2) 0
      ∷ left S24In32 (i + 1)
  unfolding block_len
  one-s24in32 = ap (fours (λ a b c d. 0 ∷ a ∷ b ∷ c ∷ [])) four-of

  pub one-s16 : left S16 i ≡ 0 ∷ 0 ∷ get_or xs (2 * i) 0 ∷ get_or xs (2 * i + 1) 0 ∷ left S16 (i + 1)
  unfolding block_len
  one-s16 = ap wide_twos two-of

-- the first sample, and what stands behind the last
pub all-left : (f : SampleFormat) (xs : List ℕ) → widened f (drop (sample_len f * 0) xs) ≡ widened f xs
all-left f xs = ap (λ n. widened f (drop n xs)) (let e : sample_len f * 0 ≡ 0 = omega arith in e)

pub none-left : (f : SampleFormat) (xs : List ℕ) → widened f (drop (sample_len f * 384) (take
    (block_len f) xs)) ≡ []
unfolding block_len
none-left f xs =
    let l = length-take (384 * sample_len f) xs in
    ap (widened f) (drop_all (sample_len f * 384) (take (384 * sample_len f) xs) (omega arith)) ∙ widened-none f

-- ---- one sample put into a form, in the place of those before it

module _ (g : ℕ → ℕ → ℕ → ℕ → List ℕ) (xs s ys : List ℕ) (i at len k : ℕ) (same : length s ≡ length xs)
    (inside : 4 * i + 4 ≤ length xs) (front : at ≤ 4 * i) (few : len ≤ 4) (size : k ≡ len) (count : length ys ≡ len)
    (one : ys ≡ g (get_or s (4 * i) 0) (get_or s (4 * i + 1) 0) (get_or s (4 * i + 2) 0) (get_or s (4 * i + 3) 0))
    (rest : drop (4 * i) s ≡ drop (4 * i) xs) where
  same-at : (j : ℕ) → get_or s (4 * i + j) 0 ≡ get_or xs (4 * i + j) 0
  same-at j = sym (get_or-drop (4 * i) s j 0) ∙ ap (λ v. get_or v j 0) rest ∙ get_or-drop (4 * i) xs j 0

  same-first : get_or s (4 * i) 0 ≡ get_or xs (4 * i) 0
  same-first = let e : 4 * i ≡ 4 * i + 0 = omega arith in
      ap (λ n. get_or s n 0) e ∙ same-at 0 ∙ ap (λ n. get_or xs n 0) (sym e)

  one-of : ys ≡ g (get_or xs (4 * i) 0) (get_or xs (4 * i + 1) 0) (get_or xs (4 * i + 2) 0) (get_or xs (4 * i + 3) 0)
  one-of = one
      ∙ ap₂ (λ a b. g a b (get_or s (4 * i + 2) 0) (get_or s (4 * i + 3) 0)) same-first (same-at 1)
      ∙ ap₂ (λ c d. g (get_or xs (4 * i) 0) (get_or xs (4 * i + 1) 0) c d) (same-at 2) (same-at 3)

  next : 4 * i + 4 ≡ 4 * (i + 1)
  next = omega arith

  pub put-done : take at s ++ fours g (drop (4 * i) xs) ≡ fours g xs
      → take (at + len) (put_mid at k s ys) ++ fours g (drop (4 * (i + 1)) xs) ≡ fours g xs
  put-done done =
      ap (λ v. v ++ fours g (drop (4 * (i + 1)) xs)) (take-put_mid at k s ys (at + len) (omega arith) (omega arith))
      ∙ append_assoc (take at s) ys (fours g (drop (4 * (i + 1)) xs))
      ∙ ap (λ v. take at s ++ v)
      (ap₂ (λ y n. y ++ fours g (drop n xs)) one-of (sym next)
      ∙ sym (ap (fours g) (four-at xs (4 * i) inside)))
      ∙ done

  pub put-rest : drop (4 * (i + 1)) (put_mid at k s ys) ≡ drop (4 * (i + 1)) xs
  put-rest =
      drop-put_mid at k s ys (4 * (i + 1)) (omega arith) (omega arith) (omega arith)
      ∙ ap (λ n. drop n s) (sym next) ∙ sym (drop-drop 4 (4 * i) s) ∙ ap (drop 4) rest ∙ drop-drop 4 (4 * i) xs
      ∙ ap (λ n. drop n xs) next

-- each form by itself
pub narrowed-s32 : (f : SampleFormat) (b : List ℕ) → f ≡ S32 → b ≡ narrowed f b
narrowed-s32 f b e = rw e refl

pub narrowed-s24 : (f : SampleFormat) (b : List ℕ) → f ≡ S24 → fours (narrow_one f) b ≡ narrowed f b
narrowed-s24 f b e = rw e refl

pub narrowed-s24in32 : (f : SampleFormat) (b : List ℕ) → f ≡ S24In32 → fours (narrow_one f) b ≡ narrowed f b
narrowed-s24in32 f b e = rw e refl

pub narrowed-s16 : (f : SampleFormat) (b : List ℕ) → f ≡ S16 → fours (narrow_one f) b ≡ narrowed f b
narrowed-s16 f b e = rw e refl

-- ---- samples that lose nothing

zeros-of : (b : ℕ) (rest : List ℕ) → (b == 0) && seconds_are_zero rest ≡ true
    → (b ≡ 0) × (seconds_are_zero rest ≡ true)
zeros-of b rest h = (search rules, search rules)

back-24 : (b : List ℕ) → length b % 4 ≡ 0 → HaveLowZeros b → wide_threes (fours (narrow_one S24) b) ≡ b
back-24 [] h z = refl
back-24 (a ∷ []) h z = absurd (omega arith)
back-24 (a ∷ b ∷ []) h z = absurd (omega arith)
back-24 (a ∷ b ∷ c ∷ []) h z = absurd (omega arith)
back-24 (a ∷ b ∷ c ∷ d ∷ rest) h z =
    ap₂ (λ (u : ℕ) (v : List ℕ). u ∷ b ∷ c ∷ d ∷ v) (sym z.0) (back-24 rest (omega arith) z.1)

back-24in32 : (b : List ℕ) → length b % 4 ≡ 0 → HaveLowZeros b
    → fours (λ a b c d. 0 ∷ a ∷ b ∷ c ∷ []) (fours (narrow_one S24In32) b) ≡ b
back-24in32 [] h z = refl
back-24in32 (a ∷ []) h z = absurd (omega arith)
back-24in32 (a ∷ b ∷ []) h z = absurd (omega arith)
back-24in32 (a ∷ b ∷ c ∷ []) h z = absurd (omega arith)
back-24in32 (a ∷ b ∷ c ∷ d ∷ rest) h z =
    ap₂ (λ (u : ℕ) (v : List ℕ). u ∷ b ∷ c ∷ d ∷ v) (sym z.0) (back-24in32 rest (omega arith) z.1)

back-16 : (b : List ℕ) → length b % 4 ≡ 0 → HaveLowZeros b → seconds_are_zero b ≡ true
    → wide_twos (fours (narrow_one S16) b) ≡ b
back-16 [] h z f = refl
back-16 (a ∷ []) h z f = absurd (omega arith)
back-16 (a ∷ b ∷ []) h z f = absurd (omega arith)
back-16 (a ∷ b ∷ c ∷ []) h z f = absurd (omega arith)
back-16 (a ∷ b ∷ c ∷ d ∷ rest) h z f =
    let s = zeros-of b rest f in
    ap₂ (λ (u : ℕ) (v : List ℕ). u ∷ 0 ∷ c ∷ d ∷ v) (sym z.0) (back-16 rest (omega arith) z.1 s.1)
    ∙ ap (λ u. a ∷ u ∷ c ∷ d ∷ rest) (sym s.0)

pub fitting-back : (f : SampleFormat) (b : List ℕ) → length b % 4 ≡ 0 → HaveLowZeros b → fits f b ≡ true
    → widened f (narrowed f b) ≡ b
fitting-back S32 b h z f = refl
fitting-back S24 b h z f = back-24 b h z
fitting-back S24In32 b h z f = back-24in32 b h z
fitting-back S16 b h z f = back-16 b h z f

-- one more sample whose second octet is zero, and one whose is not
pub zeros-next : (xs : List ℕ) (i : ℕ) → i < length xs / 4 → get_or xs (4 * i + 1) 0 ≡ 0
    → seconds_are_zero (drop (4 * i) xs) ≡ seconds_are_zero (drop (4 * (i + 1)) xs)
zeros-next xs i h z =
    ap seconds_are_zero (four-at xs (4 * i) (omega arith))
    ∙ ap (λ n. (n == 0) && seconds_are_zero (drop (4 * i + 4) xs)) z
    ∙ ap (λ n. seconds_are_zero (drop n xs)) (let e : 4 * i + 4 ≡ 4 * (i + 1) = omega arith in e)

pub zeros-not : (xs : List ℕ) (i : ℕ) → i < length xs / 4 → get_or xs (4 * i + 1) 0 ≢ 0
    → seconds_are_zero (drop (4 * i) xs) ≡ false
zeros-not xs i h z =
    ap seconds_are_zero (four-at xs (4 * i) (omega arith)) ∙ not-zero (get_or xs (4 * i + 1) 0) z
  where
    not-zero : (n : ℕ) → n ≢ 0 → (n == 0) && seconds_are_zero (drop (4 * i + 4) xs) ≡ false
    not-zero n z = search rules

pub zeros-short : (xs : List ℕ) → length xs < 4 → seconds_are_zero xs ≡ true
zeros-short [] h = refl
zeros-short (a ∷ []) h = refl
zeros-short (a ∷ b ∷ []) h = refl
zeros-short (a ∷ b ∷ c ∷ []) h = refl
zeros-short (a ∷ b ∷ c ∷ d ∷ xs) h = absurd (omega arith)
