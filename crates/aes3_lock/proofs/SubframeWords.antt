-- The cells of a subframe in a word, parted and joined by shifts.
use Rattle.std.proofs.Common.{◌≡◌, ℕ, ◌+◌, ◌-◌, ◌*◌, ◌/◌, ◌%◌, ◌^◌, ◌<◌, ◌≤◌, ◌⊎◌, inl, inr, max, min, ◌++◌, take, drop}
use Rattle.std.proofs.Common.{drop-drop, drop_at, ap, ap₂, ◌∙◌, sym, arith}
use Rattle.std.specs.Prelude.{bit_and, bit_or}
use Rattle.std.specs.Int.{bit_at}
use Rattle.std.proofs.Math.Pow.{shr_lt}
use Rattle.std.proofs.lemmas.Nat.{one_shl, shr-shr, or_shifted}
use Rattle.std.proofs.lemmas.Bool.{cases_lt}
use Rattle.std.proofs.lemmas.Nat.Bits.{bit_at_and, bit_at_or, bit_at-lt, bit_at-zero, bit_at_above, bit_at_ones}
use Rattle.std.proofs.lemmas.Nat.Bits.{bit_at_cat_low, bit_at_cat_high}
use Rattle.aes3_level.specs.Words.{low_cells, word_cells, word_len}
use Rattle.aes3_level.proofs.WordCells.{length-low_cells, low_cells-add, low_cells-same, take-low_cells}
use Rattle.aes3_level.proofs.WordCells.{drop-low_cells}
use Rattle.aes3_level.proofs.Moves.{bit_at-shr, shl-above, shl-below}

pub cells-completed : (n cells word : ℕ) → n < 64 → cells < 2 ^ n
    → low_cells 64 (bit_or cells (word * 2 ^ n % 2 ^ 64)) ≡ low_cells n cells ++ take (64 - n) (low_cells 64 word)
cells-completed n cells word h b =
    let x = bit_or cells (word * 2 ^ n % 2 ^ 64) in
    let e : 64 ≡ n + (64 - n) = omega (arith, h) in
    let f : 64 ≡ (64 - n) + n = omega (arith, h) in
    ap (λ m. low_cells m x) e ∙ low_cells-add n (64 - n) x
    ∙ ap₂ (λ c d. c ++ d)
    (low_cells-same n x cells (λ i g.
    let z = shl-below word n i (omega (arith, g, h)) g in
    bit_at_or cells (word * 2 ^ n % 2 ^ 64) i ∙ (omega (arith, z))))
    (low_cells-same (64 - n) (x / 2 ^ n) word (λ i g.
    let z = shl-above word n (n + i) (omega (arith, g, h)) (omega arith) in
    let a = bit_at_above cells n (n + i) b (omega arith) in
    let q : n + i - n ≡ i = omega arith in
    let y : max 0 (bit_at word i) ≡ bit_at word i = omega arith in
    bit_at-shr x n i ∙ bit_at_or cells (word * 2 ^ n % 2 ^ 64) (n + i) ∙ ap₂ max a (z ∙ ap (bit_at word) q) ∙ y)
    ∙ sym (ap (λ m. take (64 - n) (low_cells m word)) f ∙ take-low_cells (64 - n) n word))

shifted-twice : (n word : ℕ) → n < 64 → word / 2 ^ 1 / 2 ^ (63 - n) ≡ word / 2 ^ (64 - n)
shifted-twice n word h = shr-shr word 1 (63 - n)
    ∙ ap (λ k. word / 2 ^ k) (let e : 1 + (63 - n) ≡ 64 - n = omega (arith, h) in e)

pub cells-rest : (n word : ℕ) → n < 64 → low_cells n (word / 2 ^ 1 / 2 ^ (63 - n)) ≡ drop (64 - n) (low_cells 64 word)
cells-rest n word h =
    let f : 64 ≡ (64 - n) + n = omega (arith, h) in
    ap (low_cells n) (shifted-twice n word h)
    ∙ sym (ap (λ m. drop (64 - n) (low_cells m word)) f ∙ drop-low_cells (64 - n) n word)

pub rest-few : (n word : ℕ) → n < 64 → word < 2 ^ 64 → word / 2 ^ 1 / 2 ^ (63 - n) < 2 ^ n
rest-few n word h b =
    let e : 64 ≡ n + (64 - n) = omega (arith, h) in
    let s = shifted-twice n word h in
    let q = ap (λ k. 2 ^ k) e in
    let r = shr_lt {n = word} n (64 - n) (omega (arith, b, q)) in
    omega (arith, s, r)

-- the first cells of a word
pub take-low : (m n w : ℕ) → m ≤ n → take m (low_cells n w) ≡ low_cells m w
take-low m n w h = ap (λ k. take m (low_cells k w)) (let e : n ≡ m + (n - m) = omega (arith, h) in e)
    ∙ take-low_cells m (n - m) w

pub take-word : (n w : ℕ) → n ≤ 64 → take n (word_cells w) ≡ low_cells n w
unfolding word_cells word_len
take-word n w h = take-low n 64 w h

pub cells-first : (n w : ℕ) → n < 64 → low_cells n (bit_and w (1 * 2 ^ n % 2 ^ 64 - 1)) ≡ low_cells n w
cells-first n w h =
    low_cells-same n (bit_and w (1 * 2 ^ n % 2 ^ 64 - 1)) w
    (λ i g. let b = bit_at-lt w i in ap (λ m. bit_at (bit_and w (m - 1)) i) (one_shl n 64 h)
    ∙ bit_at_and w (2 ^ n - 1) i ∙ ap (min (bit_at w i)) (bit_at_ones n i g) ∙ omega (arith, b))

-- the lowest eight bits alone
low-octet : (x : ℕ) → low_cells 8 (bit_and x 255) ≡ low_cells 8 x
low-octet x =
    low_cells-same 8 (bit_and x 255) x
    (λ i g. let b = bit_at-lt x i in bit_at_and x 255 i ∙ ap (min (bit_at x i)) (bit_at_ones 8 i g) ∙ omega (arith, b))

-- eight bits behind n others of `word << 8 | recent`
behind : (n r w : ℕ) → r < 2 ^ 8 → low_cells 8 (bit_or (w * 2 ^ 8) r / 2 ^ n) ≡ drop n (low_cells 8 r ++ low_cells n w)
behind n r w h =
    ap (λ y. low_cells 8 (y / 2 ^ n)) (or_shifted w 8 r h)
    ∙ sym (drop-low_cells n 8 (w * 2 ^ 8 + r))
    ∙ ap (λ k. drop n (low_cells k (w * 2 ^ 8 + r))) (let e : n + 8 ≡ 8 + n = omega arith in e)
    ∙ ap (drop n) (low_cells-add 8 n (w * 2 ^ 8 + r)
    ∙ ap₂ (λ c v. c ++ low_cells n v) (low_cells-same 8 (w * 2 ^ 8 + r) r (λ i g. bit_at_cat_low w 8 r i g))
    (let e : (w * 2 ^ 8 + r) / 2 ^ 8 ≡ w = omega (arith, h) in e))

-- `(word << 8 | recent) >> n & 0xFF`
pub octet-behind : (n r w : ℕ) → r < 2 ^ 8 → n ≤ 56
    → low_cells 8 (bit_and (bit_or (w * 2 ^ 8 % 2 ^ 64) r / 2 ^ n) 255) ≡ drop n (low_cells 8 r ++ low_cells n w)
octet-behind n r w h m =
    low-octet (bit_or (w * 2 ^ 8 % 2 ^ 64) r / 2 ^ n)
    ∙ low_cells-same 8 (bit_or (w * 2 ^ 8 % 2 ^ 64) r / 2 ^ n) (bit_or (w * 2 ^ 8) r / 2 ^ n) (λ i g.
    bit_at-shr (bit_or (w * 2 ^ 8 % 2 ^ 64) r) n i ∙ bit_at_or (w * 2 ^ 8 % 2 ^ 64) r (n + i)
    ∙ ap (λ v. max v (bit_at r (n + i))) (kept (n + i) (omega (arith, g, m)) (cases_lt (n + i) 8))
    ∙ sym (bit_at-shr (bit_or (w * 2 ^ 8) r) n i ∙ bit_at_or (w * 2 ^ 8) r (n + i)))
    ∙ behind n r w h
  where
    no-more : w * 2 ^ 8 ≡ w * 2 ^ 8 + 0
    no-more = omega arith

    kept : (j : ℕ) → j < 64 → (j < 8) ⊎ (8 ≤ j) → bit_at (w * 2 ^ 8 % 2 ^ 64) j ≡ bit_at (w * 2 ^ 8) j
    kept j g (inl l) = shl-below w 8 j g l
        ∙ sym (ap (λ v. bit_at v j) no-more ∙ bit_at_cat_low w 8 0 j l ∙ bit_at-zero j)
    kept j g (inr l) = shl-above w 8 j g l
        ∙ sym (ap (λ v. bit_at v j) no-more ∙ bit_at_cat_high w 8 0 j (omega arith) l)

-- `word >> n - 8 & 0xFF`
pub octet-inside : (n r w : ℕ) → 8 ≤ n
    → low_cells 8 (bit_and (w / 2 ^ (n - 8)) 255) ≡ drop n (low_cells 8 r ++ low_cells n w)
octet-inside n r w h =
    low-octet (w / 2 ^ (n - 8)) ∙ sym (drop-low_cells (n - 8) 8 w)
    ∙ ap (λ k. drop (n - 8) (low_cells k w)) (let e : n - 8 + 8 ≡ n = omega (arith, h) in e)
    ∙ ap (drop (n - 8)) (sym (drop_at (low_cells 8 r) (low_cells n w) 8 (length-low_cells 8 r)))
    ∙ drop-drop (n - 8) 8 (low_cells 8 r ++ low_cells n w)
    ∙ ap (λ k. drop k (low_cells 8 r ++ low_cells n w)) (let e : 8 + (n - 8) ≡ n = omega (arith, h) in e)
