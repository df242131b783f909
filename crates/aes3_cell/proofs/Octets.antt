-- One octet and its eight cells.
use Rattle.std.proofs.Common.{◌≡◌, ℕ, zero, suc, ◌+◌, ◌-◌, ◌*◌, ◌/◌, ◌%◌, ◌^◌, ◌<◌, List, [], ◌∷◌, ◌++◌, length, take}
use Rattle.std.proofs.Common.{get_or, replicate, reverse, refl, sym, ap, ap₂, ◌∙◌, arith, add-one}
use Rattle.std.specs.Int.{bit_at}
use Rattle.std.proofs.lemmas.List.{length-reverse, reverse-append, replicate_more, get_or-reverse}
use Rattle.std.proofs.lemmas.Nat.{mod-pow-add}
use Rattle.std.proofs.Math.Nat.{pow-succ'}
use Rattle.aes3_level.specs.declared.level.Level.{Level}
use Rattle.aes3_level.specs.declared.level.Level.TheVariants.{Low, High}
use Rattle.aes3_level.specs.Words.{level_of, bit_of, low_cells}
use Rattle.aes3_cell.specs.Packed.{octet_cells, weight, octet_of}
use Rattle.aes3_level.proofs.WordCells.{length-low_cells, low_cells-add, low_cells-at}

pub bit_of-lt : (level : Level) → bit_of level < 2
bit_of-lt Low = omega arith
bit_of-lt High = omega arith

pub level_of-bit_of : (level : Level) → level_of (bit_of level) ≡ level
level_of-bit_of Low = refl
level_of-bit_of High = refl

pub bit_of-level_of : (b : ℕ) → b < 2 → bit_of (level_of b) ≡ b
bit_of-level_of zero h = refl
bit_of-level_of (suc zero) h = refl
bit_of-level_of (suc (suc b)) h = absurd (omega arith)

level_of-Low : (b : ℕ) → b < 2 → level_of b ≡ Low → b ≡ 0
level_of-Low zero h e = refl
level_of-Low (suc zero) h e = absurd cc
level_of-Low (suc (suc b)) h e = absurd (omega arith)

-- lists turned round
pub reverse-cons : {X : Type 0} (x : X) (xs : List X) → reverse (x ∷ xs) ≡ reverse xs ++ x ∷ []
reverse-cons x xs = reverse-append (x ∷ []) xs

pub reverse-more : {X : Type 0} (xs : List X) (x : X) → reverse (xs ++ x ∷ []) ≡ x ∷ reverse xs
reverse-more xs x = reverse-append xs (x ∷ [])

pub reverse-replicate : {X : Type 0} (n : ℕ) (x : X) → reverse (replicate n x) ≡ replicate n x
reverse-replicate zero x = refl
reverse-replicate (suc n) x =
    reverse-cons x (replicate n x) ∙ ap (λ c. c ++ x ∷ []) (reverse-replicate n x) ∙ replicate_more n x
    ∙ ap (λ k. replicate k x) (add-one n)

-- one more of the lowest bits
pub mod-suc : (w n : ℕ) → w % 2 ^ suc n ≡ (w / 2 % 2 ^ n) * 2 + w % 2
mod-suc w n = ap (λ k. w % 2 ^ k) (sym (add-one n)) ∙ mod-pow-add w n 1

-- the lowest n bits are zero exactly where these cells are Low
pub low_cells-Low : (n w : ℕ) → w % 2 ^ n ≡ 0 → low_cells n w ≡ replicate n Low
low_cells-Low zero w h = refl
low_cells-Low (suc n) w h =
    let m = mod-suc w n in
    let lowest : w % 2 ≡ 0 = omega arith in
    let others : w / 2 % 2 ^ n ≡ 0 = omega arith in
    ap₂ (λ b c. level_of b ∷ c) lowest (low_cells-Low n (w / 2) others)

pub low_bits-zero : (n w : ℕ) → low_cells n w ≡ replicate n Low → w % 2 ^ n ≡ 0
low_bits-zero zero w h = omega arith
low_bits-zero (suc n) w h =
    let m = mod-suc w n in
    let level : level_of (w % 2) ≡ Low = cc in
    let lowest : w % 2 ≡ 0 = level_of-Low (w % 2) (omega arith) level in
    let rest : low_cells n (w / 2) ≡ replicate n Low = cc in
    let others : w / 2 % 2 ^ n ≡ 0 = low_bits-zero n (w / 2) rest in
    omega arith

-- the cells of an octet
pub length-octet_cells : (x : ℕ) → length (octet_cells x) ≡ 8
length-octet_cells x = length-reverse (low_cells 8 x) ∙ length-low_cells 8 x

-- cell i of an octet is its bit 7 - i
pub octet_cells-at : (x i : ℕ) → i < 8 → get_or (octet_cells x) i Low ≡ level_of (bit_at x (7 - i))
octet_cells-at x i h =
    get_or-reverse (low_cells 8 x) i Low (omega (arith, length-low_cells 8 x))
    ∙ ap (λ n. get_or (low_cells 8 x) (n - 1 - i) Low) (length-low_cells 8 x)
    ∙ low_cells-at 8 x (7 - i) (omega arith)

pub octet_cells-unused : (x n : ℕ) → n < 8 → x % 2 ^ n ≡ 0
    → octet_cells x ≡ reverse (low_cells (8 - n) (x / 2 ^ n)) ++ replicate n Low
octet_cells-unused x n h e =
    ap (λ k. reverse (low_cells k x)) (let q : 8 ≡ n + (8 - n) = omega arith in q)
    ∙ ap reverse (low_cells-add n (8 - n) x)
    ∙ reverse-append (low_cells n x) (low_cells (8 - n) (x / 2 ^ n))
    ∙ ap (λ c. reverse (low_cells (8 - n) (x / 2 ^ n)) ++ c)
    (ap reverse (low_cells-Low n x e) ∙ reverse-replicate n Low)

-- weights
weight-none : (c : List Level) → weight 0 c ≡ 0
weight-none [] = refl
weight-none (level ∷ c) = let r = weight-none c in omega arith

weight-replicate : (n w : ℕ) → weight w (replicate n Low) ≡ 0
weight-replicate zero w = refl
weight-replicate (suc n) w = let r = weight-replicate n (w / 2) in omega arith

pub weight-fill : (w : ℕ) (c : List Level) (n : ℕ) → weight w (c ++ replicate n Low) ≡ weight w c
weight-fill w [] n = weight-replicate n w
weight-fill w (level ∷ c) n = ap (λ k. w * bit_of level + k) (weight-fill (w / 2) c n)

pub weight-take : (n w : ℕ) (c : List Level) → w < 2 ^ n → weight w (take n c) ≡ weight w c
weight-take zero w c h = sym (ap (λ k. weight k c) (let e : w ≡ 0 = omega arith in e) ∙ weight-none c)
weight-take (suc n) w [] h = refl
weight-take (suc n) w (level ∷ c) h =
    let p = pow-succ' 2 n in
    ap (λ k. w * bit_of level + k) (weight-take n (w / 2) c (omega arith))

-- an octet and its cells, there and back
pub octet_of-octet_cells : (x : ℕ) → x < 256 → octet_of (octet_cells x) ≡ x
octet_of-octet_cells x h =
    let a = bit_of-level_of (x % 2) (omega arith) in
    let b = bit_of-level_of (x / 2 % 2) (omega arith) in
    let c = bit_of-level_of (x / 2 / 2 % 2) (omega arith) in
    let d = bit_of-level_of (x / 2 / 2 / 2 % 2) (omega arith) in
    let e = bit_of-level_of (x / 2 / 2 / 2 / 2 % 2) (omega arith) in
    let f = bit_of-level_of (x / 2 / 2 / 2 / 2 / 2 % 2) (omega arith) in
    let g = bit_of-level_of (x / 2 / 2 / 2 / 2 / 2 / 2 % 2) (omega arith) in
    let i = bit_of-level_of (x / 2 / 2 / 2 / 2 / 2 / 2 / 2 % 2) (omega arith) in
    omega arith

-- the lowest cell of a number, and the others
pub lowest-cell : (n y r b : ℕ) → b < 2 → y ≡ 2 * r + b → low_cells (suc n) y ≡ level_of b ∷ low_cells n r
lowest-cell n y r b h e =
    let lowest : y % 2 ≡ b = omega arith in
    let others : y / 2 ≡ r = omega arith in
    ap₂ (λ u v. level_of u ∷ low_cells n v) lowest others

pub octet_cells-octet_of : (c : List Level) → length c ≡ 8 → octet_cells (octet_of c) ≡ c
octet_cells-octet_of (a ∷ b ∷ c ∷ d ∷ e ∷ f ∷ g ∷ i ∷ []) h =
    ap reverse (bits (bit_of a) (bit_of b) (bit_of c) (bit_of d) (bit_of e) (bit_of f) (bit_of g) (bit_of i)
    (bit_of-lt a) (bit_of-lt b) (bit_of-lt c) (bit_of-lt d) (bit_of-lt e) (bit_of-lt f) (bit_of-lt g) (bit_of-lt i))
    ∙ levels
  where
    bits : (a b c d e f g i : ℕ) → a < 2 → b < 2 → c < 2 → d < 2 → e < 2 → f < 2 → g < 2 → i < 2
        → low_cells 8 (128 * a + (64 * b + (32 * c + (16 * d + (8 * e + (4 * f + (2 * g + (1 * i + 0))))))))
        ≡ level_of i ∷ level_of g ∷ level_of f ∷ level_of e ∷ level_of d ∷ level_of c ∷ level_of b ∷ level_of a ∷ []
    bits a b c d e f g i ha hb hc hd he hf hg hi =
        lowest-cell 7 _ (64 * a + 32 * b + 16 * c + 8 * d + 4 * e + 2 * f + g) i hi (omega arith)
        ∙ ap (λ t. level_of i ∷ t) (lowest-cell 6 _ (32 * a + 16 * b + 8 * c + 4 * d + 2 * e + f) g hg (omega arith)
        ∙ ap (λ t. level_of g ∷ t) (lowest-cell 5 _ (16 * a + 8 * b + 4 * c + 2 * d + e) f hf (omega arith)
        ∙ ap (λ t. level_of f ∷ t) (lowest-cell 4 _ (8 * a + 4 * b + 2 * c + d) e he (omega arith)
        ∙ ap (λ t. level_of e ∷ t) (lowest-cell 3 _ (4 * a + 2 * b + c) d hd (omega arith)
        ∙ ap (λ t. level_of d ∷ t) (lowest-cell 2 _ (2 * a + b) c hc (omega arith)
        ∙ ap (λ t. level_of c ∷ t) (lowest-cell 1 _ a b hb (omega arith)
        ∙ ap (λ t. level_of b ∷ t) (lowest-cell 0 _ 0 a ha (omega arith))))))))

    levels : level_of (bit_of a) ∷ level_of (bit_of b) ∷ level_of (bit_of c) ∷ level_of (bit_of d) ∷ level_of (bit_of e)
        ∷ level_of (bit_of f) ∷ level_of (bit_of g) ∷ level_of (bit_of i) ∷ []
        ≡ a ∷ b ∷ c ∷ d ∷ e ∷ f ∷ g ∷ i ∷ []
    levels = simp level_of-bit_of
octet_cells-octet_of _ h = absurd (omega arith)
