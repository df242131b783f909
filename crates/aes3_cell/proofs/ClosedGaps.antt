-- Gaps among cells, closed one by one from the lowest on.
use Rattle.std.proofs.Common.{◌≡◌, ℕ, zero, suc, ◌+◌, ◌-◌, ◌*◌, ◌/◌, ◌%◌, ◌^◌, ◌<◌, ◌≤◌, List, [], ◌∷◌, ◌++◌}
use Rattle.std.proofs.Common.{min, refl, sym, ap, ap₂, subst, ◌∙◌, arith, lit<, w64}
use Rattle.std.specs.Prelude.{bit_and, bit_xor}
use Rattle.std.specs.Int.Bits.{and_self, and_zero_l, and_zero_r, xor_self}
use Rattle.std.proofs.lemmas.Nat.{and_block, xor_block, and_le_r, and_le_l}
use Rattle.std.proofs.lemmas.Nat.Bits.{bit_at_and, bit_at_not, bit_at-lt, bit_at-zero, same_from_bits_below}
use Rattle.std.proofs.Math.Nat.{pow-succ'}
use Rattle.std.proofs.Math.Pow.{pow_mono}
use Rattle.aes3_level.specs.declared.level.Level.{Level}
use Rattle.aes3_level.specs.Words.{level_of, low_cells}
use Rattle.aes3_cell.specs.Scattered.{cell_if, kept_cells}

-- of the lowest n bits of w those at the zeros of g, as cells
pub left_cells : ℕ → ℕ → ℕ → List Level
left_cells zero g w = []
left_cells (suc n) g w = cell_if (1 - g % 2) (w % 2) ++ left_cells n (g / 2) (w / 2)

-- the same by the ones of what is kept
left-kept : (n k w : ℕ) → k < 2 ^ n → left_cells n (2 ^ n - 1 - k) w ≡ kept_cells n k w
unfolding kept_cells left_cells
left-kept zero k w h = refl
left-kept (suc n) k w h =
    let p = pow-succ' 2 n in
    let a : 1 - (2 ^ suc n - 1 - k) % 2 ≡ k % 2 = omega arith in
    let b : (2 ^ suc n - 1 - k) / 2 ≡ 2 ^ n - 1 - k / 2 = omega arith in
    ap₂ ◌++◌ (ap (λ v. cell_if v (w % 2)) a)
    (ap (λ v. left_cells n v (w / 2)) b ∙ left-kept n (k / 2) (w / 2) (omega arith))

-- without gaps all are left
left-all : (n w : ℕ) → left_cells n 0 w ≡ low_cells n w
unfolding left_cells
left-all zero w = refl
left-all (suc n) w = ap (λ c. level_of (w % 2) ∷ c) (left-all n (w / 2))

-- by the lowest bits and the others
and-halves : (a b : ℕ) → bit_and a b ≡ 2 * bit_and (a / 2) (b / 2) + bit_and (a % 2) (b % 2)
and-halves a b =
    let e : a ≡ a / 2 * 2 ^ 1 + a % 2 = omega arith in
    let f : b ≡ b / 2 * 2 ^ 1 + b % 2 = omega arith in
    ap₂ bit_and e f ∙ and_block 1 (a / 2) (b / 2) (a % 2) (b % 2) (omega arith) (omega arith) ∙ omega arith

xor-halves : (a b : ℕ) → bit_xor a b ≡ 2 * bit_xor (a / 2) (b / 2) + bit_xor (a % 2) (b % 2)
xor-halves a b =
    let e : a ≡ a / 2 * 2 ^ 1 + a % 2 = omega arith in
    let f : b ≡ b / 2 * 2 ^ 1 + b % 2 = omega arith in
    ap₂ bit_xor e f ∙ xor_block 1 (a / 2) (b / 2) (a % 2) (b % 2) (omega arith) (omega arith) ∙ omega arith

and-one : (r : ℕ) → r < 2 → bit_and r 1 ≡ r
and-one zero h = refl
and-one (suc zero) h = refl
and-one (suc (suc r)) h = absurd (omega arith)

-- levels at other places than those that are kept don't count
cell-same : (r x y : ℕ) → r < 2 → (r ≡ 1 → x ≡ y) → cell_if r x ≡ cell_if r y
cell-same zero x y g h = refl
cell-same (suc zero) x y g h = ap (cell_if 1) (h refl)
cell-same (suc (suc r)) x y g h = absurd (omega arith)

kept-masked : (n k l : ℕ) → kept_cells n k (bit_and l k) ≡ kept_cells n k l
unfolding kept_cells
kept-masked zero k l = refl
kept-masked (suc n) k l =
    let h = and-halves l k in
    let le = and_le_r (l % 2) (k % 2) in
    let low : bit_and l k % 2 ≡ bit_and (l % 2) (k % 2) = omega arith in
    let high : bit_and l k / 2 ≡ bit_and (l / 2) (k / 2) = omega arith in
    ap₂ ◌++◌ (cell-same (k % 2) (bit_and l k % 2) (l % 2) (omega arith)
    (λ e. low ∙ ap (bit_and (l % 2)) e ∙ and-one (l % 2) (omega arith)))
    (ap (kept_cells n (k / 2)) high ∙ kept-masked n (k / 2) (l / 2))

-- the gaps but for the lowest, and the word with what is below that gap doubled
abbrev pub others : ℕ → ℕ
others g = bit_and g (g - 1)

abbrev pub doubled : ℕ → ℕ → ℕ
doubled g w = w + bit_and w (bit_xor g (g - 1))

-- the lowest gap of suc n places is closed, by the other gaps o and the word d, each doubled
record Closes (n g w o d : ℕ) : Type 0 where
  pub sum : d < 2 ^ suc n
  pub even : d % 2 ≡ 0
  pub rest : o % 2 ≡ 0
  pub bound : o < 2 ^ suc n
  pub apart : bit_and (d / 2) (o / 2) ≡ 0
  pub cells : left_cells n (o / 2) (d / 2) ≡ left_cells (suc n) g w

closes-by : (n g w o d : ℕ) {p q : ℕ} → p ≡ o → q ≡ d → Closes n g w o d → Closes n g w p q
closes-by n g w o d {p} {q} e f c = subst (λ x. Closes n g w x q) (sym e) (subst (Closes n g w o) (sym f) c)

-- where place 0 is the gap
first : (n g w : ℕ) → g % 2 ≡ 1 → g < 2 ^ suc n → w < 2 ^ suc n → bit_and w g ≡ 0
    → Closes n g w (others g) (doubled g w)
unfolding left_cells
first n g w o p q a =
    let r = and-halves w g in
    let s : bit_and (w % 2) (g % 2) ≡ w % 2 = ap (bit_and (w % 2)) o ∙ and-one (w % 2) (omega arith) in
    let z : w % 2 ≡ 0 = omega arith in
    let e : (g - 1) / 2 ≡ g / 2 = omega arith in
    let f : (g - 1) % 2 ≡ 0 = omega arith in
    let i : others g ≡ g - 1 =
    and-halves g (g - 1)
    ∙ ap₂ (λ x y. 2 * x + y) (ap (bit_and (g / 2)) e ∙ and_self (g / 2)) (ap (bit_and (g % 2)) f ∙ and_zero_r (g % 2))
    ∙ omega arith in
    let x : bit_xor g (g - 1) ≡ 1 =
    xor-halves g (g - 1)
    ∙ ap₂ (λ x y. 2 * x + y) (ap (bit_xor (g / 2)) e ∙ xor_self (g / 2)) (ap₂ bit_xor o f) in
    let j : doubled g w ≡ w =
    ap (λ m. w + bit_and w m) x
    ∙ ap (λ m. w + m) (and-halves w 1 ∙ ap₂ (λ x y. 2 * x + y) (and_zero_r (w / 2)) (and-one (w % 2) (omega arith)))
    ∙ omega arith in
    closes-by n g w (g - 1) w i j (record {
      sum = q;
      even = z;
      rest = f;
      bound = omega arith;
      apart = ap (bit_and (w / 2)) e ∙ omega arith;
      cells = ap (λ v. left_cells n v (w / 2)) e
          ∙ ap (λ v. cell_if v (w % 2) ++ left_cells n (g / 2) (w / 2))
          (let k : 0 ≡ 1 - g % 2 = omega arith in k);
    })

-- where it is behind
later : (n g w : ℕ) → g % 2 ≡ 0 → 0 < g → g < 2 ^ suc (suc n) → w < 2 ^ suc (suc n)
    → Closes n (g / 2) (w / 2) (others (g / 2)) (doubled (g / 2) (w / 2))
    → Closes (suc n) g w (others g) (doubled g w)
unfolding left_cells
later n g w o z p q c =
    let h = g / 2 in
    let v = w / 2 in
    let e : (g - 1) / 2 ≡ h - 1 = omega arith in
    let f : (g - 1) % 2 ≡ 1 = omega arith in
    let i : others g ≡ 2 * others h =
    and-halves g (g - 1)
    ∙ ap₂ (λ x y. 2 * x + y) (ap (bit_and h) e)
    (ap (λ r. bit_and r ((g - 1) % 2)) o ∙ and_zero_l ((g - 1) % 2))
    ∙ omega arith in
    let m = bit_xor h (h - 1) in
    let x : bit_xor g (g - 1) ≡ 2 * m + 1 =
    xor-halves g (g - 1) ∙ ap₂ (λ x y. 2 * x + y) (ap (bit_xor h) e) (ap₂ bit_xor o f) in
    let s : (2 * m + 1) / 2 ≡ m = omega arith in
    let t : (2 * m + 1) % 2 ≡ 1 = omega arith in
    let d = doubled h v in
    let j : doubled g w ≡ 2 * d + 2 * (w % 2) =
    ap (λ m. w + bit_and w m) x
    ∙ ap (λ y. w + y)
    (and-halves w (2 * m + 1)
    ∙ ap₂ (λ x y. 2 * x + y) (ap (bit_and v) s) (ap (bit_and (w % 2)) t ∙ and-one (w % 2) (omega arith)))
    ∙ omega arith in
    let a = c.sum in
    let b = c.even in
    let k = c.rest in
    let l = c.bound in
    let y = pow-succ' 2 (suc n) in
    let u = pow-succ' 2 n in
    let r : 2 * others h / 2 ≡ others h = omega arith in
    let half : (2 * d + 2 * (w % 2)) / 2 ≡ d + w % 2 = omega arith in
    let quarter : (d + w % 2) / 2 ≡ d / 2 = omega arith in
    let lowest : (d + w % 2) % 2 ≡ w % 2 = omega arith in
    closes-by (suc n) g w (2 * others h) (2 * d + 2 * (w % 2)) i j (record {
      sum = omega arith;
      even = omega arith;
      rest = omega arith;
      bound = omega arith;
      apart = ap₂ bit_and half r ∙ and-halves (d + w % 2) (others h)
          ∙ ap₂ (λ x y. 2 * x + y) (ap (λ x. bit_and x (others h / 2)) quarter ∙ c.apart)
          (ap (bit_and ((d + w % 2) % 2)) k ∙ and_zero_r ((d + w % 2) % 2));
      cells = ap₂ (left_cells (suc n)) r half
          ∙ ap₂ ◌++◌ (ap₂ cell_if (let k : 1 - others h % 2 ≡ 1 - g % 2 = omega arith in k) lowest)
          (ap (left_cells n (others h / 2)) quarter ∙ c.cells);
    })

closes : (n g w : ℕ) → 0 < g → g < 2 ^ suc n → w < 2 ^ suc n → bit_and w g ≡ 0
    → Closes n g w (others g) (doubled g w)
closes zero g w z p q a = first zero g w (omega arith) p q a
closes (suc n) g w z p q a =
    let h = and-halves w g in
    let y = pow-succ' 2 (suc n) in
    go (g % 2) refl (λ e. closes n (g / 2) (w / 2) (omega arith) (omega arith) (omega arith) (omega arith))
  where
    go : (r : ℕ) → g % 2 ≡ r
        → (g % 2 ≡ 0 → Closes n (g / 2) (w / 2) (others (g / 2)) (doubled (g / 2) (w / 2)))
        → Closes (suc n) g w (others g) (doubled g w)
    go zero e c = later n g w e z p q (c e)
    go (suc r) e c = first (suc n) g w (omega arith) p q a

-- what is left when some gaps are closed: of `len` places those at the zeros of `gaps` are the cells that are kept
pub record Closing (kept levels gaps word len : ℕ) : Type 0 where
  pub few : len ≤ 64
  pub gaps_bound : gaps < 2 ^ len
  pub word_bound : word < 2 ^ len
  pub apart : bit_and word gaps ≡ 0
  pub cells : left_cells len gaps word ≡ kept_cells 64 kept levels

pub closing-none : (k l : ℕ) → k < 2 ^ 64 → l < 2 ^ 64 → Closing k l (2 ^ 64 - 1 - k) (bit_and l k) 64
closing-none k l h g =
    let le = and_le_l l k in
    let below = and_le_r (bit_and l k) (2 ^ 64 - 1 - k) in
    record {
      few = omega arith;
      gaps_bound = omega arith;
      word_bound = omega arith;
      apart = same_from_bits_below 64 (bit_and (bit_and l k) (2 ^ 64 - 1 - k)) 0 (omega arith) (lit< tt)
          (λ i s.
          let a = bit_at_and (bit_and l k) (2 ^ 64 - 1 - k) i in
          let b = bit_at_and l k i in
          let c = bit_at_not w64 k i h s in
          let d = bit_at-lt k i in
          a ∙ ap₂ min b c ∙ omega arith ∙ sym (bit_at-zero i));
      cells = left-kept 64 k (bit_and l k) h ∙ kept-masked 64 k l;
    }

-- one gap more
module _ (k l g w n : ℕ) (z : 0 < g) (c : Closing k l g w n) where
  pub closing-some : 0 < n
  closing-some = go n c.gaps_bound
    where
      go : (n : ℕ) → g < 2 ^ n → 0 < n
      go zero h = absurd (omega arith)
      go (suc n) h = omega arith

  step : Closes (n - 1) g w (others g) (doubled g w)
  step =
      let s = closing-some in
      let e : n ≡ suc (n - 1) = omega arith in
      closes (n - 1) g w z (subst (λ m. g < 2 ^ m) e c.gaps_bound) (subst (λ m. w < 2 ^ m) e c.word_bound) c.apart

  pub closing-fits : doubled g w < 2 ^ 64
  closing-fits =
      let s = step.sum in
      let f = c.few in
      let h = closing-some in
      let m = pow_mono {i = suc (n - 1)} {j = 64} (omega arith) in
      omega arith

  pub closing-more : Closing k l (others g / 2) (doubled g w / 2) (n - 1)
  closing-more =
      let s = step in
      let f = c.few in
      let h = closing-some in
      let p = pow-succ' 2 (n - 1) in
      let a = s.sum in
      let b = s.bound in
      let e : suc (n - 1) ≡ n = omega arith in
      record {
        few = omega arith;
        gaps_bound = omega arith;
        word_bound = omega arith;
        apart = s.apart;
        cells = s.cells ∙ ap (λ m. left_cells m g w) e ∙ c.cells;
      }

pub closing-all : (k l g w n : ℕ) → g ≡ 0 → Closing k l g w n → low_cells n w ≡ kept_cells 64 k l
closing-all k l g w n e c = sym (left-all n w) ∙ ap (λ v. left_cells n v w) (sym e) ∙ c.cells
