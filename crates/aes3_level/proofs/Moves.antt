-- Bits moved to other places of a word of 64.
use Rattle.std.proofs.Common.{lit<, ◌≡◌, ℕ, zero, suc, ◌+◌, ◌-◌, ◌*◌, ◌/◌, ◌%◌, ◌^◌, ◌<◌, ◌≤◌, ◌⊎◌, inl, inr, min, max}
use Rattle.std.proofs.Common.{List, [], ◌∷◌, ◌++◌, Bool, true, false, cond, ◌&&◌, eqb, ltb, refl, sym, ap, ap₂, ◌∙◌}
use Rattle.std.proofs.Common.{arith}
use Rattle.std.specs.Prelude.{bit_and, bit_or}
use Rattle.std.specs.Int.{bit_at}
use Rattle.std.proofs.lemmas.Bool.{cases_lt, agree_below, agree_below_at, lt-ltb, le-ltb, eqb-true, and_parts}
use Rattle.std.proofs.lemmas.Nat.{and_mask, and_le_l, mod_below, or_lt, pow_pos, shr-shr, shr_le}
use Rattle.std.proofs.lemmas.Nat.Bits.{bit_at_and, bit_at_or, bit_at-lt, bit_at_ones, bit_at_above, bit_at_cat_low}
use Rattle.std.proofs.lemmas.Nat.Bits.{bit_at_cat_high, bit_at-zero}

-- the bits of `x >> k`
pub bit_at-shr : (w k i : ℕ) → bit_at (w / 2 ^ k) i ≡ bit_at w (k + i)
bit_at-shr w k i = ap (λ n. n % 2) (shr-shr w k i)

-- the bits of `x << k`
shl-bit : (x k i : ℕ) → i < 64 → bit_at (x * 2 ^ k % 2 ^ 64) i ≡ bit_at (x * 2 ^ k + 0) i
shl-bit x k i h =
    let l = bit_at-lt (x * 2 ^ k) i in
    let z : x * 2 ^ k ≡ x * 2 ^ k + 0 = omega arith in
    ap (λ n. bit_at n i) (sym (and_mask (x * 2 ^ k) 64)) ∙ bit_at_and (x * 2 ^ k) (2 ^ 64 - 1) i
    ∙ ap (min (bit_at (x * 2 ^ k) i)) (bit_at_ones 64 i h) ∙ omega (arith, l) ∙ ap (λ n. bit_at n i) z

pub shl-below : (x k i : ℕ) → i < 64 → i < k → bit_at (x * 2 ^ k % 2 ^ 64) i ≡ 0
shl-below x k i h g = shl-bit x k i h ∙ bit_at_cat_low x k 0 i g ∙ bit_at-zero i

pub shl-above : (x k i : ℕ) → i < 64 → k ≤ i → bit_at (x * 2 ^ k % 2 ^ 64) i ≡ bit_at x (i - k)
shl-above x k i h g = shl-bit x k i h ∙ bit_at_cat_high x k 0 i (pow_pos k) g

-- the greatest of these bits of w
abbrev pub any_of : ℕ → List ℕ → ℕ
any_of w [] = 0
any_of w (i ∷ is) = max (bit_at w i) (any_of w is)

any_of-append : (w : ℕ) (a b : List ℕ) → any_of w (a ++ b) ≡ max (any_of w a) (any_of w b)
any_of-append w [] b = omega arith
any_of-append w (i ∷ a) b = let e = any_of-append w a b in omega arith

-- each bit of x is the greatest of the bits of w at the places that f names for it
pub record Gathers (w x : ℕ) (f : ℕ → List ℕ) : Type 0 where
  pub bound : x < 2 ^ 64
  pub bit : (i : ℕ) → i < 64 → bit_at x i ≡ any_of w (f i)

-- `x & mask`
abbrev pub masked : ℕ → (ℕ → List ℕ) → ℕ → List ℕ
masked mask f i = cond (eqb (bit_at mask i) 1) (f i) []

pub gathers-masked : {w x : ℕ} {f : ℕ → List ℕ} (mask : ℕ) → Gathers w x f → Gathers w (bit_and x mask) (masked mask f)
gathers-masked {w} {x} {f} mask g = record {
  bound = let l = and_le_l x mask in let b = g.bound in omega arith;
  bit = λ i h. bit_at_and x mask i
      ∙ go (bit_at x i) (f i) (bit_at mask i) (bit_at-lt mask i) (g.bit i h) (bit_at-lt x i);
}
  where
    go : (v : ℕ) (is : List ℕ) (m : ℕ) → m < 2 → v ≡ any_of w is → v < 2 → min v m ≡ any_of w (cond (eqb m 1) is [])
    go v is zero h e l = omega arith
    go v is (suc zero) h e l = (let a : min v 1 ≡ v = omega arith in a) ∙ e
    go v is (suc (suc m)) h e l = absurd (omega arith)

-- `x | y`
pub gathers-or : {w x y : ℕ} {f g : ℕ → List ℕ} → Gathers w x f → Gathers w y g
    → Gathers w (bit_or x y) (λ i. f i ++ g i)
gathers-or {w} {x} {y} {f} {g} p q = record {
  bound = or_lt 64 x y p.bound q.bound;
  bit = λ i h. bit_at_or x y i ∙ ap₂ max (p.bit i h) (q.bit i h) ∙ sym (any_of-append w (f i) (g i));
}

-- `x << k`
abbrev pub moved_up : ℕ → (ℕ → List ℕ) → ℕ → List ℕ
moved_up k f i = cond {A = List ℕ} (ltb i k) [] (f (i - k))

pub gathers-up : {w x : ℕ} {f : ℕ → List ℕ} (k : ℕ) → Gathers w x f → Gathers w (x * 2 ^ k % 2 ^ 64) (moved_up k f)
gathers-up {w} {x} {f} k g = record {
  bound = mod_below (x * 2 ^ k) (2 ^ 64) (lit< tt);
  bit
      = λ i h. go i h (cases_lt i k);
}
  where
    go : (i : ℕ) → i < 64 → (i < k) ⊎ (k ≤ i)
        → bit_at (x * 2 ^ k % 2 ^ 64) i ≡ any_of w (cond {A = List ℕ} (ltb i k) [] (f (i - k)))
    go i h (inl a) = let t = lt-ltb i k a in rw t (shl-below x k i h a)
    go i h (inr a) = let t = le-ltb i k a in rw t (shl-above x k i h a ∙ g.bit (i - k) (omega arith))

-- `x >> k`
abbrev pub moved_down : ℕ → (ℕ → List ℕ) → ℕ → List ℕ
moved_down k f i = cond {A = List ℕ} (ltb (k + i) 64) (f (k + i)) []

pub gathers-down : {w x : ℕ} {f : ℕ → List ℕ} (k : ℕ) → Gathers w x f → Gathers w (x / 2 ^ k) (moved_down k f)
gathers-down {w} {x} {f} k g
    = record {
      bound = let l = shr_le x k in let b = g.bound in omega arith;
      bit
          = λ i h. bit_at-shr x k i ∙ go i (cases_lt (k + i) 64);
    }
  where
    go : (i : ℕ) → (k + i < 64) ⊎ (64 ≤ k + i)
        → bit_at x (k + i) ≡ any_of w (cond {A = List ℕ} (ltb (k + i) 64) (f (k + i)) [])
    go i (inl a) = let t = lt-ltb (k + i) 64 a in rw t (g.bit (k + i) a)
    go i (inr a) = let t = le-ltb (k + i) 64 a in rw t (bit_at_above x 64 (k + i) g.bound a)

-- `x | (x << k)` and `x | (x >> k)`
abbrev pub with_below : ℕ → (ℕ → List ℕ) → ℕ → List ℕ
with_below k f i = f i ++ moved_up k f i

pub gathers-below : {w x : ℕ} {f : ℕ → List ℕ} (k : ℕ) → Gathers w x f
    → Gathers w (bit_or x (x * 2 ^ k % 2 ^ 64)) (with_below k f)
gathers-below k g = gathers-or g (gathers-up k g)

abbrev pub with_above : ℕ → (ℕ → List ℕ) → ℕ → List ℕ
with_above k f i = f i ++ moved_down k f i

pub gathers-above : {w x : ℕ} {f : ℕ → List ℕ} (k : ℕ) → Gathers w x f
    → Gathers w (bit_or x (x / 2 ^ k)) (with_above k f)
gathers-above k g = gathers-or g (gathers-down k g)

-- `(x >> k & mask) | (x & mask) << k`
abbrev pub exchanged : ℕ → ℕ → (ℕ → List ℕ) → ℕ → List ℕ
exchanged k mask f i = masked mask (moved_down k f) i ++ moved_up k (masked mask f) i

pub gathers-exchanged : {w x : ℕ} {f : ℕ → List ℕ} (k mask : ℕ) → Gathers w x f
    → Gathers w (bit_or (bit_and (x / 2 ^ k) mask) (bit_and x mask * 2 ^ k % 2 ^ 64)) (exchanged k mask f)
gathers-exchanged k mask g = gathers-or (gathers-masked mask (gathers-down k g)) (gathers-up k (gathers-masked mask g))

-- a number of n bits itself
abbrev pub in_place : ℕ → ℕ → List ℕ
in_place n i = cond (ltb i n) (i ∷ []) []

pub gathers-itself : (n w : ℕ) → n ≤ 64 → w < 2 ^ 64 → w < 2 ^ n → Gathers w w (in_place n)
gathers-itself n w l b h = record { bound = b; bit = λ i g. go i (cases_lt i n) }
  where
    go : (i : ℕ) → (i < n) ⊎ (n ≤ i) → bit_at w i ≡ any_of w (cond (ltb i n) (i ∷ []) [])
    go i (inl a) = let t = lt-ltb i n a in let l = bit_at-lt w i in rw t (omega arith)
    go i (inr a) = let t = le-ltb i n a in rw t (bit_at_above w n i h a)

-- whether two lists of places are one
abbrev pub same_places : List ℕ → List ℕ → Bool
same_places [] [] = true
same_places [] (j ∷ js) = false
same_places (i ∷ is) [] = false
same_places (i ∷ is) (j ∷ js) = eqb i j && same_places is js

pub same_places-is : (is js : List ℕ) → same_places is js ≡ true → is ≡ js
same_places-is [] [] h = refl
same_places-is [] (j ∷ js) h = cc
same_places-is (i ∷ is) [] h = cc
same_places-is (i ∷ is) (j ∷ js) h
    = let p = and_parts (eqb i j) (same_places is js) h in ap₂ (λ x xs. x ∷ xs) (eqb-true i j p.0)
    (same_places-is is js p.1)

-- a table of the places of n bits
pub gathers-at : {w x : ℕ} {f : ℕ → List ℕ} (g : ℕ → List ℕ) (n : ℕ) → Gathers w x f → n ≤ 64
    → agree_below (λ i. same_places (f i) (g i)) (λ _. true) n ≡ true → (i : ℕ) → i < n → bit_at x i ≡ any_of w (g i)
gathers-at {w} {x} {f} g n r l t i h =
    r.bit i (omega arith) ∙ ap (any_of w)
    (same_places-is (f i) (g i) (agree_below_at (λ i. same_places (f i) (g i)) (λ _. true) n i t h))

-- each bit at twice its place
abbrev pub twice : ℕ → List ℕ
twice i = cond (eqb (i % 2) 0) (i / 2 ∷ []) []

pub any_of-twice : (w i : ℕ) → any_of w (twice i) ≡ cond (eqb (i % 2) 0) (bit_at w (i / 2)) 0
any_of-twice w i = go (eqb (i % 2) 0)
  where
    go : (b : Bool) → any_of w (cond b (i / 2 ∷ []) []) ≡ cond b (bit_at w (i / 2)) 0
    go true = omega arith
    go false = refl

pub any_of-one : (w i : ℕ) → any_of w (i ∷ []) ≡ bit_at w i
any_of-one w i = omega arith
