-- The cells of a word that can't stand where they are, by its bits.
use Rattle.std.proofs.Common.{◌≡◌, ℕ, zero, suc, ◌+◌, ◌-◌, ◌*◌, ◌%◌, ◌^◌, ◌<◌, ◌≤◌, ◌⊎◌, inl, inr, min, max, Bool, true}
use Rattle.std.proofs.Common.{false, not, ◌&&◌, ◌||◌, cond, eqb, ltb, refl, subst, ap, ap₂, ◌∙◌, sym, arith, lt-ltb}
use Rattle.std.proofs.Common.{le-ltb, eq-eqb, ne_eqb, lit<, w64}
use Rattle.std.specs.Prelude.{bit_and, bit_or, bit_xor}
use Rattle.std.specs.Int.{bit_at, bit_not}
use Rattle.std.proofs.lemmas.Bool.{cases_lt, cases_eq, agree_below_at, eqb-true}
use Rattle.std.proofs.lemmas.Nat.{xor_lt, mod_below}
use Rattle.std.proofs.lemmas.Nat.Bits.{bit_at_and, bit_at_or, bit_at_xor, bit_at_not, bit_at-lt, bit_at_ones}
use Rattle.std.proofs.lemmas.Nat.Bits.{bit_at_ones_above}
use Rattle.aes3_level.specs.declared.level.Level.{Level}
use Rattle.aes3_level.specs.Cells.{line}
use Rattle.aes3_level.specs.Words.{level_of, low_cells}
use Rattle.aes3_level.proofs.WordCells.{low_cells-at}
use Rattle.aes3_slot.specs.declared.mark.Mark.{Mark}
use Rattle.aes3_slot.specs.Slots.{mark_runs}
use Rattle.aes3_slot.specs.Reading.{same, differs}
use Rattle.aes3_slot.specs.Rules.{at, before, shape, rule}
use Rattle.aes3_slot.specs.Fronts.{stands, stands_even}
use Rattle.aes3_level.proofs.Moves.{shl-above}
use Rattle.aes3_slot.proofs.Turns.{slot_starts-bit}

preamble-bit : (i : ℕ) → bit_at 255 i ≡ cond (ltb i 8) 1 0
preamble-bit i = go (cases_lt i 8)
  where
    go : (i < 8) ⊎ (8 ≤ i) → bit_at 255 i ≡ cond (ltb i 8) 1 0
    go (inl a) = let t = lt-ltb i 8 a in rw t (bit_at_ones 8 i a)
    go (inr a) = let t = le-ltb i 8 a in rw t (bit_at_ones_above 8 i a)

pub same-bit : (x y : ℕ) → x < 2 → y < 2 → (x + y) % 2 ≡ cond (same (level_of x) (level_of y)) 0 1
same-bit zero zero h g = refl
same-bit zero (suc zero) h g = refl
same-bit (suc zero) zero h g = refl
same-bit (suc zero) (suc zero) h g = refl
same-bit x (suc (suc y)) h g = absurd (omega arith)
same-bit (suc (suc x)) y h g = absurd (omega arith)

pub differs-bit : (x y : ℕ) → x < 2 → y < 2 → 1 - (x + y) % 2 ≡ cond (differs (level_of x) (level_of y)) 0 1
differs-bit zero zero h g = refl
differs-bit zero (suc zero) h g = refl
differs-bit (suc zero) zero h g = refl
differs-bit (suc zero) (suc zero) h g = refl
differs-bit x (suc (suc y)) h g = absurd (omega arith)
differs-bit (suc (suc x)) y h g = absurd (omega arith)

small : (b : Bool) → cond {A = ℕ} b 0 1 < 2
small true = omega arith
small false = omega arith

wrong-parts : (w p i : ℕ) → w < 2 ^ 64 → i < 64
    → bit_at (bit_or (bit_and (bit_xor w p) 255)
    (bit_and (bit_not w64 (bit_xor w (w * 2 ^ 1 % 2 ^ 64))) 6148914691236517120)) i
    ≡ max (min ((bit_at w i + bit_at p i) % 2) (cond (ltb i 8) 1 0))
    (min (1 - (bit_at w i + bit_at (w * 2 ^ 1 % 2 ^ 64) i) % 2) (cond (ltb i 8) 0 (cond (eqb (i % 2) 0) 1 0)))
wrong-parts w p i h g =
    bit_at_or _ _ i ∙ ap₂ max
    (bit_at_and _ 255 i ∙ ap₂ min (bit_at_xor w p i) (preamble-bit i))
    (bit_at_and _ 6148914691236517120 i
    ∙ ap₂ min (bit_at_not w64 _ i (xor_lt 64 w (w * 2 ^ 1 % 2 ^ 64) h (mod_below (w * 2 ^ 1) (2 ^ 64) (lit< tt))) g
    ∙ ap (λ x. 1 - x) (bit_at_xor w _ i)) (slot_starts-bit i g))

-- the cell before one behind the preamble
pub before-low_cells : (s : Level) (w i : ℕ) → i < 64 → 8 ≤ i
    → before s (low_cells 64 w) i ≡ level_of (bit_at w (i - 1))
before-low_cells s w zero g l = absurd (omega arith)
before-low_cells s w (suc i) g l = low_cells-at 64 w i (omega arith)
    ∙ ap (λ j. level_of (bit_at w j)) (let q : i ≡ suc i - 1 = omega arith in q)

-- `((w ^ p) & 0xFF) | (!(w ^ (w << 1)) & 0x5555_5555_5555_5500)`, with p the preamble
pub wrong-bit : (s : Level) (m : Mark) (w p i : ℕ) → w < 2 ^ 64 → low_cells 8 p ≡ line s (mark_runs m) → i < 64
    → bit_at (bit_or (bit_and (bit_xor w p) 255)
    (bit_and (bit_not w64 (bit_xor w (w * 2 ^ 1 % 2 ^ 64))) 6148914691236517120)) i
    ≡ cond (stands s m (low_cells 64 w) i) 0 1
unfolding stands
wrong-bit s m w p i h e g =
    wrong-parts w p i h g
    ∙ go (cases_lt i 8) (cases_eq (i % 2) 0)
  where
    a : ℕ
    a = bit_at w i

    here : at (low_cells 64 w) i ≡ level_of (bit_at w i)
    here = low_cells-at 64 w i g

    own : i < 8 → shape m i s ≡ level_of (bit_at p i)
    own l = ap (λ c. at c i) (sym e) ∙ low_cells-at 8 p i l

    six : i % 64 ≡ i
    six = omega arith

    before-is : 8 ≤ i → before s (low_cells 64 w) i ≡ level_of (bit_at w (i - 1))
    before-is l = before-low_cells s w i g l

    go : (i < 8) ⊎ (8 ≤ i) → (i % 2 ≡ 0) ⊎ (i % 2 ≡ 0 → ⊥)
        → max (min ((bit_at w i + bit_at p i) % 2) (cond (ltb i 8) 1 0))
        (min (1 - (bit_at w i + bit_at (w * 2 ^ 1 % 2 ^ 64) i) % 2) (cond (ltb i 8) 0 (cond (eqb (i % 2) 0) 1 0)))
        ≡ cond (rule (λ _. m) i (at (low_cells 64 w) i) s (before s (low_cells 64 w) i)) 0 1
    go (inl l) v =
        let t = lt-ltb i 8 l in
        let b = same-bit (bit_at w i) (bit_at p i) (bit_at-lt w i) (bit_at-lt p i) in
        let o = own l in
        let k = small (same (level_of (bit_at w i)) (level_of (bit_at p i))) in
        rw (six, t, here, o) (omega (arith, b, k))
    go (inr l) (inl v) =
        let t = le-ltb i 8 l in
        let u = eq-eqb (i % 2) 0 v in
        let b = differs-bit (bit_at w i) (bit_at w (i - 1)) (bit_at-lt w i) (bit_at-lt w (i - 1)) in
        let n = shl-above w 1 i g (omega arith) in
        let q = before-is l in
        let k = small (differs (level_of (bit_at w i)) (level_of (bit_at w (i - 1)))) in
        rw (six, t, u, here, q, n) (omega (arith, b, k))
    go (inr l) (inr v) =
        let t = le-ltb i 8 l in
        let u = ne_eqb (i % 2) 0 v in
        rw (six, t, u) (omega arith)

pub true-from_zero : (b : Bool) → cond {A = ℕ} b 0 1 ≡ 0 → b ≡ true
true-from_zero true e = refl
true-from_zero false e = absurd (omega arith)

judged-bit : (i : ℕ) → i < 64
    → bit_at 15372286728091293183 i ≡ cond (ltb i 8) 1 (cond (eqb i 63) 1 (cond (eqb (i % 2) 0) 1 0))
judged-bit i h =
    eqb-true _ _ (agree_below_at
    (λ i. eqb (bit_at 15372286728091293183 i) (cond (ltb i 8) 1 (cond (eqb i 63) 1 (cond (eqb (i % 2) 0) 1 0))))
    (λ _. true) 64 i refl h)

even-parts : (w p i : ℕ) → i < 64
    → bit_at (bit_and
    (bit_xor (bit_xor (bit_and (w * 2 ^ 1 % 2 ^ 64) 6148914691236517120) w)
    (bit_or p 6148914691236517120)) 15372286728091293183) i
    ≡ min (((min (bit_at (w * 2 ^ 1 % 2 ^ 64) i) (cond (ltb i 8) 0 (cond (eqb (i % 2) 0) 1 0)) + bit_at w i) % 2
    + max (bit_at p i) (cond (ltb i 8) 0 (cond (eqb (i % 2) 0) 1 0))) % 2)
    (cond (ltb i 8) 1 (cond (eqb i 63) 1 (cond (eqb (i % 2) 0) 1 0)))
even-parts w p i g =
    bit_at_and _ 15372286728091293183 i
    ∙ ap₂ min
    (bit_at_xor _ _ i ∙ ap₂ (λ x y. (x + y) % 2)
    (bit_at_xor _ w i
    ∙ ap (λ x. (x + bit_at w i) % 2) (bit_at_and _ 6148914691236517120 i
    ∙ ap (min (bit_at (w * 2 ^ 1 % 2 ^ 64) i)) (slot_starts-bit i g)))
    (bit_at_or p 6148914691236517120 i ∙ ap (max (bit_at p i)) (slot_starts-bit i g)))
    (judged-bit i g)

-- but for the last cell the same bits
same-parts : (x w p i : ℕ) → x < 2 → w < 2 → p < 2 → (i ≡ 63 → ⊥)
    → min (((min x (cond (ltb i 8) 0 (cond (eqb (i % 2) 0) 1 0)) + w) % 2 + max p
    (cond (ltb i 8) 0 (cond (eqb (i % 2) 0) 1 0))) % 2)
    (cond (ltb i 8) 1 (cond (eqb i 63) 1 (cond (eqb (i % 2) 0) 1 0)))
    ≡ max (min ((w + p) % 2) (cond (ltb i 8) 1 0)) (min (1 - (w + x) % 2) (cond (ltb i 8) 0 (cond (eqb (i % 2) 0) 1 0)))
same-parts x w p i a b c n = go (cases_lt i 8) (cases_eq (i % 2) 0)
  where
    go : (i < 8) ⊎ (8 ≤ i) → (i % 2 ≡ 0) ⊎ (i % 2 ≡ 0 → ⊥)
        → min (((min x (cond (ltb i 8) 0 (cond (eqb (i % 2) 0) 1 0)) + w) % 2 + max p
        (cond (ltb i 8) 0 (cond (eqb (i % 2) 0) 1 0))) % 2)
        (cond (ltb i 8) 1 (cond (eqb i 63) 1 (cond (eqb (i % 2) 0) 1 0)))
        ≡ max (min ((w + p) % 2) (cond (ltb i 8) 1 0))
        (min (1 - (w + x) % 2) (cond (ltb i 8) 0 (cond (eqb (i % 2) 0) 1 0)))
    go (inl l) v = let t = lt-ltb i 8 l in rw t (omega arith)
    go (inr l) (inl v) =
        let t = le-ltb i 8 l in
        let u = eq-eqb (i % 2) 0 v in
        let k = ne_eqb i 63 n in
        rw (t, u, k) (omega arith)
    go (inr l) (inr v) =
        let t = le-ltb i 8 l in
        let u = ne_eqb (i % 2) 0 v in
        let k = ne_eqb i 63 n in
        rw (t, u, k) (omega arith)

or-true : (b r : Bool) → ◌≡◌ {A = ℕ} (cond b 0 1) (cond (b && (true || r)) 0 1)
or-true true r = refl
or-true false r = refl

-- `(((w << 1) & 0x5555_5555_5555_5500) ^ w ^ (p | 0x5555_5555_5555_5500)) & 0xD555_5555_5555_55FF`, with p the preamble
-- and s its last
pub wrong-even-bit : (s : Level) (m : Mark) (w p i : ℕ) → w < 2 ^ 64 → low_cells 8 p ≡ line s (mark_runs m)
    → level_of (bit_at p 63) ≡ s → i < 64
    → bit_at (bit_and
    (bit_xor (bit_xor (bit_and (w * 2 ^ 1 % 2 ^ 64) 6148914691236517120) w)
    (bit_or p 6148914691236517120)) 15372286728091293183) i
    ≡ cond (stands_even s m (low_cells 64 w) i) 0 1
wrong-even-bit s m w p i h e last g = even-parts w p i g ∙ go (cases_eq i 63)
  where
    parts : ℕ → ℕ
    parts i =
        min (((min (bit_at (w * 2 ^ 1 % 2 ^ 64) i) (cond (ltb i 8) 0 (cond (eqb (i % 2) 0) 1 0)) + bit_at w i) % 2
        + max (bit_at p i) (cond (ltb i 8) 0 (cond (eqb (i % 2) 0) 1 0))) % 2)
        (cond (ltb i 8) 1 (cond (eqb i 63) 1 (cond (eqb (i % 2) 0) 1 0)))

    bits : (i : ℕ) → bit_at w i < 2
    bits i = bit_at-lt w i

    stood : stands s m (low_cells 64 w) 63 ≡ true
    stood =
        let x = bit_at-lt w 63 in
        true-from_zero _ (sym (wrong-bit s m w p 63 h e (omega arith)) ∙ wrong-parts w p 63 h (omega arith)
        ∙ omega arith)

    at_last : parts 63 ≡ cond (stands_even s m (low_cells 64 w) 63) 0 1
    at_last =
        let x = bit_at-lt w 63 in
        let y = bit_at-lt p 63 in
        (let q : parts 63 ≡ (bit_at w 63 + bit_at p 63) % 2 = omega arith in q)
        ∙ same-bit (bit_at w 63) (bit_at p 63) x y
        ∙ ap₂ (λ a b. cond (same a b) 0 1) (sym (low_cells-at 64 w 63 (omega arith))) last
        ∙ sym (ap (λ b. cond (b && (false || same (at (low_cells 64 w) 63) s)) 0 1) stood)

    go : (i ≡ 63) ⊎ (i ≡ 63 → ⊥) → parts i ≡ cond (stands_even s m (low_cells 64 w) i) 0 1
    go (inl z) = subst (λ i. parts i ≡ cond (stands_even s m (low_cells 64 w) i) 0 1) (sym z) at_last
    go (inr n) =
        same-parts _ _ _ i (bit_at-lt (w * 2 ^ 1 % 2 ^ 64) i) (bit_at-lt w i) (bit_at-lt p i) n
        ∙ sym (wrong-parts w p i h g) ∙ wrong-bit s m w p i h e g
        ∙ or-true (stands s m (low_cells 64 w) i) (same (at (low_cells 64 w) i) s)
        ∙ ap (λ b. cond (stands s m (low_cells 64 w) i && (not b || same (at (low_cells 64 w) i) s)) 0 1)
        (sym (ne_eqb i 63 n))

pub false-from_one : (b : Bool) → cond {A = ℕ} b 0 1 ≡ 1 → b ≡ false
false-from_one true e = absurd (omega arith)
false-from_one false e = refl
