-- Words of cells from words of turns.
use Rattle.std.proofs.Common.{◌≡◌, ℕ, zero, suc, ◌+◌, ◌-◌, ◌*◌, ◌/◌, ◌%◌, ◌^◌, ◌<◌, ◌≤◌, ◌⊎◌, inl, inr, max, cond, ltb}
use Rattle.std.proofs.Common.{min, List, [], ◌∷◌, ◌++◌, Bool, true, false, eqb, map, refl, sym, ap, ap₂, ◌∙◌, arith}
use Rattle.std.proofs.Common.{w64}
use Rattle.std.specs.Prelude.{bit_or, bit_xor}
use Rattle.std.specs.Int.{bit_at, bit_not}
use Rattle.std.proofs.lemmas.Bool.{cases_lt, agree_below_at, lt-ltb, le-ltb, eq-eqb, ne_eqb, eqb-true}
use Rattle.std.proofs.lemmas.Nat.{and_mask, pow_pos}
use Rattle.std.proofs.lemmas.Nat.Bits.{bit_at_and, bit_at_or, bit_at_xor, bit_at_above, bit_at_cat_high, bit_at_cat_low}
use Rattle.std.proofs.lemmas.Nat.Bits.{bit_at-lt, bit_at_ones, bit_at-suc, bit_at_lowest, bit_at_not, bit_at-zero}
use Rattle.aes3_level.specs.declared.level.Level.{Level}
use Rattle.aes3_level.specs.declared.level.Level.TheVariants.{Low, High}
use Rattle.aes3_level.specs.Cells.{line, other}
use Rattle.aes3_level.specs.Words.{level_of, low_cells}
use Rattle.aes3_slot.specs.declared.mark.Mark.{Mark}
use Rattle.aes3_slot.specs.declared.mark.Mark.TheVariants.{X, Y, Z}
use Rattle.aes3_bits.specs.Bits.{low_bits}
use Rattle.aes3_slot.specs.Slots.{mark_runs, bits_runs, slot_runs}
use Rattle.aes3_slot.specs.Turns.{turned, cells_of_turns, run_turns}
use Rattle.aes3_bits.proofs.Bits.{low_bits-same, low_bits-add}
use Rattle.aes3_level.proofs.Moves.{bit_at-shr, shl-below, shl-above}

-- the parity of the bits of t below i
abbrev pub parity_below : ℕ → ℕ → ℕ
parity_below t zero = 0
parity_below t (suc i) = (parity_below t i + bit_at t i) % 2

pub parity_below-suc : (t i : ℕ) → parity_below t (suc i) ≡ (t % 2 + parity_below (t / 2) i) % 2
parity_below-suc t zero = let e = bit_at_lowest t in omega arith
parity_below-suc t (suc i) = let e = parity_below-suc t i in let s = bit_at-suc t i in omega arith

-- the bits of `x << k` in n bits
shl-bit : (n x k i : ℕ) → i < n → bit_at (x * 2 ^ k % 2 ^ n) i ≡ bit_at (x * 2 ^ k + 0) i
shl-bit n x k i h =
    let l = bit_at-lt (x * 2 ^ k) i in
    let z : x * 2 ^ k ≡ x * 2 ^ k + 0 = omega arith in
    ap (λ m. bit_at m i) (sym (and_mask (x * 2 ^ k) n)) ∙ bit_at_and (x * 2 ^ k) (2 ^ n - 1) i
    ∙ ap (min (bit_at (x * 2 ^ k) i)) (bit_at_ones n i h) ∙ omega (arith, l) ∙ ap (λ m. bit_at m i) z

shl-low : (n x k i : ℕ) → i < n → i < k → bit_at (x * 2 ^ k % 2 ^ n) i ≡ 0
shl-low n x k i h g = shl-bit n x k i h ∙ bit_at_cat_low x k 0 i g ∙ bit_at-zero i

shl-high : (n x k i : ℕ) → i < n → k ≤ i → bit_at (x * 2 ^ k % 2 ^ n) i ≡ bit_at x (i - k)
shl-high n x k i h g = shl-bit n x k i h ∙ bit_at_cat_high x k 0 i (pow_pos k) g

-- bit i of p, which has n bits, is the parity of the k bits of t up to it
pub record Sums (n t k p : ℕ) : Type 0 where
  pub bit : (i : ℕ) → i < n → bit_at p i ≡ (parity_below t (suc i) + parity_below t (suc i - k)) % 2

pub sums-itself : (n t : ℕ) → Sums n t 1 t
sums-itself n t = record {
  bit = λ i h.
      let e : suc i - 1 ≡ i = omega arith in
      let l = bit_at-lt t i in
      rw e (omega arith);
}

-- `p ^ (p << k)`
pub sums-doubled : {n t p : ℕ} (k : ℕ) → Sums n t k p → Sums n t (k + k) (bit_xor p (p * 2 ^ k % 2 ^ n))
sums-doubled {n} {t} {p} k s = record { bit = λ i h. bit_at_xor p (p * 2 ^ k % 2 ^ n) i ∙ go i h (cases_lt i k) }
  where
    join : (a b c x y : ℕ) → x ≡ (a + b) % 2 → y ≡ (b + c) % 2 → (x + y) % 2 ≡ (a + c) % 2
    join a b c x y e f = omega arith

    go : (i : ℕ) → i < n → (i < k) ⊎ (k ≤ i)
        → (bit_at p i + bit_at (p * 2 ^ k % 2 ^ n) i) % 2 ≡ (parity_below t (suc i) + parity_below t
        (suc i - (k + k))) % 2
    go i h (inl a) =
        let z : suc i - k ≡ 0 = omega arith in
        let z' : suc i - (k + k) ≡ 0 = omega arith in
        join (parity_below t (suc i)) 0 (parity_below t (suc i - (k + k))) _ _
        (s.bit i h ∙ ap (λ j. (parity_below t (suc i) + parity_below t j) % 2) z) (shl-low n p k i h a
        ∙ ap (λ j. (0 + parity_below t j) % 2) (sym z'))
    go i h (inr a) =
        let x : suc (i - k) ≡ suc i - k = omega arith in
        let y : suc i - k - k ≡ suc i - (k + k) = omega arith in
        join (parity_below t (suc i)) (parity_below t (suc i - k)) (parity_below t (suc i - (k + k))) _ _ (s.bit i h)
        (shl-high n p k i h a ∙ s.bit (i - k) (omega arith)
        ∙ ap (λ j. (parity_below t j + parity_below t (j - k)) % 2) x
        ∙ ap (λ j. (parity_below t (suc i - k) + parity_below t j) % 2) y)

-- all turns up to each bit
pub sums-all : {n t p : ℕ} → Sums n t n p → (i : ℕ) → i < n → bit_at p i ≡ parity_below t (suc i)
sums-all {n} {t} {p} s i h = let z : suc i - n ≡ 0 = omega arith in let b = rw z at (s.bit i h) in omega (arith, b)

-- cells whose bits are the parities of the turns
pub cells-turns : (n p t b : ℕ) → b < 2 → ((i : ℕ) → i < n → bit_at p i ≡ (b + parity_below t (suc i)) % 2)
    → low_cells n p ≡ cells_of_turns (level_of b) (low_bits n t)
cells-turns zero p t b g h = refl
cells-turns (suc n) p t b g h =
    let first : p % 2 ≡ (b + t % 2) % 2 = let e = h 0 (omega arith) in let x = bit_at_lowest p in
    let y = parity_below-suc t 0 in omega arith in
    let l : level_of (p % 2) ≡ turned (eqb (t % 2) 1) (level_of b) = ap level_of first
    ∙ turn b (t % 2) g (omega arith) in
    ap₂ (λ x c. x ∷ c) l
    (cells-turns n (p / 2) (t / 2) (p % 2) (omega arith)
    (λ i lt. let e = h (suc i) (omega arith) in let x = bit_at-suc p i in let y = parity_below-suc t (suc i) in
    omega arith)
    ∙ ap (λ s. cells_of_turns s (low_bits n (t / 2))) l)
  where
    turn : (b x : ℕ) → b < 2 → x < 2 → level_of ((b + x) % 2) ≡ turned (eqb x 1) (level_of b)
    turn zero zero g h = refl
    turn zero (suc zero) g h = refl
    turn (suc zero) zero g h = refl
    turn (suc zero) (suc zero) g h = refl
    turn b (suc (suc x)) g h = absurd (omega arith)
    turn (suc (suc b)) x g h = absurd (omega arith)

-- the word of turns itself: all turns up to each cell
pub cells-sums : {t p : ℕ} → Sums 64 t 64 p → low_cells 64 p ≡ cells_of_turns Low (low_bits 64 t)
cells-sums {t} {p} s =
    cells-turns 64 p t 0 (omega arith) (λ i h. let b = sums-all s i h in let l = bit_at-lt p i in omega (arith, b, l))

-- the other level before
pub cells_of_turns-other : (s : Level) (turns : List Bool)
    → cells_of_turns (other s) turns ≡ map other (cells_of_turns s turns)
cells_of_turns-other s [] = refl
cells_of_turns-other s (false ∷ turns) = ap (λ c. other s ∷ c) (cells_of_turns-other s turns)
cells_of_turns-other s (true ∷ turns) = ap (λ c. other (other s) ∷ c) (cells_of_turns-other (other s) turns)

pub low_cells-not : (n w : ℕ) → n ≤ 64 → w < 2 ^ 64 → low_cells n (bit_not w64 w) ≡ map other (low_cells n w)
low_cells-not n w l h = turned-cells n (bit_not w64 w) w (λ i g. bit_at_not w64 w i h (omega arith))
  where
    flip : (b : ℕ) → b < 2 → level_of (1 - b) ≡ other (level_of b)
    flip zero g = refl
    flip (suc zero) g = refl
    flip (suc (suc b)) g = absurd (omega arith)

    turned-cells : (n v w : ℕ) → ((i : ℕ) → i < n → bit_at v i ≡ 1 - bit_at w i)
        → low_cells n v ≡ map other (low_cells n w)
    turned-cells zero v w h = refl
    turned-cells (suc n) v w h =
        ap₂ (λ x c. x ∷ c) (ap level_of (sym (bit_at_lowest v) ∙ h 0 (omega arith) ∙ ap (λ b. 1 - b) (bit_at_lowest w))
        ∙ flip (w % 2) (omega arith))
        (turned-cells n (v / 2) (w / 2)
        (λ i g. sym (bit_at-suc v i) ∙ h (suc i) (omega arith) ∙ ap (λ b. 1 - b) (bit_at-suc w i)))

-- a line by its turns
line-bits : (s : Level) (bits : List Bool) → line s (bits_runs bits) ≡ cells_of_turns s (run_turns (bits_runs bits))
line-bits s [] = refl
line-bits s (false ∷ bits) = ap (λ c. other s ∷ other s ∷ c) (line-bits (other s) bits)
line-bits s (true ∷ bits) = ap (λ c. other s ∷ other (other s) ∷ c) (line-bits (other (other s)) bits)

pub line-turns : (s : Level) (m : Mark) (bits : List Bool)
    → line s (slot_runs m bits) ≡ cells_of_turns s (run_turns (slot_runs m bits))
line-turns Low X bits = ap (λ c. line Low (mark_runs X) ++ c) (line-bits Low bits)
line-turns Low Y bits = ap (λ c. line Low (mark_runs Y) ++ c) (line-bits Low bits)
line-turns Low Z bits = ap (λ c. line Low (mark_runs Z) ++ c) (line-bits Low bits)
line-turns High X bits = ap (λ c. line High (mark_runs X) ++ c) (line-bits High bits)
line-turns High Y bits = ap (λ c. line High (mark_runs Y) ++ c) (line-bits High bits)
line-turns High Z bits = ap (λ c. line High (mark_runs Z) ++ c) (line-bits High bits)

-- the turns of slots by place: one where a slot begins, and one in its middle for a one
pub turns-bits : (k w v : ℕ) → ((i : ℕ) → i < k → bit_at w (2 * i) ≡ 1)
    → ((i : ℕ) → i < k → bit_at w (2 * i + 1) ≡ bit_at v i)
    → low_bits (2 * k) w ≡ run_turns (bits_runs (low_bits k v))
turns-bits zero w v a b = refl
turns-bits (suc k) w v a b =
    let n : 2 * suc k ≡ suc (suc (2 * k)) = omega arith in
    let x : w % 2 ≡ 1 = sym (bit_at_lowest w) ∙ a 0 (omega arith) in
    let y : w / 2 % 2 ≡ v % 2 = sym (bit_at_lowest (w / 2)) ∙ sym (bit_at-suc w 0) ∙ b 0 (omega arith)
    ∙ bit_at_lowest v in
    let more = turns-bits k (w / 2 / 2) (v / 2)
    (λ i h. sym (bit_at-suc (w / 2) (2 * i)) ∙ sym (bit_at-suc w (suc (2 * i)))
    ∙ ap (bit_at w) (let e : suc (suc (2 * i)) ≡ 2 * suc i = omega arith in e) ∙ a (suc i) (omega arith))
    (λ i h. sym (bit_at-suc (w / 2) (2 * i + 1)) ∙ sym (bit_at-suc w (suc (2 * i + 1)))
    ∙ ap (bit_at w) (let e : suc (suc (2 * i + 1)) ≡ 2 * suc i + 1 = omega arith in e) ∙ b (suc i) (omega arith)
    ∙ bit_at-suc v i) in
    ap (λ j. low_bits j w) n ∙ ap₂ (λ p q. eqb p 1 ∷ eqb q 1 ∷ low_bits (2 * k) (w / 2 / 2)) x y
    ∙ ap (λ c. true ∷ eqb (v % 2) 1 ∷ c) more
    ∙ sym (one (eqb (v % 2) 1) (low_bits k (v / 2)))
  where
    one : (bit : Bool) (bits : List Bool) → run_turns (bits_runs (bit ∷ bits)) ≡ true ∷ bit ∷ run_turns (bits_runs bits)
    one false bits = refl
    one true bits = refl

-- the turns of a preamble and of the slots behind it
pub turns-slots : (m : Mark) (bits : List Bool)
    → run_turns (slot_runs m bits) ≡ run_turns (mark_runs m) ++ run_turns (bits_runs bits)
turns-slots X bits = refl
turns-slots Y bits = refl
turns-slots Z bits = refl

pub slot_starts-bit : (i : ℕ) → i < 64 → bit_at 6148914691236517120 i ≡ cond (ltb i 8) 0 (cond (eqb (i % 2) 0) 1 0)
slot_starts-bit i h =
    eqb-true _ _ (agree_below_at (λ i. eqb (bit_at 6148914691236517120 i) (cond (ltb i 8) 0 (cond (eqb (i % 2) 0) 1 0)))
    (λ _. true) 64 i refl h)

-- the word of turns of a subframe
pub turns-word : (p s v : ℕ) (m : Mark) → low_bits 8 p ≡ run_turns (mark_runs m) → p < 2 ^ 8
    → ((i : ℕ) → i < 64 → bit_at s i ≡ cond (eqb (i % 2) 0) (bit_at v (i / 2)) 0)
    → low_bits 64 (bit_or (bit_or p 6148914691236517120) (s * 2 ^ 9 % 2 ^ 64)) ≡ run_turns (slot_runs m (low_bits 28 v))
turns-word p s v m e h f =
    low_bits-add 8 56 w ∙ ap₂ ◌++◌ (low_bits-same 8 w p low ∙ e) (turns-bits 28 (w / 2 ^ 8) v even odd)
    ∙ sym (turns-slots m (low_bits 28 v))
  where
    w : ℕ
    w = bit_or (bit_or p 6148914691236517120) (s * 2 ^ 9 % 2 ^ 64)

    bit : (i : ℕ) → bit_at (bit_or (bit_or p 6148914691236517120) (s * 2 ^ 9 % 2 ^ 64)) i
        ≡ max (max (bit_at p i) (bit_at 6148914691236517120 i)) (bit_at (s * 2 ^ 9 % 2 ^ 64) i)
    bit i = bit_at_or _ _ i ∙ ap (λ b. max b (bit_at (s * 2 ^ 9 % 2 ^ 64) i)) (bit_at_or p 6148914691236517120 i)

    low : (i : ℕ) → i < 8 → bit_at (bit_or (bit_or p 6148914691236517120) (s * 2 ^ 9 % 2 ^ 64)) i ≡ bit_at p i
    low i g =
        let a = slot_starts-bit i (omega arith) in
        let t = lt-ltb i 8 g in
        let b = rw t at a in
        let x = shl-below s 9 i (omega arith) (omega arith) in
        let l = bit_at-lt p i in
        bit i ∙ omega (arith, b, x)

    even : (i : ℕ) → i < 28 → bit_at (bit_or (bit_or p 6148914691236517120) (s * 2 ^ 9 % 2 ^ 64) / 2 ^ 8) (2 * i) ≡ 1
    even i g =
        let a = slot_starts-bit (8 + 2 * i) (omega arith) in
        let t = le-ltb (8 + 2 * i) 8 (omega arith) in
        let z = eq-eqb ((8 + 2 * i) % 2) 0 (omega arith) in
        let b = rw (t, z) at a in
        let x = bit_at-lt p (8 + 2 * i) in
        let y = bit_at-lt (s * 2 ^ 9 % 2 ^ 64) (8 + 2 * i) in
        bit_at-shr w 8 (2 * i) ∙ bit (8 + 2 * i) ∙ omega (arith, b, x, y)

    odd : (i : ℕ) → i < 28
        → bit_at (bit_or (bit_or p 6148914691236517120) (s * 2 ^ 9 % 2 ^ 64) / 2 ^ 8) (2 * i + 1) ≡ bit_at v i
    odd i g =
        let a = slot_starts-bit (8 + (2 * i + 1)) (omega arith) in
        let t = le-ltb (8 + (2 * i + 1)) 8 (omega arith) in
        let z = ne_eqb ((8 + (2 * i + 1)) % 2) 0 (λ q. omega arith) in
        let b = rw (t, z) at a in
        let x = bit_at_above p 8 (8 + (2 * i + 1)) h (omega arith) in
        let k : 8 + (2 * i + 1) - 9 ≡ 2 * i = omega arith in
        let j : 2 * i / 2 ≡ i = omega arith in
        let n = eq-eqb (2 * i % 2) 0 (omega arith) in
        let y = rw (n, j) at (f (2 * i) (omega arith)) in
        let d = shl-above s 9 (8 + (2 * i + 1)) (omega arith) (omega arith) ∙ ap (bit_at s) k ∙ y in
        bit_at-shr w 8 (2 * i + 1) ∙ bit (8 + (2 * i + 1)) ∙ omega (arith, b, x, d)
