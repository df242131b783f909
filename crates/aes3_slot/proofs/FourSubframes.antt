-- Four words at once, lane by lane.
use Rattle.std.proofs.Common.{◌≡◌, ℕ, zero, suc, ◌+◌, ◌-◌, ◌*◌, ◌/◌, ◌%◌, ◌^◌, ◌<◌, ◌≤◌, ◌⊎◌, inl, inr, List, [], ◌∷◌}
use Rattle.std.proofs.Common.{true, cond, eqb, length, get_or, map, replicate, refl, sym, ap, ap₂, ◌∙◌, subst, arith}
use Rattle.std.proofs.Common.{eq-eqb, ne_eqb}
use Rattle.std.specs.Prelude.{bit_xor}
use Rattle.std.specs.Int.{bit_at}
use Rattle.std.specs.Simd.Lanes.{zip2}
use Rattle.std.proofs.lemmas.List.{get_or-map, length-map}
use Rattle.std.proofs.lemmas.Bool.{agree_below_at, cases_eq, cases_lt, lt-ltb, le-ltb}
use Rattle.std.proofs.lemmas.Simd.{get_or-zip2, get_or-replicate, length-zip2}
use Rattle.std.proofs.lemmas.Nat.Bits.{bit_at-lt, bit_at_xor}
use Rattle.aes3_level.specs.declared.level.Level.{Level}
use Rattle.aes3_level.specs.declared.level.Level.TheVariants.{Low, High}
use Rattle.aes3_level.specs.Cells.{line}
use Rattle.aes3_level.specs.Words.{level_of, low_cells, word_cells, word_len}
use Rattle.aes3_level.proofs.WordCells.{drop-low_cells, low_cells-at}
use Rattle.aes3_level.proofs.Moves.{bit_at-shr, shl-above, shl-below}
use Rattle.aes3_slot.specs.declared.mark.Mark.{Mark}
use Rattle.aes3_slot.specs.declared.mark.Mark.TheVariants.{X, Y, Z}
use Rattle.aes3_bits.specs.Bits.{low_bits}
use Rattle.aes3_slot.specs.Fronts.{stands}
use Rattle.aes3_slot.specs.Reading.{differs, read_bits, same}
use Rattle.aes3_slot.specs.Rules.{at, before, rule}
use Rattle.aes3_slot.specs.Slots.{payload_len, slot_runs, slots_bits, slots_len}
use Rattle.aes3_slot.proofs.ReadWords.{read_bits-word}
use Rattle.aes3_slot.proofs.ReadSubframes.{some-stands, word-read}
use Rattle.aes3_slot.proofs.WrongCells.{before-low_cells, differs-bit, same-bit, true-from_zero}
use Rattle.aes3_slot.proofs.Turns.{Sums, sums-itself, sums-doubled, sums-all}

-- `v ^ (v << d)`, for any two operators
pub with-shifted : (f g : ℕ → ℕ → ℕ) (d n : ℕ) (v : List ℕ) → length v ≡ n
    → zip2 f v (zip2 g v (replicate n d)) ≡ map (λ x. f x (g x d)) v
with-shifted f g d n v e = ap (λ k. zip2 f v (zip2 g v (replicate k d))) (sym e) ∙ go v
  where
    go : (v : List ℕ) → zip2 f v (zip2 g v (replicate (length v) d)) ≡ map (λ x. f x (g x d)) v
    go [] = refl
    go (x ∷ v) = ap (λ r. f x (g x d) ∷ r) (go v)

-- the bits of each of four are the parities of the k bits of another up to them
pub record LaneSums (ts : List ℕ) (k : ℕ) (v : List ℕ) : Type 0 where
  pub count : length v ≡ 4
  pub sums : (i : ℕ) → i < 4 → Sums 32 (get_or ts i 0) k (get_or v i 0)

pub lanes-itself : (ts : List ℕ) → length ts ≡ 4 → LaneSums ts 1 ts
lanes-itself ts l = record { count = l; sums = λ i h. sums-itself 32 (get_or ts i 0) }

pub lanes-doubled : {ts v r : List ℕ} (k : ℕ) → LaneSums ts k v → r ≡ map (λ w. bit_xor w (w * 2 ^ k % 2 ^ 32)) v
    → LaneSums ts (k + k) r
lanes-doubled {ts} {v} {r} k s e = record {
  count = ap length e ∙ length-map v (λ w. bit_xor w (w * 2 ^ k % 2 ^ 32)) ∙ s.count;
  sums = λ i h.
      let n = s.count in
      subst (Sums 32 (get_or ts i 0) (k + k))
      (sym (ap (λ l. get_or l i 0) e ∙ get_or-map (λ w. bit_xor w (w * 2 ^ k % 2 ^ 32)) v i 0 0 (omega (arith, h, n))))
      (sums-doubled k (s.sums i h));
}

abbrev turned : ℕ → List ℕ → List ℕ
turned k v = map (λ w. bit_xor w (w * 2 ^ k % 2 ^ 32)) v

pub all-sums : {ts a b c d r : List ℕ} → length ts ≡ 4 → a ≡ turned 1 ts → b ≡ turned 2 a → c ≡ turned 4 b
    → d ≡ turned 8 c → r ≡ turned 16 d → LaneSums ts 32 r
all-sums {ts} l e f g h i =
    lanes-doubled 16
    (lanes-doubled 8 (lanes-doubled 4 (lanes-doubled 2 (lanes-doubled 1 (lanes-itself ts l) e) f) g) h) i

pub odd-first : {ts r : List ℕ} → LaneSums ts 32 r → (i : ℕ) → i < 4
    → bit_at (get_or r i 0) 0 ≡ bit_at (get_or ts i 0) 0
odd-first {ts} {r} all i h =
    let s = sums-all (all.sums i h) 0 (omega arith) in
    let l = bit_at-lt (get_or ts i 0) 0 in
    omega (arith, s, l)

pub odd-next : {ts r : List ℕ} → LaneSums ts 32 r → (i k : ℕ) → i < 4 → k < 31
    → (bit_at (get_or r i 0) k + bit_at (get_or r i 0) (k + 1)) % 2 ≡ bit_at (get_or ts i 0) (k + 1)
odd-next {ts} {r} all i k h g =
    let s = sums-all (all.sums i h) k (omega arith) in
    let t = sums-all (all.sums i h) (suc k) (omega arith) in
    let l = bit_at-lt (get_or ts i 0) (suc k) in
    let e : k + 1 ≡ suc k = omega arith in
    rw e (omega (arith, s, t, l))

-- a subframe of zeros has two like cells in each slot
like-cells : (s : Level) (m : Mark) (i : ℕ) → i < 28
    → same (at (line s (slot_runs m (low_bits 28 0))) (8 + 2 * i))
    (at (line s (slot_runs m (low_bits 28 0))) (9 + 2 * i)) ≡ true
like-cells Low X i h =
    agree_below_at
    (λ i. same (at (line Low (slot_runs X (low_bits 28 0))) (8 + 2 * i))
    (at (line Low (slot_runs X (low_bits 28 0))) (9 + 2 * i))) (λ _. true) 28 i refl h
like-cells Low Y i h =
    agree_below_at
    (λ i. same (at (line Low (slot_runs Y (low_bits 28 0))) (8 + 2 * i))
    (at (line Low (slot_runs Y (low_bits 28 0))) (9 + 2 * i))) (λ _. true) 28 i refl h
like-cells Low Z i h =
    agree_below_at
    (λ i. same (at (line Low (slot_runs Z (low_bits 28 0))) (8 + 2 * i))
    (at (line Low (slot_runs Z (low_bits 28 0))) (9 + 2 * i))) (λ _. true) 28 i refl h
like-cells High X i h =
    agree_below_at
    (λ i. same (at (line High (slot_runs X (low_bits 28 0))) (8 + 2 * i))
    (at (line High (slot_runs X (low_bits 28 0))) (9 + 2 * i))) (λ _. true) 28 i refl h
like-cells High Y i h =
    agree_below_at
    (λ i. same (at (line High (slot_runs Y (low_bits 28 0))) (8 + 2 * i))
    (at (line High (slot_runs Y (low_bits 28 0))) (9 + 2 * i))) (λ _. true) 28 i refl h
like-cells High Z i h =
    agree_below_at
    (λ i. same (at (line High (slot_runs Z (low_bits 28 0))) (8 + 2 * i))
    (at (line High (slot_runs Z (low_bits 28 0))) (9 + 2 * i))) (λ _. true) 28 i refl h

-- the same preamble, and the same turns where slots begin
stands-like : (s : Level) (m : Mark) (z c i : ℕ) → i < 64 → (i < 8 → bit_at c i ≡ bit_at z i)
    → (8 ≤ i → i % 2 ≡ 0 → (bit_at c i + bit_at c (i - 1)) % 2 ≡ (bit_at z i + bit_at z (i - 1)) % 2)
    → stands s m (low_cells 64 z) i ≡ true → stands s m (low_cells 64 c) i ≡ true
unfolding stands
stands-like s m z c i g pre start known = go (cases_lt i 8) (cases_eq (i % 2) 0)
  where
    six : i % 64 ≡ i
    six = omega arith

    here : (w : ℕ) → at (low_cells 64 w) i ≡ level_of (bit_at w i)
    here w = low_cells-at 64 w i g

    differ : (w v : ℕ) → (bit_at w i + bit_at w (i - 1)) % 2 ≡ (bit_at v i + bit_at v (i - 1)) % 2
        → differs (level_of (bit_at v i)) (level_of (bit_at v (i - 1))) ≡ true
        → differs (level_of (bit_at w i)) (level_of (bit_at w (i - 1))) ≡ true
    differ w v e d =
        true-from_zero (differs (level_of (bit_at w i)) (level_of (bit_at w (i - 1))))
        (sym (differs-bit (bit_at w i) (bit_at w (i - 1)) (bit_at-lt w i) (bit_at-lt w (i - 1))) ∙ ap (λ n. 1 - n) e
        ∙ differs-bit (bit_at v i) (bit_at v (i - 1)) (bit_at-lt v i) (bit_at-lt v (i - 1))
        ∙ ap (λ b. cond {A = ℕ} b 0 1) d)

    go : (i < 8) ⊎ (8 ≤ i) → (i % 2 ≡ 0) ⊎ (i % 2 ≡ 0 → ⊥)
        → rule (λ _. m) i (at (low_cells 64 c) i) s (before s (low_cells 64 c) i) ≡ true
    go (inl l) v =
        let t = lt-ltb i 8 l in
        let hz = here z in
        let hc = here c in
        let e = pre l in
        let k = rw (six, t, hz) at known in
        rw (six, t, hc, e) k
    go (inr l) (inl v) =
        let t = le-ltb i 8 l in
        let u = eq-eqb (i % 2) 0 v in
        let hz = here z in
        let hc = here c in
        let bz = before-low_cells s z i g l in
        let bc = before-low_cells s c i g l in
        let k = rw (six, t, u, hz, bz) at known in
        rw (six, t, u, hc, bc) (differ c z (start l v) k)
    go (inr l) (inr v) =
        let t = le-ltb i 8 l in
        let u = ne_eqb (i % 2) 0 v in
        rw (six, t, u) refl

-- `(z ^ x) ^ (x << 1)`, where z has the cells of a subframe of zeros, and x whether the ones of w so far are odd in
-- number, at each second cell
module _ (s : Level) (m : Mark) (z x p w : ℕ) (zeros : word_cells z ≡ line s (slot_runs m (slots_bits 0)))
    (spread : (k : ℕ) → k < 64 → bit_at x k ≡ cond (eqb (k % 2) 0) 0 (bit_at p (k / 2)))
    (first : bit_at p 0 ≡ bit_at w 0) (next : (k : ℕ) → k < 31 → (bit_at p k + bit_at p (k + 1)) % 2 ≡ bit_at w (k + 1))
    (code : w % 16 ≡ 0) where
  abbrev c : ℕ
  c = bit_xor (bit_xor z x) (x * 2 ^ 1 % 2 ^ 64)

  even-bit : (k : ℕ) → k < 64 → k % 2 ≡ 0 → bit_at x k ≡ 0
  even-bit k h e = let t = eq-eqb (k % 2) 0 e in let b = rw t at (spread k h) in b

  odd-bit : (k : ℕ) → k < 64 → k % 2 ≡ 1 → bit_at x k ≡ bit_at p (k / 2)
  odd-bit k h e = let t = ne_eqb (k % 2) 0 (omega arith) in let b = rw t at (spread k h) in b

  none : (j : ℕ) → j < 4 → bit_at w j ≡ 0
  none zero h = omega arith
  none (suc zero) h = omega arith
  none (suc (suc zero)) h = omega arith
  none (suc (suc (suc zero))) h = omega arith
  none (suc (suc (suc (suc j)))) h = absurd (omega arith)

  level : (j : ℕ) → j < 4 → bit_at p j ≡ 0
  level zero h = first ∙ none 0 h
  level (suc j) h =
      let a = level j (omega arith) in
      let b = next j (omega arith) in
      let e : j + 1 ≡ suc j = omega arith in
      let b = rw e at b in
      let n = none (suc j) h in
      let l = bit_at-lt p (suc j) in
      omega (arith, a, b, n, l)

  quiet : (k : ℕ) → k < 8 → bit_at x k ≡ 0
  quiet k h = go (cases_eq (k % 2) 0)
    where
      go : (k % 2 ≡ 0) ⊎ (k % 2 ≡ 0 → ⊥) → bit_at x k ≡ 0
      go (inl e) = even-bit k (omega arith) e
      go (inr e) = odd-bit k (omega arith) (omega (arith, e)) ∙ level (k / 2) (omega arith)

  low-cell : (k : ℕ) → k < 64
      → bit_at (bit_xor (bit_xor z x) (x * 2 ^ 1 % 2 ^ 64)) k ≡ ((bit_at z k + bit_at x k) % 2 + bit_at
      (x * 2 ^ 1 % 2 ^ 64) k) % 2
  low-cell k h = bit_at_xor (bit_xor z x) (x * 2 ^ 1 % 2 ^ 64) k
      ∙ ap (λ b. (b + bit_at (x * 2 ^ 1 % 2 ^ 64) k) % 2) (bit_at_xor z x k)

  cell : (k : ℕ) → suc k < 64
      → bit_at (bit_xor (bit_xor z x) (x * 2 ^ 1 % 2 ^ 64))
      (suc k) ≡ (bit_at z (suc k) + bit_at x (suc k) + bit_at x k) % 2
  cell k h =
      let a = low-cell (suc k) h in
      let e : suc k - 1 ≡ k = omega arith in
      let b = rw e at (shl-above x 1 (suc k) h (omega arith)) in
      omega (arith, a, b)

  in-preamble : (k : ℕ) → k < 8 → bit_at (bit_xor (bit_xor z x) (x * 2 ^ 1 % 2 ^ 64)) k ≡ bit_at z k
  in-preamble zero h =
      let a = low-cell 0 (omega arith) in
      let b = shl-below x 1 0 (omega arith) (omega arith) in
      let q = quiet 0 h in
      let l = bit_at-lt z 0 in
      omega (arith, a, b, q, l)
  in-preamble (suc k) h =
      let a = cell k (omega arith) in
      let q = quiet (suc k) h in
      let r = quiet k (omega arith) in
      let l = bit_at-lt z (suc k) in
      omega (arith, a, q, r, l)

  at-start : (k : ℕ) → suc (suc k) < 64 → k % 2 ≡ 0
      → (bit_at (bit_xor (bit_xor z x) (x * 2 ^ 1 % 2 ^ 64)) (suc (suc k)) + bit_at
      (bit_xor (bit_xor z x) (x * 2 ^ 1 % 2 ^ 64)) (suc k)) % 2 ≡ (bit_at z (suc (suc k)) + bit_at z (suc k)) % 2
  at-start k h e =
      let a = cell (suc k) h in
      let b = cell k (omega arith) in
      let q = even-bit k (omega arith) e in
      let r = even-bit (suc (suc k)) h (omega arith) in
      omega (arith, a, b, q, r)

  begins : (i : ℕ) → i < 64 → 8 ≤ i → i % 2 ≡ 0
      → (bit_at (bit_xor (bit_xor z x) (x * 2 ^ 1 % 2 ^ 64)) i + bit_at (bit_xor (bit_xor z x) (x * 2 ^ 1 % 2 ^ 64))
      (i - 1)) % 2
      ≡ (bit_at z i + bit_at z (i - 1)) % 2
  begins zero h l e = absurd (omega arith)
  begins (suc zero) h l e = absurd (omega arith)
  begins (suc (suc k)) h l e =
      let n : suc (suc k) - 1 ≡ suc k = omega arith in
      rw n (at-start k h (omega arith))

  like : (i : ℕ) → i < 28 → (bit_at z (8 + 2 * i) + bit_at z (9 + 2 * i)) % 2 ≡ 0
  unfolding word_cells word_len slots_len
  like i h =
      let t = subst (λ l. same (at l (8 + 2 * i)) (at l (9 + 2 * i)) ≡ true) (sym zeros) (like-cells s m i h) in
      let a = low_cells-at 64 z (8 + 2 * i) (omega arith) in
      let b = low_cells-at 64 z (9 + 2 * i) (omega arith) in
      same-bit (bit_at z (8 + 2 * i)) (bit_at z (9 + 2 * i)) (bit_at-lt z (8 + 2 * i)) (bit_at-lt z (9 + 2 * i))
      ∙ ap (λ b. cond {A = ℕ} b 0 1) (ap₂ same (sym a) (sym b) ∙ t)

  slot : (i : ℕ) → i < 28 → bit_at (w / 16) i
      ≡ (bit_at (bit_xor (bit_xor z x) (x * 2 ^ 1 % 2 ^ 64) / 2 ^ 8) (2 * i) + bit_at
      (bit_xor (bit_xor z x) (x * 2 ^ 1 % 2 ^ 64) / 2 ^ 8) (suc (2 * i))) % 2
  slot i h =
      let j : (7 + 2 * i) / 2 ≡ 3 + i = omega arith in
      let k : (9 + 2 * i) / 2 ≡ 4 + i = omega arith in
      let o : 3 + i + 1 ≡ 4 + i = omega arith in
      let e : suc (7 + 2 * i) ≡ 8 + 2 * i = omega arith in
      let f : suc (8 + 2 * i) ≡ 9 + 2 * i = omega arith in
      let a = rw e at (cell (7 + 2 * i) (omega arith)) in
      let b = rw f at (cell (8 + 2 * i) (omega arith)) in
      bit_at-shr w 4 i
      ∙ parity (bit_at w (4 + i)) (bit_at (bit_xor (bit_xor z x) (x * 2 ^ 1 % 2 ^ 64)) (8 + 2 * i))
      (bit_at (bit_xor (bit_xor z x) (x * 2 ^ 1 % 2 ^ 64)) (9 + 2 * i))
      (bit_at z (8 + 2 * i)) (bit_at z (9 + 2 * i)) (bit_at x (7 + 2 * i)) (bit_at x (8 + 2 * i)) (bit_at x (9 + 2 * i))
      a b (even-bit (8 + 2 * i) (omega arith) (omega arith)) (like i h)
      (ap₂ (λ a b. (a + b) % 2) (odd-bit (7 + 2 * i) (omega arith) (omega arith) ∙ ap (bit_at p) j)
      (odd-bit (9 + 2 * i) (omega arith) (omega arith) ∙ ap (bit_at p) (k ∙ sym o))
      ∙ next (3 + i) (omega arith) ∙ ap (bit_at w) o)
      ∙ ap₂ (λ a b. (a + b) % 2) (sym (bit_at-shr (bit_xor (bit_xor z x) (x * 2 ^ 1 % 2 ^ 64)) 8 (2 * i)))
      (ap (bit_at (bit_xor (bit_xor z x) (x * 2 ^ 1 % 2 ^ 64))) (let e : 9 + 2 * i ≡ 8 + suc (2 * i) = omega arith in e)
      ∙ sym (bit_at-shr (bit_xor (bit_xor z x) (x * 2 ^ 1 % 2 ^ 64)) 8 (suc (2 * i))))
    where
      parity : (v a b e f l m n : ℕ) → a ≡ (e + m + l) % 2 → b ≡ (f + n + m) % 2 → m ≡ 0 → (e + f) % 2 ≡ 0
          → (l + n) % 2 ≡ v → v ≡ (a + b) % 2
      parity v a b e f l m n g h j k o = omega arith

  pub cells-of-word : word_cells (bit_xor (bit_xor z x) (x * 2 ^ 1 % 2 ^ 64)) ≡ line s
      (slot_runs m (slots_bits (w / 16)))
  unfolding word_cells word_len slots_len payload_len
  cells-of-word =
      word-read s m c (λ i h. stands-like s m z c i h (in-preamble i) (begins i h) (some-stands s m z 0 true zeros i h))
      ∙ ap (λ bits. line s (slot_runs m bits))
      (sym (read_bits-word 28 (c / 2 ^ 8) (w / 16) slot ∙ ap read_bits (sym (drop-low_cells 8 56 c))))

-- in each of four lanes
pub cells-of-four : (s : Level) (m : ℕ → Mark) (zs xs ps ws : List ℕ) → length zs ≡ 4 → length xs ≡ 4
    → ((i : ℕ) → i < 4 → word_cells (get_or zs i 0) ≡ line s (slot_runs (m i) (slots_bits 0)))
    → ((i k : ℕ) → i < 4 → k < 64 → bit_at (get_or xs i 0) k ≡ cond (eqb (k % 2) 0) 0 (bit_at (get_or ps i 0) (k / 2)))
    → ((i : ℕ) → i < 4 → bit_at (get_or ps i 0) 0 ≡ bit_at (get_or ws i 0) 0)
    → ((i k : ℕ) → i < 4 → k < 31
    → (bit_at (get_or ps i 0) k + bit_at (get_or ps i 0) (k + 1)) % 2 ≡ bit_at (get_or ws i 0) (k + 1))
    → ((i : ℕ) → i < 4 → get_or ws i 0 % 16 ≡ 0) → (i : ℕ) → i < 4
    → word_cells (get_or (zip2 bit_xor (zip2 bit_xor zs xs) (zip2 (λ x d. x * 2 ^ d % 2 ^ 64) xs (replicate 4 1))) i 0)
    ≡ line s (slot_runs (m i) (slots_bits (get_or ws i 0 / 16)))
cells-of-four s m zs xs ps ws lz lx zeros spread first next code i h =
    ap word_cells lane ∙ cells-of-word s (m i) (get_or zs i 0) (get_or xs i 0) (get_or ps i 0) (get_or ws i 0)
    (zeros i h) (λ k g. spread i k h g) (first i h) (λ k g. next i k h g) (code i h)
  where
    lt : length (zip2 bit_xor zs xs) ≡ 4
    lt = length-zip2 bit_xor zs xs (lz ∙ sym lx) ∙ lz

    lm : length (zip2 (λ x d. x * 2 ^ d % 2 ^ 64) xs (replicate 4 1)) ≡ 4
    lm = length-zip2 (λ x d. x * 2 ^ d % 2 ^ 64) xs (replicate 4 1) lx ∙ lx

    lane : get_or (zip2 bit_xor (zip2 bit_xor zs xs) (zip2 (λ x d. x * 2 ^ d % 2 ^ 64) xs (replicate 4 1))) i 0
        ≡ bit_xor (bit_xor (get_or zs i 0) (get_or xs i 0)) (get_or xs i 0 * 2 ^ 1 % 2 ^ 64)
    lane =
        get_or-zip2 bit_xor (zip2 bit_xor zs xs) (zip2 (λ x d. x * 2 ^ d % 2 ^ 64) xs (replicate 4 1)) i 0 0 0
        (omega (arith, h, lt)) (omega (arith, h, lm))
        ∙ ap₂ bit_xor (get_or-zip2 bit_xor zs xs i 0 0 0 (omega (arith, h, lz)) (omega (arith, h, lx)))
        (get_or-zip2 (λ x d. x * 2 ^ d % 2 ^ 64) xs (replicate 4 1) i 0 0 0 (omega (arith, h, lx)) h
        ∙ ap (λ d. get_or xs i 0 * 2 ^ d % 2 ^ 64) (get_or-replicate 4 i 1 0 h))

-- two of something in turn
pub two-in-turn : (P : ℕ → ℕ → Type 0) (p q : ℕ) → P 0 p → P 1 q → P 2 p → P 3 q → (i : ℕ) → i < 4
    → P i (get_or (p ∷ q ∷ p ∷ q ∷ []) i 0)
two-in-turn P p q a b c d zero h = a
two-in-turn P p q a b c d (suc zero) h = b
two-in-turn P p q a b c d (suc (suc zero)) h = c
two-in-turn P p q a b c d (suc (suc (suc zero))) h = d
two-in-turn P p q a b c d (suc (suc (suc (suc i)))) h = absurd (omega arith)
