-- Cells with one put in, and a block whose cells are those of a stream but for the one.
use Rattle.std.proofs.Common.{◌≡◌, ℕ, zero, suc, ◌+◌, ◌-◌, ◌*◌, ◌/◌, ◌%◌, ◌<◌, ◌≤◌, ◌⊎◌, inl, inr, List, [], ◌∷◌, Bool}
use Rattle.std.proofs.Common.{refl, length, drop, ap, ◌∙◌, sym, arith, lit<}
use Rattle.std.proofs.lemmas.Bool.{cases_lt}
use Rattle.aes3_level.specs.declared.level.Level.{Level}
use Rattle.aes3_level.specs.declared.level.Level.TheVariants.{Low, High}
use Rattle.aes3_level.specs.Cells.{other}
use Rattle.aes3_level.proofs.Runs.{other_ne}
use Rattle.aes3_slot.specs.declared.mark.Mark.{Mark}
use Rattle.aes3_slot.specs.declared.mark.Mark.TheVariants.{X, Y, Z}
use Rattle.aes3_slot.specs.Rules.{at, before, shape}
use Rattle.aes3_slot.proofs.Distance.{own-cell, stands-from}
use Rattle.aes3_frame.specs.Blocks.{mark_at, block_cells, stream, IsBlock}
use Rattle.aes3_frame.proofs.FileLaws.{EachBlock}
use Rattle.aes3_lock.specs.Damage.{inserted}
use Rattle.aes3_lock.proofs.Distances.{block-mark, mark-second}
use Rattle.aes3_lock.proofs.LawfulPieces.{stream_marks, stream-kept, stream-length, stream-level, stream-aligned}
use Rattle.aes3_slot.proofs.OwnPreambles.{shape-first}

-- the cells with the one put in
pub length-inserted : (k : ℕ) (x : Level) (c : List Level) → k ≤ length c → length (inserted k x c) ≡ suc (length c)
length-inserted zero x c h = refl
length-inserted (suc k) x [] h = absurd (omega arith)
length-inserted (suc k) x (y ∷ c) h = ap suc (length-inserted k x c (omega arith))

pub inserted-before : (k : ℕ) (x : Level) (c : List Level) (z : ℕ) → z < k → k ≤ length c
    → at (inserted k x c) z ≡ at c z
inserted-before zero x c z l h = absurd (omega arith)
inserted-before (suc k) x [] z l h = absurd (omega arith)
inserted-before (suc k) x (y ∷ c) zero l h = refl
inserted-before (suc k) x (y ∷ c) (suc z) l h = inserted-before k x c z (omega arith) (omega arith)

pub inserted-there : (k : ℕ) (x : Level) (c : List Level) → k ≤ length c → at (inserted k x c) k ≡ x
inserted-there zero x c h = refl
inserted-there (suc k) x [] h = absurd (omega arith)
inserted-there (suc k) x (y ∷ c) h = inserted-there k x c (omega arith)

pub inserted-behind : (k : ℕ) (x : Level) (c : List Level) (z : ℕ) → k ≤ z → k ≤ length c
    → at (inserted k x c) (suc z) ≡ at c z
inserted-behind zero x c z l h = refl
inserted-behind (suc k) x [] z l h = absurd (omega arith)
inserted-behind (suc k) x (y ∷ c) zero l h = absurd (omega arith)
inserted-behind (suc k) x (y ∷ c) (suc z) l h = inserted-behind k x c z (omega arith) (omega arith)

pub drop-inserted : (k : ℕ) (x : Level) (c : List Level) (q : ℕ) → k ≤ q → k ≤ length c
    → drop (suc q) (inserted k x c) ≡ drop q c
drop-inserted zero x c q l h = refl
drop-inserted (suc k) x [] q l h = absurd (omega arith)
drop-inserted (suc k) x (y ∷ c) zero l h = absurd (omega arith)
drop-inserted (suc k) x (y ∷ c) (suc q) l h = drop-inserted k x c q (omega arith) (omega arith)

-- the third cell of a preamble is as the first two, and the fourth is as the one before them
mark-third : (m : Mark) (u : Level) → shape m 2 u ≡ other u
mark-third X u = refl
mark-third Y u = refl
mark-third Z u = refl

pub mark-fourth : (m : Mark) (u : Level) → shape m 3 u ≡ u
mark-fourth X Low = refl
mark-fourth X High = refl
mark-fourth Y Low = refl
mark-fourth Y High = refl
mark-fourth Z Low = refl
mark-fourth Z High = refl

-- the first run of a preamble is of three cells
pub first-run : (m : Mark) (k : ℕ) (u : Level) → k < 3 → shape m k u ≡ other u
first-run m zero u l = shape-first m u
first-run m (suc zero) u l = mark-second m u
first-run m (suc (suc zero)) u l = mark-third m u
first-run m (suc (suc (suc k))) u l = absurd (omega arith)

module _ (s : Level) (bs : List (List (List Bool))) (h : EachBlock bs) where
  -- the first four cells of a subframe of the stream
  pub run-cell : (p k : ℕ) → p % 64 ≡ 0 → p < length (stream s bs) → k < 3 → at (stream s bs) (p + k) ≡ other s
  run-cell p k a l o =
      let n = stream-length s bs h in
      let e : 64 * (p / 64) + k ≡ p + k = omega arith in
      ap (at (stream s bs)) (sym e)
      ∙ own-cell stream_marks s (stream s bs) (stream-kept s bs h) (p / 64) k (omega arith) (omega arith)
      ∙ ap (shape (stream_marks (p / 64)) k) (stream-level s bs h (p / 64) (omega arith))
      ∙ first-run (stream_marks (p / 64)) k s o

  fourth-cell : (p : ℕ) → p % 64 ≡ 0 → p < length (stream s bs) → at (stream s bs) (p + 3) ≡ s
  fourth-cell p a l =
      let n = stream-length s bs h in
      let e : 64 * (p / 64) + 3 ≡ p + 3 = omega arith in
      ap (at (stream s bs)) (sym e)
      ∙ own-cell stream_marks s (stream s bs) (stream-kept s bs h) (p / 64) 3 (omega arith) (lit< tt)
      ∙ ap (shape (stream_marks (p / 64)) 3) (stream-level s bs h (p / 64) (omega arith))
      ∙ mark-fourth (stream_marks (p / 64)) s

  -- and the last
  pub last-cell : (p : ℕ) → suc p % 64 ≡ 0 → p < length (stream s bs) → at (stream s bs) p ≡ s
  last-cell p a l =
      let n = stream-length s bs h in
      let e : 64 * (suc p / 64) ≡ suc p = omega arith in
      ap (before s (stream s bs)) (sym e) ∙ stream-level s bs h (suc p / 64) (omega arith)

  -- a block whose first m cells are those of the stream from place q on, the next one is x, and the others those behind
  -- the first
  module _ (d : List (List Bool)) (t : Level) (g : IsBlock d) (q m : ℕ) (x : Level) (few : m < 24576)
      (room : q + 24575 ≤ length (stream s bs))
      (early : (y : ℕ) → y < m → at (block_cells t d) y ≡ at (stream s bs) (q + y))
      (there : at (block_cells t d) m ≡ x)
      (late : (y : ℕ) → m ≤ y → suc y < 24576 → at (block_cells t d) (suc y) ≡ at (stream s bs) (q + y)) where
    before-it : (j : ℕ) → j < 384 → 64 * j + 8 ≤ m → ((q + 64 * j) % 64 ≡ 0) × (t ≡ s)
    before-it j l o =
        let r = room in
        let f = few in
        let a = stream-aligned s bs h (mark_at j) t (q + 64 * j)
        (stands-from (mark_at j) t (stream s bs) (q + 64 * j) (omega arith)
        (λ k b. let e : q + 64 * j + k ≡ q + (64 * j + k) = omega arith in
        ap (at (stream s bs)) e ∙ sym (early (64 * j + k) (omega arith)) ∙ block-mark t d g j k l b)) in
        (a.0, a.2)

    behind-it : (i : ℕ) → i < 383 → m ≤ 64 * i + 63 → ((q + (64 * i + 63)) % 64 ≡ 0) × (t ≡ s)
    behind-it i l o =
        let r = room in
        let a = stream-aligned s bs h (mark_at (suc i)) t (q + (64 * i + 63))
        (stands-from (mark_at (suc i)) t (stream s bs) (q + (64 * i + 63)) (omega arith)
        (λ k b.
        let e : q + (64 * i + 63) + k ≡ q + (64 * i + 63 + k) = omega arith in
        let f : suc (64 * i + 63 + k) ≡ 64 * suc i + k = omega arith in
        ap (at (stream s bs)) e ∙ sym (late (64 * i + 63 + k) (omega arith) (omega arith)) ∙ ap (at (block_cells t d)) f
        ∙ block-mark t d g (suc i) k (omega arith) b)) in
        (a.0, a.2)

    pub in-middle : 8 ≤ m → m < 24512 → ⊥
    in-middle a b =
        let x = before-it 0 (lit< tt) (omega arith) in
        let y = behind-it 382 (lit< tt) (omega arith) in
        let u = x.0 in
        let v = y.0 in
        omega arith

    pub in-last : 24512 ≤ m → (q % 64 ≡ 0) × (t ≡ s)
    in-last a = let x = before-it 0 (lit< tt) (omega arith) in let u = x.0 in (omega arith, x.1)

    -- the first run of its preamble has the cell more
    module _ (first : m < 8) where
      pub begun : (q + 63) % 64 ≡ 0
      begun = let y = behind-it 0 (lit< tt) (omega arith) in let u = y.0 in omega arith

      level : t ≡ s
      level = (behind-it 0 (lit< tt) (omega arith)).1

      inside : q - 1 < length (stream s bs)
      inside = let r = room in omega arith

      cell : (y : ℕ) → y < 3 → at (block_cells t d) y ≡ other s
      cell y l =
          let e : 64 * 0 + y ≡ y = omega arith in
          ap (at (block_cells t d)) (sym e) ∙ block-mark t d g 0 y (lit< tt) (omega arith) ∙ first-run (mark_at 0) y t l
          ∙ ap other level

      pub in-run : m ≤ 2
      in-run = go (cases_lt m 3)
        where
          go : (m < 3) ⊎ (3 ≤ m) → m ≤ 2
          go (inl a) = omega arith
          go (inr a) =
              let b = begun in
              let e : q - 1 + 3 ≡ q + 2 = omega arith in
              absurd (other_ne s (sym (cell 2 (lit< tt)) ∙ early 2 (omega arith) ∙ ap (at (stream s bs)) (sym e)
              ∙ fourth-cell (q - 1) (omega arith) inside))

      pub of-run : x ≡ other s
      of-run = let a = in-run in sym there ∙ cell m (omega arith)

      pub as-stream : (y : ℕ) → y < 24576 → at (block_cells t d) y ≡ at (stream s bs) (q - 1 + y)
      as-stream y l = go (cases_lt m y)
        where
          go : (m < y) ⊎ (y ≤ m) → at (block_cells t d) y ≡ at (stream s bs) (q - 1 + y)
          go (inr a) =
              let b = begun in
              let c = in-run in
              cell y (omega arith) ∙ sym (run-cell (q - 1) y (omega arith) inside (omega arith))
          go (inl a) =
              let b = begun in
              let e : suc (y - 1) ≡ y = omega arith in
              let f : q + (y - 1) ≡ q - 1 + y = omega arith in
              ap (at (block_cells t d)) (sym e) ∙ late (y - 1) (omega arith) (omega arith) ∙ ap (at (stream s bs)) f
