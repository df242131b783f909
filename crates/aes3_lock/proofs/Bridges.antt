-- No block is made of cells of a stream from one place on and, behind some of them, those from the next place on.
use Rattle.std.proofs.Common.{◌≡◌, ℕ, suc, ◌+◌, ◌*◌, ◌/◌, ◌%◌, ◌<◌, ◌≤◌, ◌⊎◌, inl, inr, List, Bool, length, ap, ◌∙◌}
use Rattle.std.proofs.Common.{sym, arith, lit<}
use Rattle.std.proofs.lemmas.Bool.{cases_lt}
use Rattle.aes3_level.specs.declared.level.Level.{Level}
use Rattle.aes3_level.specs.Cells.{other}
use Rattle.aes3_level.proofs.Runs.{other_ne}
use Rattle.aes3_slot.specs.Rules.{at, shape}
use Rattle.aes3_slot.proofs.Distance.{own-cell, stands-from}
use Rattle.aes3_slot.proofs.OwnPreambles.{begins, shape-first}
use Rattle.aes3_frame.specs.Blocks.{mark_at, block_subframes, block_cells, stream, IsBlock}
use Rattle.aes3_frame.proofs.FileLaws.{EachBlock}
use Rattle.aes3_lock.proofs.Distances.{block-level, block-mark, mark-second}
use Rattle.aes3_lock.proofs.LawfulPieces.{stream_marks, stream-kept, stream-length, stream-level, stream-aligned}

module _ (s : Level) (bs : List (List (List Bool))) (h : EachBlock bs) where
  -- the first two cells of a subframe of the stream
  pub begun : (p : ℕ) → p % 64 ≡ 0 → p < length (stream s bs) → at (stream s bs) p ≡ other s
  begun p a l =
      let n = stream-length s bs h in
      let e : 64 * (p / 64) + 0 ≡ p = omega arith in
      ap (at (stream s bs)) (sym e)
      ∙ own-cell stream_marks s (stream s bs) (stream-kept s bs h) (p / 64) 0 (omega arith) (lit< tt)
      ∙ ap (shape (stream_marks (p / 64)) 0) (stream-level s bs h (p / 64) (omega arith))
      ∙ shape-first (stream_marks (p / 64)) s

  pub begun-second : (p : ℕ) → p % 64 ≡ 0 → p < length (stream s bs) → at (stream s bs) (suc p) ≡ other s
  begun-second p a l =
      let n = stream-length s bs h in
      let e : 64 * (p / 64) + 1 ≡ suc p = omega arith in
      ap (at (stream s bs)) (sym e)
      ∙ own-cell stream_marks s (stream s bs) (stream-kept s bs h) (p / 64) 1 (omega arith) (lit< tt)
      ∙ ap (shape (stream_marks (p / 64)) 1) (stream-level s bs h (p / 64) (omega arith))
      ∙ mark-second (stream_marks (p / 64)) s

  -- a block whose first m cells are those of the stream from place p on, and the others those from the next place on
  module _ (d : List (List Bool)) (t : Level) (g : IsBlock d) (p m : ℕ) (some : 0 < m) (few : m < 24576)
      (room : p + 24576 < length (stream s bs))
      (early : (x : ℕ) → x < m → at (block_cells t d) x ≡ at (stream s bs) (p + x))
      (late : (x : ℕ) → m ≤ x → x < 24576 → at (block_cells t d) x ≡ at (stream s bs) (suc p + x)) where
    own-mark : (j k : ℕ) → j < 384 → k < 8 → at (block_cells t d) (64 * j + k) ≡ shape (mark_at j) k t
    own-mark j k l o = block-mark t d g j k l o

    -- a preamble before the lost cell, and one behind it, stand in the stream
    before-it : (j : ℕ) → j < 384 → 64 * j + 8 ≤ m → ((p + 64 * j) % 64 ≡ 0) × (t ≡ s)
    before-it j l o =
        let r = room in
        let a = stream-aligned s bs h (mark_at j) t (p + 64 * j)
        (stands-from (mark_at j) t (stream s bs) (p + 64 * j) (omega arith)
        (λ k b. let e : p + 64 * j + k ≡ p + (64 * j + k) = omega arith in
        ap (at (stream s bs)) e ∙ sym (early (64 * j + k) (omega arith)) ∙ own-mark j k l b)) in
        (a.0, a.2)

    behind-it : (j : ℕ) → j < 384 → m ≤ 64 * j → (suc p + 64 * j) % 64 ≡ 0
    behind-it j l o =
        let r = room in
        (stream-aligned s bs h (mark_at j) t (suc p + 64 * j)
        (stands-from (mark_at j) t (stream s bs) (suc p + 64 * j) (omega arith)
        (λ k b. let e : suc p + 64 * j + k ≡ suc p + (64 * j + k) = omega arith in
        ap (at (stream s bs)) e ∙ sym (late (64 * j + k) (omega arith) (omega arith)) ∙ own-mark j k l b))).0

    -- it lies behind the first preamble and before the last subframe
    in-middle : 8 ≤ m → m ≤ 24512 → ⊥
    in-middle a b =
        let x = before-it 0 (lit< tt) (omega arith) in
        let y = behind-it 383 (lit< tt) (omega arith) in
        let z = x.0 in
        omega arith

    -- within the first preamble
    in-first : m < 8 → ⊥
    in-first a = go (cases_lt m 2)
      where
        next : suc p % 64 ≡ 0
        next = let y = behind-it 1 (lit< tt) (omega arith) in omega arith

        turn : at (stream s bs) (suc p) ≡ at (stream s bs) p → ⊥
        turn = begins stream_marks s (stream s bs) (stream-kept s bs h) p (let r = room in omega arith) next

        first : at (stream s bs) p ≡ other t
        first = let e : p + 0 ≡ p = omega arith in ap (at (stream s bs)) (sym e) ∙ sym (early 0 some)
            ∙ own-mark 0 0 (lit< tt) (lit< tt) ∙ shape-first (mark_at 0) t

        second : at (block_cells t d) 1 ≡ other t
        second = own-mark 0 1 (lit< tt) (lit< tt) ∙ mark-second (mark_at 0) t

        go : (m < 2) ⊎ (2 ≤ m) → ⊥
        go (inl o) =
            let e : suc p + 1 ≡ suc (suc p) = omega arith in
            let n = room in
            let v = some in
            turn (begun (suc p) next (omega arith) ∙ sym (begun-second (suc p) next (omega arith))
            ∙ ap (at (stream s bs)) (sym e)
            ∙ sym (late 1 (omega arith) (lit< tt)) ∙ second ∙ sym first)
        go (inr o) =
            let e : p + 1 ≡ suc p = omega arith in
            turn (ap (at (stream s bs)) (sym e) ∙ sym (early 1 (omega arith)) ∙ second ∙ sym first)

    -- in the last subframe: its parity is even
    in-last : 24512 < m → ⊥
    unfolding block_subframes
    in-last a =
        let x = before-it 0 (lit< tt) (omega arith) in
        let z = x.0 in
        let r = room in
        let v = few in
        let e : suc p + 24575 ≡ p + 24576 = omega arith in
        let last : at (block_cells t d) 24575 ≡ t = block-level t d g 384 (omega arith) in
        other_ne s (sym (begun (p + 24576) (omega arith) (omega arith)) ∙ ap (at (stream s bs)) (sym e)
        ∙ sym (late 24575 (omega arith) (lit< tt)) ∙ last ∙ x.1)

    pub no-bridge : ⊥
    no-bridge = go (cases_lt m 8) (cases_lt 24512 m)
      where
        go : (m < 8) ⊎ (8 ≤ m) → (24512 < m) ⊎ (m ≤ 24512) → ⊥
        go (inl a) b = in-first a
        go (inr a) (inl b) = in-last b
        go (inr a) (inr b) = in-middle a b
