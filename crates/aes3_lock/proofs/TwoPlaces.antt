-- No block is made of cells of two places of a lawful stream that aren't whole subframes apart.
use Rattle.std.proofs.Common.{◌≡◌, ℕ, ◌+◌, ◌-◌, ◌*◌, ◌%◌, ◌<◌, ◌≤◌, List, Bool, length, take, drop, ap, ◌∙◌, sym, arith}
use Rattle.std.proofs.Common.{length-drop, length-take, get_or-take, get_or-drop, lit<}
use Rattle.aes3_level.specs.declared.level.Level.{Level}
use Rattle.aes3_level.specs.declared.level.Level.TheVariants.{Low}
use Rattle.aes3_slot.specs.Rules.{at, shape}
use Rattle.aes3_slot.proofs.Distance.{own-cell, stands-from}
use Rattle.aes3_frame.specs.Blocks.{mark_at, block_subframes, block_len, block_cells, stream, IsBlock}
use Rattle.aes3_frame.proofs.FileLaws.{each-block}
use Rattle.aes3_frame.proofs.CellLaws.{length-block_cells, block_len_24576}
use Rattle.aes3_lock.specs.Pieces.{IsPiece}
use Rattle.aes3_lock.proofs.Damaged.{streamed}
use Rattle.aes3_lock.proofs.Distances.{block-kept, block-level}
use Rattle.aes3_lock.proofs.LawfulPieces.{stream-aligned}
use Rattle.aes3_lock.proofs.PieceBounds.{length-piece}

module _ (s : Level) (bs : List (List (List Bool))) (i j : ℕ) (c : List Level) (piece : IsPiece s bs i j c)
    (d : List (List Bool)) (t : Level)
    (g : IsBlock d) where
  -- where a preamble of the block stands in the piece a subframe begins
  preamble-at : (k q : ℕ) → k < 384 → q + 8 ≤ length c
      → ((x : ℕ) → x < 8 → at (block_cells t d) (64 * k + x) ≡ at c (q + x)) → (i + q) % 64 ≡ 0
  unfolding block_subframes
  preamble-at k q l r same =
      let n = length-block_cells t d g in
      let b = block_len_24576 in
      let m = ap length piece.is ∙ length-piece i j (stream s bs) piece.order piece.within in
      let w = piece.within in
      (stream-aligned s bs (each-block bs piece.blocks) (mark_at k) t (i + q)
      (stands-from (mark_at k) t (stream s bs) (i + q) (omega arith)
      (λ x o.
      let e : i + q + x ≡ i + (q + x) = omega arith in
      ap (at (stream s bs)) e ∙ sym (streamed piece (q + x) (omega arith)) ∙ sym (same x o)
      ∙ own-cell mark_at t (block_cells t d) (block-kept t d g) k x (omega arith) o
      ∙ ap (shape (mark_at k) x) (block-level t d g k (omega arith))))).0

  pub not-bridged : (m p q : ℕ) → 8 ≤ m → m + 64 ≤ block_len → take m (block_cells t d) ≡ take m (drop p c)
      → drop m (block_cells t d) ≡ take (block_len - m) (drop q c) → (p + m) % 64 ≡ q % 64
  not-bridged m p q a b front back =
      let n = length-block_cells t d g in
      let l = block_len_24576 in
      let f1 = ap length front in
      let f2 = length-take m (block_cells t d) in
      let f3 = length-take m (drop p c) in
      let f4 = length-drop p c in
      let b1 = ap length back in
      let b2 = length-drop m (block_cells t d) in
      let b3 = length-take (block_len - m) (drop q c) in
      let b4 = length-drop q c in
      let x = preamble-at 0 p (lit< tt) (omega arith) (λ x o.
      let e : 64 * 0 + x ≡ x = omega arith in
      ap (at (block_cells t d)) e ∙ sym (get_or-take m (block_cells t d) x Low (omega arith)) ∙ ap (λ c. at c x) front
      ∙ get_or-take m (drop p c) x Low (omega arith) ∙ get_or-drop p c x Low) in
      let y = preamble-at 383 (q + (24512 - m)) (lit< tt) (omega arith) (λ x o.
      let e : 64 * 383 + x ≡ m + (24512 - m + x) = omega arith in
      let f : q + (24512 - m + x) ≡ q + (24512 - m) + x = omega arith in
      ap (at (block_cells t d)) e ∙ sym (get_or-drop m (block_cells t d) (24512 - m + x) Low)
      ∙ ap (λ c. at c (24512 - m + x)) back
      ∙ get_or-take (block_len - m) (drop q c) (24512 - m + x) Low (omega arith) ∙ get_or-drop q c (24512 - m + x) Low
      ∙ ap (at c) f) in
      omega arith
