-- A piece of a lawful stream of which some cells are changed: no block stands in it where none began, and where one
-- began that block, or one that the changed cells make of it.
use Rattle.std.proofs.Common.{◌≡◌, ℕ, suc, ◌+◌, ◌-◌, ◌%◌, ◌<◌, ◌≤◌, ◌⊎◌, inl, inr, List, [], ◌∷◌, Bool, length, take}
use Rattle.std.proofs.Common.{drop, ap, ap₂, ◌∙◌, sym, arith, length-take-le, length-drop, take-take, take_at}
use Rattle.std.proofs.Common.{get_or-take, get_or-drop, ext_get_or}
use Rattle.std.proofs.lemmas.Bool.{cases_eq, cases_lt}
use Rattle.std.proofs.lemmas.List.{get_or_append_left}
use Rattle.aes3_level.specs.declared.level.Level.{Level}
use Rattle.aes3_level.specs.declared.level.Level.TheVariants.{Low}
use Rattle.aes3_level.specs.Cells.{other}
use Rattle.aes3_level.proofs.Runs.{other_ne}
use Rattle.aes3_slot.specs.Rules.{at}
use Rattle.aes3_slot.proofs.OwnPreambles.{begins}
use Rattle.aes3_frame.specs.Blocks.{block_len, block_cells, stream, IsBlock}
use Rattle.aes3_frame.proofs.FileLaws.{EachBlock}
use Rattle.aes3_frame.proofs.CellLaws.{length-block_cells, stream-cons, block_len_24576}
use Rattle.aes3_lock.specs.Damage.{apart}
use Rattle.aes3_lock.specs.Pieces.{IsPiece}
use Rattle.aes3_lock.specs.Reports.{reports_from, wholes}
use Rattle.aes3_lock.specs.Standing.{StandsClosed}
use Rattle.aes3_lock.proofs.AllStanding.{closed-room}
use Rattle.aes3_lock.proofs.Apart.{apart-take, apart-drop, other-of}
use Rattle.aes3_lock.proofs.Distances.{off-subframes, off-blocks}
use Rattle.aes3_lock.proofs.LawfulPieces.{stream_marks, stream-kept}
use Rattle.aes3_lock.proofs.OwnPlace.{PairApart, own-place}
use Rattle.aes3_lock.proofs.PlaceBlocks.{block_here, blocks-collect, here-none, here-any}
use Rattle.aes3_lock.proofs.PieceBounds.{length-piece, piece-rest}
use Rattle.aes3_lock.proofs.Places.{gather, collect-gather}

-- some cells of a piece are those of the stream
pub piece-window : (i j q n : ℕ) (c : List Level) → i + q + n ≤ j
    → take n (drop q (take (j - i) (drop i c))) ≡ take n (drop (i + q) c)
piece-window i j q n c l =
    ap (take n) (piece-rest i j q c (omega arith)) ∙ take-take n (j - (i + q)) (drop (i + q) c) (omega arith)

pub piece-cell : (i j x : ℕ) (c : List Level) → x < j - i → at (take (j - i) (drop i c)) x ≡ at c (i + x)
piece-cell i j x c l = get_or-take (j - i) (drop i c) x Low l ∙ get_or-drop i c x Low

-- the cell of a piece is that of its stream
pub streamed : {s : Level} {bs : List (List (List Bool))} {i j : ℕ} {c : List Level} → IsPiece s bs i j c → (x : ℕ)
    → x < length c → at c x ≡ at (stream s bs) (i + x)
streamed {s} {bs} {i} {j} {c} piece x l =
    let n = ap length piece.is ∙ length-piece i j (stream s bs) piece.order piece.within in
    ap (λ c. at c x) piece.is ∙ piece-cell i j x (stream s bs) (omega arith)

-- cell x of the blocks from place p on, as the piece has it
pub line-cell : (s : Level) (bs more : List (List (List Bool))) (i j p x : ℕ) → i ≤ p → p + x < j
    → drop p (stream s bs) ≡ stream s more
    → at (take (j - i) (drop i (stream s bs))) (p - i + x) ≡ at (stream s more) x
line-cell s bs more i j p x l r e =
    let q : i + (p - i + x) ≡ p + x = omega arith in
    piece-cell i j (p - i + x) (stream s bs) (omega arith) ∙ ap (at (stream s bs)) q
    ∙ sym (get_or-drop p (stream s bs) x Low) ∙ ap (λ c. at c x) e

module _ (s : Level) (bs : List (List (List Bool))) (h : EachBlock bs) (i j : ℕ) (order : i ≤ j)
    (within : j ≤ length (stream s bs))
    (e : List Level) (same : length e ≡ j - i) where
  -- the blocks of the cells, place by place of the stream
  pub blocks-places : wholes (reports_from 0 e) ≡ gather (λ p. block_here 0 (drop (p - i) e)) i (j - i)
  blocks-places =
      blocks-collect 0 e
      ∙ collect-gather block_here (λ p. block_here 0 (drop (p - i) e)) 0 i e
      (λ q l.
      let a : q ≡ i + q - i = omega arith in
      here-any (0 + q) 0 (drop q e) ∙ ap (λ k. block_here 0 (drop k e)) a)
      ∙ ap (gather (λ p. block_here 0 (drop (p - i) e)) i) same

  pub short-none : (p : ℕ) → i ≤ p → p < j → j < p + block_len → block_here 0 (drop (p - i) e) ≡ []
  short-none p a b c =
      here-none 0 (drop (p - i) e) (λ d t z.
      let r = closed-room d t (drop (p - i) e) z in
      let l = length-drop (p - i) e in
      let k = same in
      omega arith)

  -- a block that stands differs from the stream at no more places than the cells do
  pub near : (n p : ℕ) (d : List (List Bool)) (t : Level) → apart (take (j - i) (drop i (stream s bs))) e ≤ n → i ≤ p
      → p + block_len ≤ j
      → StandsClosed d t (drop (p - i) e) → apart (take block_len (drop p (stream s bs))) (block_cells t d) ≤ n
  near n p d t a l r z =
      let q : i + (p - i) ≡ p = omega arith in
      let b = apart-drop (p - i) (take (j - i) (drop i (stream s bs))) e in
      let c = apart-take block_len (drop (p - i) (take (j - i) (drop i (stream s bs)))) (drop (p - i) e) in
      let w = ap₂ apart (piece-window i j (p - i) block_len (stream s bs) (omega arith)
      ∙ ap (λ k. take block_len (drop k (stream s bs))) q) z.cells in
      omega arith

  -- none stands where none began
  pub no-other : (p : ℕ) → apart (take (j - i) (drop i (stream s bs))) e ≤ 3 → i ≤ p → p + block_len ≤ j → 0 < p % 24576
      → (d : List (List Bool)) (t : Level) → StandsClosed d t (drop (p - i) e) → ⊥
  no-other p a l r o d t z = go (cases_eq (p % 64) 0)
    where
      n : apart (take block_len (drop p (stream s bs))) (block_cells t d) ≤ 3
      n = near 3 p d t a l r z

      go : (p % 64 ≡ 0) ⊎ (p % 64 ≡ 0 → ⊥) → ⊥
      go (inl m) = let v = off-blocks s bs h t d z.block p (let w = within in omega arith) m o in
          let u = n in omega arith
      go (inr m) = let v = off-subframes s bs h t d z.block p (let w = within in omega arith) m in
          let u = n in omega arith

  -- where a block of the stream lies whole in the piece
  module _ (p : ℕ) (b : List (List Bool)) (more : List (List (List Bool))) (low : i ≤ p) (high : p + block_len ≤ j)
      (g : EachBlock (b ∷ more))
      (rest : drop p (stream s bs) ≡ stream s (b ∷ more)) where
    own-window : take block_len (drop p (stream s bs)) ≡ block_cells s b
    own-window =
        ap (take block_len) (rest ∙ stream-cons s b more g.0)
        ∙ take_at (block_cells s b) (stream s more) block_len (length-block_cells s b g.0)

    pub own-cell-at : (x : ℕ) → x < block_len → at (block_cells s b) x ≡ at (stream s (b ∷ more)) x
    own-cell-at x l =
        let n = length-block_cells s b g.0 in
        sym (get_or_append_left (block_cells s b) (stream s more) Low x (omega arith))
        ∙ ap (λ c. at c x) (sym (stream-cons s b more g.0))

    -- the next cell differs from its last
    pub own-closing : p + block_len < j
        → at (stream s (b ∷ more)) block_len ≡ at (stream s (b ∷ more)) (block_len - 1) → ⊥
    own-closing l q =
        let m = block_len_24576 in
        let w = within in
        let n = ap length (sym rest) in
        let o = length-drop p (stream s bs) in
        let f : block_len ≡ suc (block_len - 1) = omega arith in
        begins stream_marks s (stream s (b ∷ more)) (stream-kept s (b ∷ more) g) (block_len - 1) (omega arith)
        (omega arith)
        (ap (at (stream s (b ∷ more))) (sym f) ∙ q)

    -- a block whose cells stand here is closed, where neither the last of them nor the next one was changed
    pub own-stands : (d : List (List Bool)) → IsBlock d → take block_len (drop (p - i) e) ≡ block_cells s d
        → at (drop (p - i) e) (block_len - 1) ≡ at (stream s (b ∷ more)) (block_len - 1)
        → (p + block_len < j → at (drop (p - i) e) block_len ≡ at (stream s (b ∷ more)) block_len)
        → StandsClosed d s (drop (p - i) e)
    own-stands d k c last next =
        record {
          block = k;
          cells = c;
          closed = record {
            turns = λ o q.
                let l = length-drop (p - i) e in
                let m = same in
                own-closing (omega arith) (sym (next (omega arith)) ∙ q ∙ last);
          };
        }

    -- so is the block itself where none of these was
    pub own-stays : ((x : ℕ) → x ≤ block_len → p + x < j → at (drop (p - i) e) x ≡ at (stream s (b ∷ more)) x)
        → StandsClosed b s (drop (p - i) e)
    own-stays u =
        let m = block_len_24576 in
        let n = length-block_cells s b g.0 in
        let l = length-take-le block_len (drop (p - i) e) (let l = length-drop (p - i) e in let m = same in
        omega arith) in
        own-stands b g.0
        (ext_get_or Low (take block_len (drop (p - i) e)) (block_cells s b) (l ∙ sym n)
        (λ x o. get_or-take block_len (drop (p - i) e) x Low (omega arith) ∙ u x (omega arith) (omega arith)
        ∙ sym (own-cell-at x (omega arith))))
        (u (block_len - 1) (omega arith) (omega arith)) (λ o. u block_len (omega arith) o)

    -- it isn't given where one of these was
    pub own-gone : (x : ℕ) → x ≤ block_len → p + x < j → at (drop (p - i) e) x ≡ other (at (stream s (b ∷ more)) x)
        → StandsClosed b s (drop (p - i) e) → ⊥
    own-gone x l r c z = go (cases_lt x block_len)
      where
        kept : (y : ℕ) → y < block_len → at (drop (p - i) e) y ≡ at (stream s (b ∷ more)) y
        kept y o = sym (get_or-take block_len (drop (p - i) e) y Low o) ∙ ap (λ c. at c y) z.cells ∙ own-cell-at y o

        go : (x < block_len) ⊎ (block_len ≤ x) → ⊥
        go (inl o) = other_ne (at (stream s (b ∷ more)) x) (sym c ∙ kept x o)
        go (inr o) =
            let m = block_len_24576 in
            let f : x ≡ block_len = omega arith in
            let n = length-drop (p - i) e in
            let k = same in
            z.closed.turns (omega arith)
            (ap (at (drop (p - i) e)) (sym f) ∙ c ∙ ap (λ k. other (at (stream s (b ∷ more)) k)) f
            ∙ other-of (at (stream s (b ∷ more)) block_len) (at (stream s (b ∷ more)) (block_len - 1))
            (own-closing (omega arith))
            ∙ sym (kept (block_len - 1) (omega arith)))

    pub own-near : (n : ℕ) (d : List (List Bool)) (t : Level) → apart (take (j - i) (drop i (stream s bs))) e ≤ n
        → StandsClosed d t (drop (p - i) e)
        → apart (block_cells s b) (block_cells t d) ≤ n
    own-near n d t a z =
        let m = near n p d t a low high z in
        let w = ap (λ c. apart c (block_cells t d)) own-window in
        omega arith

    -- what stands here is it, or differs from it in two cells between two slots
    pub own-found : apart (take (j - i) (drop i (stream s bs))) e ≤ 2 → (d : List (List Bool)) (t : Level)
        → StandsClosed d t (drop (p - i) e)
        → (t ≡ s) × ((b ≡ d) ⊎ PairApart (block_cells s b) (block_cells t d))
    own-found a d t z = own-place s t b d g.0 z.block (own-near 2 d t a z)
