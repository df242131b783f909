-- A piece of a lawful stream of which up to three cells are lost: what stands in it stood in the piece.
use Rattle.std.proofs.Common.{◌≡◌, ℕ, zero, suc, ◌+◌, ◌-◌, ◌*◌, ◌%◌, ◌<◌, ◌≤◌, ◌⊎◌, inl, inr, List, [], ◌∷◌, Bool}
use Rattle.std.proofs.Common.{map, refl, length, take, drop, get_or, ap, ◌∙◌, sym, subst, arith, length-take-le}
use Rattle.std.proofs.Common.{length-drop, get_or-take, get_or-drop, ext_get_or, lit<}
use Rattle.std.proofs.lemmas.Bool.{cases_lt}
use Rattle.std.proofs.lemmas.List.Elements.{All-map}
use Rattle.std.specs.List.{All, Contains}
use Rattle.aes3_level.specs.declared.level.Level.{Level}
use Rattle.aes3_level.specs.declared.level.Level.TheVariants.{Low, High}
use Rattle.aes3_level.specs.Cells.{other}
use Rattle.aes3_level.proofs.Runs.{other_ne}
use Rattle.aes3_slot.specs.declared.mark.Mark.TheVariants.{Z}
use Rattle.aes3_slot.specs.Rules.{at, shape}
use Rattle.aes3_slot.proofs.Distance.{stands-from}
use Rattle.aes3_frame.specs.Blocks.{mark_at, block_len, block_cells, stream}
use Rattle.aes3_frame.proofs.FileLaws.{each-block}
use Rattle.aes3_frame.proofs.CellLaws.{length-block_cells, block_len_24576}
use Rattle.aes3_lock.specs.Damage.{without}
use Rattle.aes3_lock.specs.LossLaws.{without_each, StoodLater}
use Rattle.aes3_lock.specs.Laws.{PlacedBlock}
use Rattle.aes3_lock.specs.Pieces.{IsPiece}
use Rattle.aes3_lock.specs.Reports.{blocks}
use Rattle.aes3_lock.specs.Standing.{StandsClosed}
use Rattle.aes3_lock.proofs.AllStanding.{closed-room, blocks-all_standing}
use Rattle.aes3_lock.proofs.Damaged.{streamed}
use Rattle.aes3_lock.proofs.DamageLaws.{length-of}
use Rattle.aes3_lock.proofs.Distances.{block-level, block-mark}
use Rattle.aes3_lock.proofs.LawfulPieces.{stream-aligned}
use Rattle.aes3_lock.proofs.Lost.{without-before, without-behind}
use Rattle.aes3_lock.proofs.StandingBlocks.{first-mark}
use Rattle.aes3_frame.proofs.BlockLemmas.{block_subframes_384}
use Rattle.aes3_lock.proofs.InsertedCells.{first-run, run-cell}

-- the cells that are left are those of the list, each at most n places later, and none back
pub record IsShift (n : ℕ) (c e : List Level) (f : ℕ → ℕ) : Type 0 where
  pub rises : (x y : ℕ) → x ≤ y → f x ≤ f y
  pub few : (x : ℕ) → f x ≤ n
  pub within : (x : ℕ) → x < length e → x + f x < length c
  pub cell : (x : ℕ) → x < length e → at e x ≡ at c (x + f x)

-- behind a lost cell, one place
without-shorter : (k : ℕ) (c : List Level) → length (without k c) ≤ length c
without-shorter k [] = omega arith
without-shorter zero (x ∷ c) = omega arith
without-shorter (suc k) (x ∷ c) = let a = without-shorter k c in omega arith

without-reach : (k : ℕ) (c : List Level) (y : ℕ) → k ≤ y → y < length (without k c) → suc y < length c
without-reach k [] y l o = absurd (omega arith)
without-reach zero (x ∷ c) y l o = omega arith
without-reach (suc k) (x ∷ c) zero l o = absurd (omega arith)
without-reach (suc k) (x ∷ c) (suc y) l o = let a = without-reach k c y (omega arith) (omega arith) in omega arith

passed : ℕ → ℕ → ℕ
passed zero y = 1
passed (suc k) zero = 0
passed (suc k) (suc y) = passed k y

passed-before : (k y : ℕ) → y < k → passed k y ≡ 0
unfolding passed
passed-before zero y l = absurd (omega arith)
passed-before (suc k) zero l = refl
passed-before (suc k) (suc y) l = passed-before k y (omega arith)

passed-behind : (k y : ℕ) → k ≤ y → passed k y ≡ 1
unfolding passed
passed-behind zero y l = refl
passed-behind (suc k) zero l = absurd (omega arith)
passed-behind (suc k) (suc y) l = passed-behind k y (omega arith)

one-shift : (k : ℕ) (c : List Level) → IsShift 1 c (without k c) (passed k)
one-shift k c = record { rises = rises; few = few; within = within; cell = cell }
  where
    rises : (x y : ℕ) → x ≤ y → passed k x ≤ passed k y
    rises x y l = go (cases_lt x k) (cases_lt y k)
      where
        go : (x < k) ⊎ (k ≤ x) → (y < k) ⊎ (k ≤ y) → passed k x ≤ passed k y
        go (inl a) b = let e = passed-before k x a in omega arith
        go (inr a) (inl b) = absurd (omega arith)
        go (inr a) (inr b) = let e = passed-behind k x a in let f = passed-behind k y b in omega arith

    few : (x : ℕ) → passed k x ≤ 1
    few x = go (cases_lt x k)
      where
        go : (x < k) ⊎ (k ≤ x) → passed k x ≤ 1
        go (inl a) = let e = passed-before k x a in omega arith
        go (inr a) = let e = passed-behind k x a in omega arith

    within : (x : ℕ) → x < length (without k c) → x + passed k x < length c
    within x l = go (cases_lt x k)
      where
        go : (x < k) ⊎ (k ≤ x) → x + passed k x < length c
        go (inl a) = let e = passed-before k x a in let s = without-shorter k c in omega arith
        go (inr a) = let e = passed-behind k x a in let s = without-reach k c x a l in omega arith

    cell : (x : ℕ) → x < length (without k c) → at (without k c) x ≡ at c (x + passed k x)
    cell x l = go (cases_lt x k)
      where
        go : (x < k) ⊎ (k ≤ x) → at (without k c) x ≡ at c (x + passed k x)
        go (inl a) = let e = passed-before k x a in let f : x ≡ x + passed k x = omega arith in
            without-before k c x a ∙ ap (at c) f
        go (inr a) = let e = passed-behind k x a in let f : suc x ≡ x + passed k x = omega arith in
            without-behind k c x a ∙ ap (at c) f

-- one loss behind the other
pub each-shift : (ks : List ℕ) (c : List Level) → (f : ℕ → ℕ) × IsShift (length ks) c (without_each ks c) f
each-shift [] c = (
  λ x. 0,
  record {
    rises = λ x y l. omega arith;
    few = λ x. omega arith;
    within = λ x l. omega arith;
    cell = λ x l. let f : x ≡ x + 0 = omega arith in ap (at c) f;
  },
)
each-shift (k ∷ ks) c = joined (each-shift ks (without k c))
  where
    joined : ((f : ℕ → ℕ) × IsShift (length ks) (without k c) (without_each ks (without k c)) f)
        → (f : ℕ → ℕ) × IsShift (suc (length ks)) c (without_each ks (without k c)) f
    joined (f, h) = (
      λ x. f x + passed k (x + f x),
      record {
        rises = λ x y l.
            let a = h.rises x y l in
            let b = (one-shift k c).rises (x + f x) (y + f y) (omega arith) in
            omega arith;
        few = λ x. let a = h.few x in let b = (one-shift k c).few (x + f x) in omega arith;
        within = λ x l.
            let a = h.within x l in
            let b = (one-shift k c).within (x + f x) a in
            omega arith;
        cell = λ x l.
            let e : x + f x + passed k (x + f x) ≡ x + (f x + passed k (x + f x)) = omega arith in
            h.cell x l ∙ (one-shift k c).cell (x + f x) (h.within x l) ∙ ap (at c) e;
      },
    )

-- cell 3 of Z is none of its first run
behind-run : (u : Level) → shape Z 3 u ≡ u
behind-run Low = refl
behind-run High = refl

module _ (s : Level) (bs : List (List (List Bool))) (i j : ℕ) (c : List Level) (piece : IsPiece s bs i j c) (n : ℕ)
    (three : n ≤ 3)
    (e : List Level) (f : ℕ → ℕ) (h : IsShift n c e f) (q : ℕ) (d : List (List Bool)) (t : Level)
    (z : StandsClosed d t (drop q e)) where
  reach : i + length c ≤ length (stream s bs)
  reach = let l = length-of s bs i j c piece in let w = piece.within in let o = piece.order in omega arith

  -- the first three cells of a subframe of the stream
  begun-run : (p k : ℕ) → p % 64 ≡ 0 → k < 3 → p < length (stream s bs) → at (stream s bs) (p + k) ≡ other s
  begun-run p k a l o = run-cell s bs (each-block bs piece.blocks) p k a o l

  inside : (x : ℕ) → x < 24576 → q + x < length e
  inside x l =
      let r = closed-room d t (drop q e) z in
      let o = length-drop q e in
      let m = block_len_24576 in
      omega arith

  cell : (x : ℕ) → x < 24576 → at (block_cells t d) x ≡ at (stream s bs) (i + (q + x + f (q + x)))
  cell x l =
      let m = block_len_24576 in
      ap (λ c. at c x) (sym z.cells) ∙ get_or-take block_len (drop q e) x Low (omega arith) ∙ get_or-drop q e x Low
      ∙ h.cell (q + x) (inside x l) ∙ streamed piece (q + x + f (q + x)) (h.within (q + x) (inside x l))

  last-cell : at (block_cells t d) 24575 ≡ t
  last-cell = let k = block_subframes_384 in block-level t d z.block 384 (omega arith)

  -- at most three cells are lost, so one of four preambles has no lost cell
  still : (m : ℕ) × (m < 4) × (f (q + 64 * m) ≡ f (q + (64 * m + 7)))
  still =
      let a = h.rises (q + 0) (q + 7) (omega arith) in
      let b = h.rises (q + 7) (q + 64) (omega arith) in
      let c = h.rises (q + 64) (q + 71) (omega arith) in
      let d = h.rises (q + 71) (q + 128) (omega arith) in
      let e = h.rises (q + 128) (q + 135) (omega arith) in
      let g = h.rises (q + 135) (q + 192) (omega arith) in
      let i = h.rises (q + 192) (q + 199) (omega arith) in
      let k = h.few (q + 199) in
      let l = three in
      go (cases_lt (f (q + 0)) (f (q + 7))) (cases_lt (f (q + 64)) (f (q + 71))) (cases_lt (f (q + 128)) (f (q + 135)))
      (cases_lt (f (q + 192)) (f (q + 199)))
      a b c d e g i k l
    where
      go : (f (q + 0) < f (q + 7)) ⊎ (f (q + 7) ≤ f (q + 0)) → (f (q + 64) < f (q + 71)) ⊎ (f (q + 71) ≤ f (q + 64))
          → (f (q + 128) < f (q + 135)) ⊎ (f (q + 135) ≤ f (q + 128)) → (f (q + 192) < f (q + 199))
          ⊎ (f (q + 199) ≤ f (q + 192))
          → f (q + 0) ≤ f (q + 7) → f (q + 7) ≤ f (q + 64) → f (q + 64) ≤ f (q + 71) → f (q + 71) ≤ f (q + 128)
          → f (q + 128) ≤ f (q + 135)
          → f (q + 135) ≤ f (q + 192) → f (q + 192) ≤ f (q + 199) → f (q + 199) ≤ n → n ≤ 3
          → (m : ℕ) × (m < 4) × (f (q + 64 * m) ≡ f (q + (64 * m + 7)))
      go (inr u) v w x a b c d e g i k l = (0, lit< tt, omega arith)
      go (inl u) (inr v) w x a b c d e g i k l = (1, lit< tt, omega arith)
      go (inl u) (inl v) (inr w) x a b c d e g i k l = (2, lit< tt, omega arith)
      go (inl u) (inl v) (inl w) (inr x) a b c d e g i k l = (3, lit< tt, omega arith)
      go (inl u) (inl v) (inl w) (inl x) a b c d e g i k l = absurd (omega arith)

  module _ (m : ℕ) (l : m < 4) (same : f (q + 64 * m) ≡ f (q + (64 * m + 7))) where
    -- the places from there on are those of the block, so many cells later
    aligned : ((i + (q + 64 * m + f (q + 64 * m))) % 64 ≡ 0) × (t ≡ s)
    aligned =
        let w = h.within (q + (64 * m + 7)) (inside (64 * m + 7) (omega arith)) in
        let r = reach in
        let v = same in
        let a = stream-aligned s bs (each-block bs piece.blocks) (mark_at m) t (i + (q + 64 * m + f (q + 64 * m)))
        (stands-from (mark_at m) t (stream s bs) (i + (q + 64 * m + f (q + 64 * m))) (omega arith)
        (λ k o.
        let v = same in
        let x = h.rises (q + 64 * m) (q + (64 * m + k)) (omega arith) in
        let y = h.rises (q + (64 * m + k)) (q + (64 * m + 7)) (omega arith) in
        let g : i + (q + 64 * m + f (q + 64 * m)) + k ≡ i + (q + (64 * m + k) + f (q + (64 * m + k))) = omega arith in
        ap (at (stream s bs)) g ∙ sym (cell (64 * m + k) (omega arith))
        ∙ block-mark t d z.block m k (omega arith) o)) in
        (a.0, a.2)

    place : (i + (q + f (q + 64 * m))) % 64 ≡ 0
    place = let a = aligned.0 in omega arith

    -- no cell is lost behind it, since the last cell of a block is none of the three behind it
    to-end : f (q + 24575) ≡ f (q + 64 * m)
    to-end = go (cases_lt (f (q + 64 * m)) (f (q + 24575)))
      where
        go : (f (q + 64 * m) < f (q + 24575)) ⊎ (f (q + 24575) ≤ f (q + 64 * m)) → f (q + 24575) ≡ f (q + 64 * m)
        go (inr o) = let a = h.rises (q + 64 * m) (q + 24575) (omega arith) in omega arith
        go (inl o) =
            let a = place in
            let w = h.within (q + 24575) (inside 24575 (lit< tt)) in
            let r = reach in
            let k = h.few (q + 24575) in
            let y = three in
            let g : i + (q + f (q + 64 * m)) + 24576 + (f (q + 24575) - f (q + 64 * m) - 1)
            ≡ i + (q + 24575 + f (q + 24575)) = omega arith in
            absurd
            (other_ne s
            (sym (begun-run (i + (q + f (q + 64 * m)) + 24576) (f (q + 24575) - f (q + 64 * m) - 1) (omega arith)
            (omega arith) (omega arith))
            ∙ ap (at (stream s bs)) g ∙ sym (cell 24575 (lit< tt)) ∙ last-cell ∙ aligned.1))

    -- nor before it, but among the first three cells, since cell 3 of Z differs from these
    from-third : f (q + 3) ≡ f (q + 64 * m)
    from-third = go (cases_lt (f (q + 3)) (f (q + 64 * m)))
      where
        go : (f (q + 3) < f (q + 64 * m)) ⊎ (f (q + 64 * m) ≤ f (q + 3)) → f (q + 3) ≡ f (q + 64 * m)
        go (inr o) = let a = h.rises (q + 3) (q + 24575) (omega arith) in let b = to-end in omega arith
        go (inl o) =
            let a = place in
            let w = h.within (q + 24575) (inside 24575 (lit< tt)) in
            let r = reach in
            let k = h.few (q + 64 * m) in
            let y = three in
            let g : i + (q + f (q + 64 * m)) + (3 + f (q + 3) - f (q + 64 * m)) ≡ i + (q + 3 + f (q + 3)) =
            omega arith in
            let b = to-end in
            absurd
            (other_ne s
            (sym (begun-run (i + (q + f (q + 64 * m))) (3 + f (q + 3) - f (q + 64 * m)) place (omega arith)
            (omega arith))
            ∙ ap (at (stream s bs)) g ∙ sym (cell 3 (lit< tt)) ∙ block-mark t d z.block 0 3 (lit< tt) (lit< tt)
            ∙ ap (λ m. shape m 3 t) first-mark ∙ behind-run t ∙ aligned.1))

    moved : (x : ℕ) → x < 24576 → at (block_cells t d) x ≡ at (stream s bs) (i + (q + f (q + 64 * m)) + x)
    moved x o = go (cases_lt x 3)
      where
        go : (x < 3) ⊎ (3 ≤ x) → at (block_cells t d) x ≡ at (stream s bs) (i + (q + f (q + 64 * m)) + x)
        go (inl k) =
            let w = h.within (q + 24575) (inside 24575 (lit< tt)) in
            let r = reach in
            let b = to-end in
            let g : x ≡ 64 * 0 + x = omega arith in
            ap (at (block_cells t d)) g ∙ block-mark t d z.block 0 x (lit< tt) (omega arith)
            ∙ first-run (mark_at 0) x t k ∙ ap other aligned.1
            ∙ sym (begun-run (i + (q + f (q + 64 * m))) x place k (omega arith))
        go (inr k) =
            let a = h.rises (q + 3) (q + x) (omega arith) in
            let b = h.rises (q + x) (q + 24575) (omega arith) in
            let u = from-third in
            let v = to-end in
            let g : i + (q + x + f (q + x)) ≡ i + (q + f (q + 64 * m)) + x = omega arith in
            cell x o ∙ ap (at (stream s bs)) g

    stood : StandsClosed d t (drop (q + f (q + 64 * m)) c)
    stood =
        let b = block_len_24576 in
        let w = h.within (q + 24575) (inside 24575 (lit< tt)) in
        let v = to-end in
        let u = length-take-le block_len (drop (q + f (q + 64 * m)) c) (let o = length-drop (q + f (q + 64 * m)) c in
        omega arith) in
        let o = length-block_cells t d z.block in
        record {
          block = z.block;
          cells = ext_get_or Low (take block_len (drop (q + f (q + 64 * m)) c)) (block_cells t d) (u ∙ sym o) (λ x k.
              let g : i + (q + f (q + 64 * m) + x) ≡ i + (q + f (q + 64 * m)) + x = omega arith in
              get_or-take block_len (drop (q + f (q + 64 * m)) c) x Low (omega arith)
              ∙ get_or-drop (q + f (q + 64 * m)) c x Low
              ∙ streamed piece (q + f (q + 64 * m) + x) (omega arith) ∙ ap (at (stream s bs)) g
              ∙ sym (moved x (omega arith)));
          closed = record {
            turns = λ k y.
                let b = block_len_24576 in
                let o = length-drop (q + f (q + 64 * m)) c in
                let r = reach in
                let a = place in
                let last : block_len - 1 ≡ 24575 = omega arith in
                let g : i + (q + f (q + 64 * m) + block_len) ≡ i + (q + f (q + 64 * m)) + 24576 + 0 = omega arith in
                let v : i + (q + f (q + 64 * m) + 24575) ≡ i + (q + f (q + 64 * m)) + 24575 = omega arith in
                other_ne s
                (sym (begun-run (i + (q + f (q + 64 * m)) + 24576) 0 (omega arith) (lit< tt) (omega arith))
                ∙ ap (at (stream s bs)) (sym g)
                ∙ sym (streamed piece (q + f (q + 64 * m) + block_len) (omega arith))
                ∙ sym (get_or-drop (q + f (q + 64 * m)) c block_len Low) ∙ y
                ∙ ap (at (drop (q + f (q + 64 * m)) c)) last ∙ get_or-drop (q + f (q + 64 * m)) c 24575 Low
                ∙ streamed piece (q + f (q + 64 * m) + 24575) (omega arith) ∙ ap (at (stream s bs)) v
                ∙ sym (moved 24575 (lit< tt)) ∙ last-cell ∙ aligned.1);
          };
        }

  pub stood-later : StoodLater n q d t c
  stood-later =
      record {
        later = f (q + 64 * still.0);
        few = h.few (q + 64 * still.0);
        stood = stood still.0 still.1 still.2;
      }

pub losses-stood : (s : Level) (bs : List (List (List Bool))) (i j : ℕ) (c : List Level) → IsPiece s bs i j c
    → (ks : List ℕ) → length ks ≤ 3
    → (q : ℕ) (d : List (List Bool)) (t : Level) → StandsClosed d t (drop q (without_each ks c))
    → StoodLater (length ks) q d t c
losses-stood s bs i j c p ks l q d t z =
    stood-later s bs i j c p (length ks) l (without_each ks c) (each-shift ks c).0 (each-shift ks c).1 q d t z

-- what stands closed is given
block-contained : (found : List PlacedBlock) (f : PlacedBlock) → Contains found f
    → Contains (map (λ f. f.block) found) f.block
block-contained [] f (k, l, e) = absurd (omega arith)
block-contained (g ∷ found) f (zero, l, e) = (0, omega arith, ap (λ f. f.block) e)
block-contained (g ∷ found) f (suc k, l, e) =
    let r = block-contained found f (k, omega arith, e) in let o = r.1 in (suc r.0, omega arith, r.2)

standing-given : (c : List Level) (q : ℕ) (d : List (List Bool)) (t : Level) → StandsClosed d t (drop q c)
    → Contains (blocks c) d
standing-given c q d t z =
    let r = blocks-all_standing c in
    subst (λ b. Contains b d) (sym r.2)
    (block-contained r.0 (record { place = q; level = t; block = d })
    (r.1.all (record { place = q; level = t; block = d }) z))

pub losses-given : (s : Level) (bs : List (List (List Bool))) (i j : ℕ) (c : List Level) → IsPiece s bs i j c
    → (ks : List ℕ) → length ks ≤ 3
    → All (Contains (blocks c)) (blocks (without_each ks c))
losses-given s bs i j c p ks l =
    let r = blocks-all_standing (without_each ks c) in
    subst (All (Contains (blocks c))) (sym r.2)
    (All-map (Contains (blocks c)) (λ f. f.block) r.0
    (λ k y o.
    let g = get_or r.0 k y in
    let u = losses-stood s bs i j c p ks l g.place g.block g.level (r.1.each k y o) in
    standing-given c (g.place + u.later) g.block g.level u.stood))
