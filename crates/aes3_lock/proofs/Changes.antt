-- The blocks of a piece of a lawful stream of which up to three cells are changed.
use Rattle.std.proofs.Common.{◌≡◌, ◌≢◌, ℕ, suc, ◌+◌, ◌-◌, ◌<◌, ◌≤◌, ◌⊎◌, inl, inr, List, [], ◌∷◌, Bool, refl, length}
use Rattle.std.proofs.Common.{take, drop, ap, ap₂, ◌∙◌, sym, subst, arith, length-drop, length-take, length-take-le}
use Rattle.std.proofs.Common.{get_or-take, get_or-drop, ext_get_or}
use Rattle.std.proofs.lemmas.Bool.{cases_eq, cases_lt}
use Rattle.aes3_level.specs.declared.level.Level.{Level}
use Rattle.aes3_level.specs.declared.level.Level.TheVariants.{Low}
use Rattle.aes3_level.specs.Cells.{other}
use Rattle.aes3_slot.specs.Rules.{at}
use Rattle.aes3_frame.specs.Blocks.{block_len, block_cells, stream}
use Rattle.aes3_frame.proofs.FileLaws.{EachBlock, each-block}
use Rattle.aes3_frame.proofs.CellLaws.{length-block_cells, block_len_24576}
use Rattle.aes3_lock.specs.Damage.{changed, apart, exchanged, places_apart}
use Rattle.aes3_lock.specs.Remains.{left_of, after_changes}
use Rattle.aes3_lock.specs.Pieces.{IsPiece, given_within, given_blocks}
use Rattle.aes3_lock.specs.Reports.{reports_from, reports, wholes, blocks}
use Rattle.aes3_lock.specs.Standing.{StandsClosed}
use Rattle.aes3_lock.proofs.Apart.{apart-take, apart-drop, length-changed, at-changed, at-others, other-of}
use Rattle.aes3_lock.proofs.Damaged.{blocks-places, short-none, no-other, own-near, own-cell-at, own-closing}
use Rattle.aes3_lock.proofs.Damaged.{own-stands, own-stays}
use Rattle.aes3_lock.proofs.OtherLevel.{other-level}
use Rattle.aes3_lock.proofs.Balance.{even-apart}
use Rattle.aes3_lock.proofs.Exchanged.{exchanged-block, exchanged-cells}
use Rattle.aes3_lock.proofs.Damaged.{line-cell}
use Rattle.aes3_lock.proofs.PiecePlaces.{gather-given}
use Rattle.aes3_lock.proofs.OwnPlace.{PairApart, pair-cells, blocks-pair, equal-blocks}
use Rattle.aes3_lock.proofs.PlaceBlocks.{block_here, here-none, here-some}
use Rattle.aes3_lock.proofs.PieceBounds.{length-piece}
use Rattle.aes3_lock.proofs.PlacesApart.{Has, IsPair, places-has, has-places, places-none, places-two, pair-left}
use Rattle.aes3_lock.proofs.PlacesApart.{none-left, pair-or, length-places}
use Rattle.aes3_slot.proofs.Distance.{equal-or}

module _ (s : Level) (bs : List (List (List Bool))) (h : EachBlock bs) (i j : ℕ) (order : i ≤ j)
    (within : j ≤ length (stream s bs))
    (e : List Level) (same : length e ≡ j - i) (three : apart (take (j - i) (drop i (stream s bs))) e ≤ 3) where
  abbrev piece : List Level
  piece = take (j - i) (drop i (stream s bs))

  module _ (p : ℕ) (b : List (List Bool)) (more : List (List (List Bool))) (low : i ≤ p) (high : p + block_len ≤ j)
      (g : EachBlock (b ∷ more))
      (rest : drop p (stream s bs) ≡ stream s (b ∷ more)) where
    abbrev was : List Level
    was = take (suc block_len) (drop (p - i) (take (j - i) (drop i (stream s bs))))

    abbrev now : List Level
    now = take (suc block_len) (drop (p - i) e)

    abbrev places : List ℕ
    places = places_apart 0 was now

    lengths : length was ≡ length now
    lengths =
        let a = length-take (suc block_len) (drop (p - i) (take (j - i) (drop i (stream s bs)))) in
        let b = length-take (suc block_len) (drop (p - i) e) in
        let c = length-drop (p - i) (take (j - i) (drop i (stream s bs))) in
        let d = length-drop (p - i) e in
        let n = length-piece i j (stream s bs) order within in
        let m = same in
        omega arith

    seen : (z : ℕ) → z ≤ block_len → p + z < j → z < length was
    seen z l o =
        let a = length-take (suc block_len) (drop (p - i) (take (j - i) (drop i (stream s bs)))) in
        let c = length-drop (p - i) (take (j - i) (drop i (stream s bs))) in
        let n = length-piece i j (stream s bs) order within in
        let v = low in
        omega arith

    unseen : (z : ℕ) → z < length was → (z ≤ block_len) × (p + z < j)
    unseen z o =
        let a = length-take (suc block_len) (drop (p - i) (take (j - i) (drop i (stream s bs)))) in
        let c = length-drop (p - i) (take (j - i) (drop i (stream s bs))) in
        let n = length-piece i j (stream s bs) order within in
        let v = low in
        (omega arith, omega arith)

    was-at : (z : ℕ) → z ≤ block_len → p + z < j → at was z ≡ at (stream s (b ∷ more)) z
    was-at z l o =
        get_or-take (suc block_len) (drop (p - i) (take (j - i) (drop i (stream s bs)))) z Low (omega arith)
        ∙ get_or-drop (p - i) (take (j - i) (drop i (stream s bs))) z Low ∙ line-cell s bs (b ∷ more) i j p z low o rest

    now-at : (z : ℕ) → z ≤ block_len → at now z ≡ at (drop (p - i) e) z
    now-at z l = get_or-take (suc block_len) (drop (p - i) e) z Low (omega arith)

    -- a cell that isn't among the changed ones is as it was
    kept : (z : ℕ) → z ≤ block_len → p + z < j → (Has z places → ⊥) → at (drop (p - i) e) z ≡ at (stream s (b ∷ more)) z
    kept z l o n = go (equal-or (at was z) (at now z))
      where
        go : (at was z ≡ at now z) ⊎ (at was z ≡ at now z → ⊥) → at (drop (p - i) e) z ≡ at (stream s (b ∷ more)) z
        go (inl q) = sym (now-at z l) ∙ sym q ∙ was-at z l o
        go (inr q) =
            absurd (n (let r = places-has 0 z was now (seen z l o) lengths q in
            let y : 0 + z ≡ z = omega arith in rw y at r))

    turned : (z : ℕ) → Has z places → (z ≤ block_len) × (p + z < j)
        × (at (drop (p - i) e) z ≡ other (at (stream s (b ∷ more)) z))
    turned z m =
        let r = has-places 0 z was now m in
        let y : r.0 ≡ z = omega arith in
        let k : at was z ≢ at now z = subst (λ v. at was v ≢ at now v) y r.3 in
        let o = unseen z (omega arith) in
        (o.0, o.1, sym (now-at z o.0) ∙ sym (other-of (at was z) (at now z) k) ∙ ap other (was-at z o.0 o.1))

    -- a pair of changed cells between two slots leaves the block with the bits of these inverted
    exchange : (r : IsPair places) → StandsClosed (exchanged r.cell b) s (drop (p - i) e)
    exchange r =
        let m = block_len_24576 in
        let o = r.between.odd in
        let u = r.between.low in
        let v = r.between.high in
        let x = turned r.cell first in
        let lo = low in
        let hi = high in
        own-stands s bs h i j order within e same p b more low high g rest (exchanged r.cell b)
        (exchanged-block r.cell b g.0)
        cells
        (kept (block_len - 1) (omega arith) (omega arith)
        (others (block_len - 1) (λ q. omega arith) (λ q. omega arith)))
        (λ k. kept block_len (omega arith) k (others block_len (λ q. omega arith) (λ q. omega arith)))
      where
        first : Has r.cell places
        first = subst (Has r.cell) (sym r.is) (inl refl)

        second : Has (suc r.cell) places
        second = subst (Has (suc r.cell)) (sym r.is) (inr (inl refl))

        others : (z : ℕ) → (z ≡ r.cell → ⊥) → (z ≡ suc r.cell → ⊥) → Has z places → ⊥
        others z a c q = go (subst (Has z) r.is q)
          where
            go : (z ≡ r.cell) ⊎ ((z ≡ suc r.cell) ⊎ ⊥) → ⊥
            go (inl m) = a m
            go (inr (inl m)) = c m
            go (inr (inr m)) = m

        place : (y : ℕ) → y < block_len → (y ≡ r.cell) ⊎ (y ≡ r.cell → ⊥) → (y ≡ suc r.cell) ⊎ (y ≡ suc r.cell → ⊥)
            → at (drop (p - i) e) y ≡ at (changed (suc r.cell) (changed r.cell (block_cells s b))) y
        place y l (inl q) c =
            let n = length-block_cells s b g.0 in
            (turned y (subst (λ v. Has v places) (sym q) first)).2
            ∙ ap other (sym (own-cell-at s bs h i j order within e same p b more low high g rest y l))
            ∙ sym (ap (at (changed (suc r.cell) (changed r.cell (block_cells s b)))) q
            ∙ at-others (suc r.cell) (changed r.cell (block_cells s b)) r.cell (λ z. omega arith)
            ∙ at-changed r.cell (block_cells s b) (omega arith) ∙ ap (λ y. other (at (block_cells s b) y)) (sym q))
        place y l (inr a) (inl q) =
            let n = length-block_cells s b g.0 in
            let f = length-changed r.cell (block_cells s b) in
            (turned y (subst (λ v. Has v places) (sym q) second)).2
            ∙ ap other (sym (own-cell-at s bs h i j order within e same p b more low high g rest y l))
            ∙ sym (ap (at (changed (suc r.cell) (changed r.cell (block_cells s b)))) q
            ∙ at-changed (suc r.cell) (changed r.cell (block_cells s b)) (omega arith)
            ∙ ap other (at-others r.cell (block_cells s b) (suc r.cell) (λ z. omega arith))
            ∙ ap (λ y. other (at (block_cells s b) y)) (sym q))
        place y l (inr a) (inr c) =
            let hi = high in
            kept y (omega arith) (omega arith) (others y a c)
            ∙ sym (own-cell-at s bs h i j order within e same p b more low high g rest y l)
            ∙ sym (at-others (suc r.cell) (changed r.cell (block_cells s b)) y c
            ∙ at-others r.cell (block_cells s b) y a)

        cells : take block_len (drop (p - i) e) ≡ block_cells s (exchanged r.cell b)
        cells =
            let n = length-block_cells s b g.0 in
            let f = length-changed r.cell (block_cells s b) in
            let k = length-changed (suc r.cell) (changed r.cell (block_cells s b)) in
            let lo = low in
            let hi = high in
            let v = r.between.high in
            let x = turned r.cell first in
            let y : r.cell < block_len = (let m = block_len_24576 in let a = x.0 in omega arith) in
            let z = length-take-le block_len (drop (p - i) e) (let y = length-drop (p - i) e in let m = same in
            omega arith) in
            ext_get_or Low (take block_len (drop (p - i) e)) (changed (suc r.cell) (changed r.cell (block_cells s b)))
            (z ∙ sym n ∙ sym f ∙ sym k)
            (λ y o. get_or-take block_len (drop (p - i) e) y Low (omega arith)
            ∙ place y (omega arith) (cases_eq y r.cell) (cases_eq y (suc r.cell)))
            ∙ sym (exchanged-cells s r.cell b g.0 y r.between)

    -- what stands here closed has the next cell as it was
    closing : (f : List (List Bool)) (t : Level) → StandsClosed f t (drop (p - i) e)
        → at (drop (p - i) e) (block_len - 1) ≡ at (stream s (b ∷ more)) (block_len - 1)
        → p + block_len < j → at (drop (p - i) e) block_len ≡ at (stream s (b ∷ more)) block_len
    closing f t z q o =
        let n = own-closing s bs h i j order within e same p b more low high g rest o in
        let l = length-drop (p - i) e in
        let m = same in
        let lo = low in
        let k = z.closed.turns (omega arith) in
        sym (other-of (at (drop (p - i) e) (block_len - 1)) (at (drop (p - i) e) block_len) (λ y. k (sym y)))
        ∙ ap other q ∙ other-of (at (stream s (b ∷ more)) (block_len - 1)) (at (stream s (b ∷ more)) block_len)
        (λ y. n (sym y))

    none : (places ≡ [] → ⊥) → (IsPair places → ⊥) → (f : List (List Bool)) (t : Level)
        → StandsClosed f t (drop (p - i) e) → ⊥
    none never single f t z = by (equal-or t s) (equal-blocks b f)
      where
        cell : (x : ℕ) → x < block_len → at (drop (p - i) e) x ≡ at (block_cells t f) x
        cell x o = sym (get_or-take block_len (drop (p - i) e) x Low o) ∙ ap (λ c. at c x) z.cells

        close : apart (block_cells s b) (block_cells t f) ≤ 3
        close = own-near s bs h i j order within e same p b more low high g rest 3 f t three z

        -- all cells are as they were
        as-was : b ≡ f → t ≡ s → ⊥
        as-was q u = never (places-none 0 was now lengths (λ y o.
            let v = unseen y o in
            was-at y v.0 v.1 ∙ sym (one y v.0 v.1 (cases_lt y block_len)) ∙ sym (now-at y v.0)))
          where
            old : (y : ℕ) → y < block_len → at (drop (p - i) e) y ≡ at (stream s (b ∷ more)) y
            old y o =
                cell y o ∙ ap₂ (λ t f. at (block_cells t f) y) u (sym q)
                ∙ own-cell-at s bs h i j order within e same p b more low high g rest y o

            one : (y : ℕ) → y ≤ block_len → p + y < j → (y < block_len) ⊎ (block_len ≤ y)
                → at (drop (p - i) e) y ≡ at (stream s (b ∷ more)) y
            one y l o (inl a) = old y a
            one y l o (inr a) =
                let m = block_len_24576 in
                let k : y ≡ block_len = omega arith in
                ap (at (drop (p - i) e)) k ∙ closing f t z (old (block_len - 1) (omega arith)) (omega arith)
                ∙ ap (at (stream s (b ∷ more))) (sym k)

        -- all but a pair
        but-pair : (b ≡ f → ⊥) → t ≡ s → ⊥
        but-pair n u = single (record { cell = r.place; is = pair; between = r.between })
          where
            r : PairApart (block_cells s b) (block_cells s f)
            r = blocks-pair s b f g.0 z.block n

            two : apart (block_cells s b) (block_cells s f) ≤ 2
            two =
                let a = even-apart s s b f g.0 z.block in
                let c = close in
                let d = ap (λ t. apart (block_cells s b) (block_cells t f)) u in
                omega arith

            old : (y : ℕ) → y < block_len → (y ≡ r.place → ⊥) → (y ≡ suc r.place → ⊥)
                → at (drop (p - i) e) y ≡ at (stream s (b ∷ more)) y
            old y o a c =
                cell y o ∙ ap (λ t. at (block_cells t f) y) u
                ∙ ap (λ c. at c y) (sym (pair-cells s b f g.0 z.block two r))
                ∙ at-others (suc r.place) (changed r.place (block_cells s b)) y c
                ∙ at-others r.place (block_cells s b) y a
                ∙ own-cell-at s bs h i j order within e same p b more low high g rest y o

            one : (y : ℕ) → y ≤ block_len → p + y < j → (y ≡ r.place → ⊥) → (y ≡ suc r.place → ⊥) → (y < block_len)
                ⊎ (block_len ≤ y)
                → at (drop (p - i) e) y ≡ at (stream s (b ∷ more)) y
            one y l o a c (inl k) = old y k a c
            one y l o a c (inr k) =
                let m = block_len_24576 in
                let w = r.within in
                let v = r.between.high in
                let n = length-block_cells s b g.0 in
                let q : y ≡ block_len = omega arith in
                ap (at (drop (p - i) e)) q
                ∙ closing f t z (old (block_len - 1) (omega arith) (λ d. omega arith) (λ d. omega arith)) (omega arith)
                ∙ ap (at (stream s (b ∷ more))) (sym q)

            pair : places ≡ r.place ∷ suc r.place ∷ []
            pair =
                let w = r.within in
                let n = length-block_cells s b g.0 in
                let hi = high in
                let k : 0 + r.place ≡ r.place = omega arith in
                let f : 0 + suc r.place ≡ suc r.place = omega arith in
                places-two 0 r.place (suc r.place) was now lengths (omega arith)
                (seen (suc r.place) (omega arith) (omega arith))
                (λ q. r.one (first r.place (omega arith) q)) (λ q. r.two (first (suc r.place) (omega arith) q))
                (λ y o a c. let v = unseen y o in was-at y v.0 v.1 ∙ sym (one y v.0 v.1 a c (cases_lt y block_len))
                ∙ sym (now-at y v.0))
                ∙ ap₂ (λ m n. m ∷ n ∷ []) k f
              where
                first : (y : ℕ) → y < block_len → at was y ≡ at now y → at (block_cells s b) y ≡ at (block_cells s f) y
                first y o q =
                    let hi = high in
                    own-cell-at s bs h i j order within e same p b more low high g rest y o
                    ∙ sym (was-at y (omega arith) (omega arith)) ∙ q
                    ∙ now-at y (omega arith) ∙ cell y o ∙ ap (λ t. at (block_cells t f) y) u

        by : (t ≡ s) ⊎ (t ≡ s → ⊥) → (b ≡ f) ⊎ (b ≡ f → ⊥) → ⊥
        by (inr n) q =
            let y : other s ≡ t = other-of s t (λ e. n (sym e)) in
            let a = other-level s b f g.0 z.block in
            let c = close in
            let d = ap (λ u. apart (block_cells s b) (block_cells u f)) y in
            omega arith
        by (inl u) (inl q) = as-was q u
        by (inl u) (inr q) = but-pair q u

    few : length places ≤ 3
    few =
        let a = length-places 0 was now in
        let b = apart-take (suc block_len) (drop (p - i) (take (j - i) (drop i (stream s bs)))) (drop (p - i) e) in
        let c = apart-drop (p - i) (take (j - i) (drop i (stream s bs))) e in
        let t = three in
        omega arith

    pub own-left : block_here 0 (drop (p - i) e) ≡ after_changes i (take (j - i) (drop i (stream s bs))) e p b
    own-left = go (pair-or places).0 (pair-or places).1
      where
        go : (places ≡ []) ⊎ (places ≡ [] → ⊥) → IsPair places ⊎ (IsPair places → ⊥)
            → block_here 0 (drop (p - i) e) ≡ left_of places b
        go (inl q) c =
            here-some 0 b s (drop (p - i) e)
            (own-stays s bs h i j order within e same p b more low high g rest
            (λ x l o. kept x l o (λ m. subst (Has x) q m)))
            ∙ ap (λ xs. left_of xs b) (sym q)
        go (inr n) (inl r) = here-some 0 (exchanged r.cell b) s (drop (p - i) e) (exchange r)
            ∙ sym (pair-left places b r)
        go (inr n) (inr m) = here-none 0 (drop (p - i) e) (none n m) ∙ sym (none-left places b n m few)

  pub changes-blocks : wholes (reports_from 0 e) ≡ given_within
      (after_changes i (take (j - i) (drop i (stream s bs))) e) 0 i j bs
  changes-blocks =
      blocks-places s bs h i j order within e same
      ∙ gather-given s bs h i j order within (λ p. block_here 0 (drop (p - i) e))
      (after_changes i (take (j - i) (drop i (stream s bs))) e)
      (λ p l r o. here-none 0 (drop (p - i) e) (no-other s bs h i j order within e same p three l r o))
      (short-none s bs h i j order within e same) (λ p b more l r g f. own-left p b more l r g f)

pub blocks-few-changed : (s : Level) (bs : List (List (List Bool))) (i j : ℕ) (c e : List Level) → IsPiece s bs i j c
    → length e ≡ length c → apart c e ≤ 3
    → blocks e ≡ given_blocks (after_changes i c e) bs i j
unfolding blocks reports given_blocks
blocks-few-changed s bs i j c e p l a =
    let n = ap length p.is ∙ length-piece i j (stream s bs) p.order p.within in
    changes-blocks s bs (each-block bs p.blocks) i j p.order p.within e (l ∙ n) (subst (λ x. apart x e ≤ 3) p.is a)
    ∙ ap (λ x. given_within (after_changes i x e) 0 i j bs) (sym p.is)
