-- The blocks of a lawful stream into which a cell is put.
use Rattle.std.proofs.Common.{◌≡◌, ℕ, suc, ◌+◌, ◌-◌, ◌%◌, ◌<◌, ◌≤◌, ◌⊎◌, inl, inr, List, [], ◌∷◌, ◌++◌, Bool, ◌&&◌}
use Rattle.std.proofs.Common.{◌||◌, ◌==◌, cond, leb, ltb, refl, length, take, drop, ap, ap₂, ◌∙◌, sym, subst, arith}
use Rattle.std.proofs.Common.{length-take-le, length-take, length-drop, get_or-take, get_or-drop, ext_get_or, le-leb}
use Rattle.std.proofs.Common.{le-ltb, lt-ltb, eq-eqb, ne_eqb}
use Rattle.std.specs.List.{All}
use Rattle.std.proofs.lemmas.Bool.{cases_eq, cases_lt, lt-leb}
use Rattle.aes3_level.specs.declared.level.Level.{Level}
use Rattle.aes3_level.specs.declared.level.Level.TheVariants.{Low}
use Rattle.aes3_level.specs.Cells.{other}
use Rattle.aes3_level.proofs.Runs.{other_ne}
use Rattle.aes3_slot.specs.Reading.{differs}
use Rattle.aes3_slot.specs.Rules.{at}
use Rattle.aes3_frame.specs.Blocks.{block_len, block_cells, stream, IsBlock}
use Rattle.aes3_frame.proofs.FileLaws.{EachBlock, each-block}
use Rattle.aes3_frame.proofs.CellLaws.{length-block_cells, block_len_24576}
use Rattle.aes3_lock.specs.Damage.{inserted}
use Rattle.aes3_lock.specs.Remains.{after_insertion}
use Rattle.aes3_lock.specs.Pieces.{given_within, given_blocks}
use Rattle.aes3_lock.specs.Reports.{reports_from, reports, wholes, blocks}
use Rattle.aes3_lock.specs.Standing.{StandsClosed}
use Rattle.aes3_lock.proofs.AllStanding.{closed-room}
use Rattle.aes3_lock.proofs.Apart.{differs-true, differs-false, other-of}
use Rattle.aes3_lock.proofs.Damaged.{own-stays}
use Rattle.aes3_lock.proofs.DamageLaws.{stands-local}
use Rattle.aes3_lock.proofs.Distances.{block-level}
use Rattle.aes3_lock.proofs.PiecePlaces.{gather-given, gather-same}
use Rattle.aes3_lock.proofs.LawfulPieces.{stream-length}
use Rattle.aes3_lock.proofs.Lost.{far}
use Rattle.aes3_lock.proofs.PlaceBlocks.{block_here, blocks-collect, here-none, here-some, here-any}
use Rattle.aes3_lock.proofs.Places.{gather, collect-gather, gather-add}
use Rattle.aes3_lock.proofs.InsertedCells.{length-inserted, inserted-before, inserted-there, inserted-behind}
use Rattle.aes3_lock.proofs.InsertedCells.{drop-inserted, run-cell, last-cell, in-middle, in-last, begun, in-run}
use Rattle.aes3_lock.proofs.InsertedCells.{of-run, as-stream}
use Rattle.aes3_frame.proofs.BlockLemmas.{block_subframes_384}
use Rattle.aes3_slot.proofs.Distance.{equal-or}

module _ (s : Level) (bs : List (List (List Bool))) (h : EachBlock bs) (k : ℕ) (x : Level)
    (within : k ≤ length (stream s bs)) where
  abbrev grown : List Level
  grown = inserted k x (stream s bs)

  grown-length : length grown ≡ suc (length (stream s bs))
  grown-length = length-inserted k x (stream s bs) within

  early-cell : (q y : ℕ) → q + y < k → at (drop q grown) y ≡ at (stream s bs) (q + y)
  early-cell q y l = get_or-drop q grown y Low ∙ inserted-before k x (stream s bs) (q + y) l within

  there-cell : (q y : ℕ) → q + y ≡ k → at (drop q grown) y ≡ x
  there-cell q y e = get_or-drop q grown y Low ∙ ap (at grown) e ∙ inserted-there k x (stream s bs) within

  late-cell : (q y : ℕ) → k ≤ q + y → at (drop q grown) (suc y) ≡ at (stream s bs) (q + y)
  late-cell q y l =
      let e : q + suc y ≡ suc (q + y) = omega arith in
      get_or-drop q grown (suc y) Low ∙ ap (at grown) e ∙ inserted-behind k x (stream s bs) (q + y) l within

  -- a block across the cell has it in the first run of its preamble, and is one of the stream
  across : (q : ℕ) → q ≤ k → k < q + block_len → (d : List (List Bool)) (t : Level) → StandsClosed d t (drop q grown)
      → (k - q ≤ 2) × (x ≡ other s) × (q % 24576 ≡ 1)
  across q l r d t z = go (cases_lt (k - q) 8) (cases_lt (k - q) 24512)
    where
      cell : (y : ℕ) → y < block_len → at (block_cells t d) y ≡ at (drop q grown) y
      cell y o = ap (λ c. at c y) (sym z.cells) ∙ get_or-take block_len (drop q grown) y Low o

      few : k - q < 24576
      few = let m = block_len_24576 in omega arith

      enough : q + 24575 ≤ length (stream s bs)
      enough =
          let m = block_len_24576 in
          let n = grown-length in
          let a = length-drop q grown in
          let b = closed-room d t (drop q grown) z in
          omega arith

      early : (y : ℕ) → y < k - q → at (block_cells t d) y ≡ at (stream s bs) (q + y)
      early y o = let m = block_len_24576 in let f = few in cell y (omega arith) ∙ early-cell q y (omega arith)

      there : at (block_cells t d) (k - q) ≡ x
      there = let m = block_len_24576 in let f = few in cell (k - q) (omega arith) ∙ there-cell q (k - q) (omega arith)

      late : (y : ℕ) → k - q ≤ y → suc y < 24576 → at (block_cells t d) (suc y) ≡ at (stream s bs) (q + y)
      late y o u = let m = block_len_24576 in cell (suc y) (omega arith) ∙ late-cell q y (omega arith)

      -- the level turns behind its last cell, and not behind the last of a subframe of the stream
      unclosed : 24512 ≤ k - q → ⊥
      unclosed a =
          let m = block_len_24576 in
          let j = block_subframes_384 in
          let n = grown-length in
          let b = length-drop q grown in
          let f = few in
          let u = enough in
          let v = stream-length s bs h in
          let w = in-last s bs h d t z.block q (k - q) x few enough early there late a in
          let w0 = w.0 in
          let last : at (block_cells t d) 24575 ≡ t = block-level t d z.block 384 (omega arith) in
          let e : block_len ≡ suc 24575 = omega arith in
          let i : block_len - 1 ≡ 24575 = omega arith in
          z.closed.turns (omega arith)
          (ap (at (drop q grown)) e ∙ late-cell q 24575 (omega arith)
          ∙ last-cell s bs h (q + 24575) (omega arith) (omega arith)
          ∙ sym (ap (at (drop q grown)) i ∙ sym (cell 24575 (omega arith)) ∙ last ∙ w.1))

      in-front : (a : k - q < 8) → (q % 24576 ≡ 1)
      in-front a = by (cases_eq ((q - 1) % 24576) 0)
        where
          m : block_len ≡ 24576
          m = block_len_24576

          begins : (q + 63) % 64 ≡ 0
          begins = begun s bs h d t z.block q (k - q) x few enough early there late a

          same : take block_len (drop (q - 1) (stream s bs)) ≡ block_cells t d
          same =
              let e = m in
              let u = enough in
              let b = begins in
              let n = length-block_cells t d z.block in
              let o = length-take-le block_len (drop (q - 1) (stream s bs))
              (let y = length-drop (q - 1) (stream s bs) in omega arith) in
              ext_get_or Low (take block_len (drop (q - 1) (stream s bs))) (block_cells t d) (o ∙ sym n)
              (λ y l. get_or-take block_len (drop (q - 1) (stream s bs)) y Low (omega arith)
              ∙ get_or-drop (q - 1) (stream s bs) y Low
              ∙ sym (as-stream s bs h d t z.block q (k - q) x few enough early there late a y (omega arith)))

          by : ((q - 1) % 24576 ≡ 0) ⊎ ((q - 1) % 24576 ≡ 0 → ⊥) → q % 24576 ≡ 1
          by (inl e) = let b = begins in omega arith
          by (inr e) =
              let b = begins in
              let f = m in
              let u = enough in
              absurd (far s bs h (q - 1) (omega arith) (omega arith) d t z.block same)

      go : (k - q < 8) ⊎ (8 ≤ k - q) → (k - q < 24512) ⊎ (24512 ≤ k - q) → (k - q ≤ 2) × (x ≡ other s) × (q % 24576 ≡ 1)
      go (inl a) b = (
        in-run s bs h d t z.block q (k - q) x few enough early there late a,
        of-run s bs h d t z.block q (k - q) x few enough early there late a,
        in-front a,
      )
      go (inr a) (inl b) = absurd (in-middle s bs h d t z.block q (k - q) x few enough early there late a b)
      go (inr a) (inr b) = absurd (unclosed b)

  -- what stands before it stands in the stream
  window-before : (q n : ℕ) → q + n ≤ k → take n (drop q grown) ≡ take n (drop q (stream s bs))
  window-before q n l =
      let w = within in
      let a = length-take-le n (drop q grown) (let y = length-drop q grown in let m = grown-length in omega arith) in
      let b = length-take-le n (drop q (stream s bs)) (let y = length-drop q (stream s bs) in omega arith) in
      ext_get_or Low (take n (drop q grown)) (take n (drop q (stream s bs))) (a ∙ sym b)
      (λ y o. get_or-take n (drop q grown) y Low (omega arith) ∙ early-cell q y (omega arith)
      ∙ sym (get_or-take n (drop q (stream s bs)) y Low (omega arith) ∙ get_or-drop q (stream s bs) y Low))

  -- what is given of a place of the stream: where its block ends before the cell that, and else what stands one behind
  from : ℕ → List (List (List Bool))
  from p = cond (leb (p + block_len) k) (block_here 0 (drop p grown)) (block_here 0 (drop (suc p) grown))

  from-early : (p : ℕ) → p + block_len ≤ k → from p ≡ block_here 0 (drop p grown)
  unfolding from
  from-early p l = let a = le-leb (p + block_len) k l in rw a refl

  from-late : (p : ℕ) → k < p + block_len → from p ≡ block_here 0 (drop (suc p) grown)
  unfolding from
  from-late p l = let a = lt-leb (p + block_len) k l in rw a refl

  grown-places : wholes (reports_from 0 grown) ≡ gather from 0 (length (stream s bs))
  grown-places =
      let w = within in
      let m = block_len_24576 in
      let u = suc k - block_len in
      let n = length (stream s bs) - u in
      let own = λ (q : ℕ). block_here 0 (drop q grown) in
      let a : length (stream s bs) ≡ suc k - block_len + (length (stream s bs) - (suc k - block_len)) = omega arith in
      let b : length grown ≡ suc k - block_len + suc (length (stream s bs) - (suc k - block_len)) =
      (let e = grown-length in omega arith) in
      blocks-collect 0 grown
      ∙ collect-gather block_here (λ q. block_here 0 (drop q grown)) 0 0 grown
      (λ q l. let z : 0 + q ≡ q = omega arith in here-any (0 + q) 0 (drop q grown)
      ∙ ap (λ m. block_here 0 (drop m grown)) (sym z))
      ∙ ap (gather (λ q. block_here 0 (drop q grown)) 0) b
      ∙ gather-add (λ q. block_here 0 (drop q grown)) 0 (suc k - block_len)
      (suc (length (stream s bs) - (suc k - block_len)))
      ∙ ap₂ (λ u v. u ++ v)
      (gather-same (λ q. block_here 0 (drop q grown)) from 0 0 (suc k - block_len)
      (λ q l. sym (from-early (0 + q) (omega arith))))
      (ap (λ z. z ++ gather (λ q. block_here 0 (drop q grown)) (suc (0 + (suc k - block_len)))
      (length (stream s bs) - (suc k - block_len))) none
      ∙ gather-same (λ q. block_here 0 (drop q grown)) from (suc (0 + (suc k - block_len))) (0 + (suc k - block_len))
      (length (stream s bs) - (suc k - block_len))
      (λ q l.
      let y : suc (0 + (suc k - block_len)) + q ≡ suc (0 + (suc k - block_len) + q) = omega arith in
      ap (λ m. block_here 0 (drop m grown)) y ∙ sym (from-late (0 + (suc k - block_len) + q) (omega arith))))
      ∙ sym (ap (gather from 0) a ∙ gather-add from 0 (suc k - block_len) (length (stream s bs) - (suc k - block_len)))
    where
      none : block_here 0 (drop (0 + (suc k - block_len)) grown) ≡ []
      none = here-none 0 (drop (0 + (suc k - block_len)) grown) (λ d t z.
          let m = block_len_24576 in
          let r = across (0 + (suc k - block_len)) (omega arith) (omega arith) d t z in
          let u = r.0 in
          let v = r.2 in
          omega arith)

  -- places at which none begins
  off : (p : ℕ) → 0 ≤ p → p + block_len ≤ length (stream s bs) → 0 < p % 24576 → from p ≡ []
  off p o l r = go (cases_lt k (p + block_len)) (cases_lt p k)
    where
      go : (k < p + block_len) ⊎ (p + block_len ≤ k) → (p < k) ⊎ (k ≤ p) → from p ≡ []
      go (inr a) b = from-early p a
          ∙ here-none 0 (drop p grown)
          (λ d t z. far s bs h p l r d t z.block (sym (window-before p block_len a) ∙ z.cells))
      go (inl a) (inr b) =
          from-late p a ∙ here-none 0 (drop (suc p) grown) (λ d t z.
          far s bs h p l r d t z.block
          (ap (take block_len) (sym (drop-inserted k x (stream s bs) p b within)) ∙ z.cells))
      go (inl a) (inl b) =
          from-late p a ∙ here-none 0 (drop (suc p) grown) (λ d t z.
          let c = across (suc p) (omega arith) (omega arith) d t z in
          let v = c.2 in
          omega arith)

  short : (p : ℕ) → 0 ≤ p → p < length (stream s bs) → length (stream s bs) < p + block_len → from p ≡ []
  short p o l r =
      let w = within in
      from-late p (omega arith) ∙ here-none 0 (drop (suc p) grown) (λ d t z.
      let n = grown-length in
      let a = closed-room d t (drop (suc p) grown) z in
      let b = length-drop (suc p) grown in
      omega arith)

  -- at the start of a block
  module _ (p : ℕ) (b : List (List Bool)) (more : List (List (List Bool))) (low : 0 ≤ p)
      (high : p + block_len ≤ length (stream s bs)) (g : EachBlock (b ∷ more))
      (rest : drop p (stream s bs) ≡ stream s (b ∷ more)) where
    start : p % 64 ≡ 0
    start =
        let a = stream-length s bs h in
        let c = stream-length s (b ∷ more) g in
        let n = length-drop p (stream s bs) in
        let q = ap length rest in
        let m = block_len_24576 in
        omega arith

    stands : StandsClosed b s (drop p (stream s bs))
    stands =
        let e : length (stream s bs) ≡ length (stream s bs) - 0 = omega arith in
        let z : p - 0 ≡ p = omega arith in
        subst (λ n. StandsClosed b s (drop n (stream s bs))) z
        (own-stays s bs h 0 (length (stream s bs)) (omega arith) (omega arith) (stream s bs) e p b more low high g rest
        (λ y l o. ap (λ n. at (drop n (stream s bs)) y) z ∙ ap (λ c. at c y) rest))

    final : at (stream s bs) (p + (block_len - 1)) ≡ s
    final = let m = block_len_24576 in let a = start in
        last-cell s bs h (p + (block_len - 1)) (omega arith) (omega arith)

    behind : p + block_len < k → from p ≡ b ∷ []
    behind l = from-early p (omega arith)
        ∙ here-some 0 b s (drop p grown)
        (stands-local b s (drop p (stream s bs)) (drop p grown)
        (sym (window-before p (suc block_len) (omega arith))) stands)

    ahead : k ≤ p → from p ≡ b ∷ []
    ahead l =
        let m = block_len_24576 in
        from-late p (omega arith) ∙ ap (block_here 0) (drop-inserted k x (stream s bs) p l within)
        ∙ here-some 0 b s (drop p (stream s bs)) stands

    -- it closes the block, or doesn't
    module _ (there : p + block_len ≡ k) where
      ends : at (drop p grown) (block_len - 1) ≡ s
      ends = let m = block_len_24576 in early-cell p (block_len - 1) (omega arith) ∙ final

      closes : (x ≡ s → ⊥) → from p ≡ b ∷ []
      closes n = from-early p (omega arith) ∙ here-some 0 b s (drop p grown) (record {
        block = g.0;
        cells = window-before p block_len (omega arith) ∙ stands.cells;
        closed = record { turns = λ o e. n (sym (there-cell p block_len there) ∙ e ∙ ends) };
      })

      goes-on : x ≡ s → from p ≡ []
      goes-on e = from-early p (omega arith) ∙ here-none 0 (drop p grown) (λ d t z.
          let n = grown-length in
          let w = within in
          let a = length-drop p grown in
          z.closed.turns (omega arith) (there-cell p block_len there ∙ e ∙ sym ends))

    -- it stands within the cells of the block
    module _ (over : p < k) (inner : k < p + block_len) where
      grows : k ≤ p + 3 → x ≡ other s → from p ≡ b ∷ []
      grows l e = from-late p inner
          ∙ here-some 0 b s (drop (suc p) grown)
          (stands-local b s (drop p (stream s bs)) (drop (suc p) grown) same stands)
        where
          one : (y : ℕ) → at (drop p (stream s bs)) y ≡ at (drop (suc p) grown) y
          one y = get_or-drop p (stream s bs) y Low ∙ go (cases_lt (suc p + y) k) (cases_eq (suc p + y) k)
            where
              run : (z : ℕ) → z < 3 → at (stream s bs) (p + z) ≡ other s
              run z o = let m = block_len_24576 in let a = high in run-cell s bs h p z start (omega arith) o

              go : (suc p + y < k) ⊎ (k ≤ suc p + y) → (suc p + y ≡ k) ⊎ (suc p + y ≡ k → ⊥)
                  → at (stream s bs) (p + y) ≡ at (drop (suc p) grown) y
              go (inl a) c =
                  let i : p + suc y ≡ suc p + y = omega arith in
                  run y (omega arith) ∙ sym (run (suc y) (omega arith)) ∙ ap (at (stream s bs)) i
                  ∙ sym (early-cell (suc p) y a)
              go (inr a) (inl c) = run y (omega arith) ∙ sym e ∙ sym (there-cell (suc p) y c)
              go (inr a) (inr c) =
                  let i : suc (y - 1) ≡ y = omega arith in
                  let j : suc p + (y - 1) ≡ p + y = omega arith in
                  sym (ap (at (drop (suc p) grown)) (sym i) ∙ late-cell (suc p) (y - 1) (omega arith)
                  ∙ ap (at (stream s bs)) j)

          same : take (suc block_len) (drop p (stream s bs)) ≡ take (suc block_len) (drop (suc p) grown)
          same =
              let n = grown-length in
              let u = length-take (suc block_len) (drop p (stream s bs)) in
              let v = length-take (suc block_len) (drop (suc p) grown) in
              let i = length-drop p (stream s bs) in
              let j = length-drop (suc p) grown in
              let w = high in
              ext_get_or Low (take (suc block_len) (drop p (stream s bs))) (take (suc block_len) (drop (suc p) grown))
              (omega arith)
              (λ y o. get_or-take (suc block_len) (drop p (stream s bs)) y Low (omega arith) ∙ one y
              ∙ sym (get_or-take (suc block_len) (drop (suc p) grown) y Low (omega arith)))

      breaks : (k ≤ p + 3 → x ≡ other s → ⊥) → from p ≡ []
      breaks n = from-late p inner ∙ here-none 0 (drop (suc p) grown) (λ d t z.
          let c = across (suc p) (omega arith) (omega arith) d t z in
          let v = c.0 in
          n (omega arith) c.1)

    own : from p ≡ after_insertion s k x p b
    own = go (cases_lt p k) (cases_lt (p + block_len) k) (cases_eq (p + block_len) k) (cases_lt (p + 3) k)
        (equal-or s x)
      where
        go : (p < k) ⊎ (k ≤ p) → (p + block_len < k) ⊎ (k ≤ p + block_len) → (p + block_len ≡ k)
            ⊎ (p + block_len ≡ k → ⊥)
            → (p + 3 < k) ⊎ (k ≤ p + 3) → (s ≡ x) ⊎ (s ≡ x → ⊥)
            → from p ≡ cond
            (leb k p || (ltb (p + block_len) k || (differs s x && (leb k (p + 3) || (k == p + block_len))))) (b ∷ []) []
        go (inr a) y z w v = let i = le-leb k p a in ahead a ∙ (rw i refl)
        go (inl a) (inl y) z w v = let i = lt-leb k p a in let j = lt-ltb (p + block_len) k y in
            behind y ∙ (rw (i, j) refl)
        go (inl a) (inr y) (inl z) w (inl v) =
            let i = lt-leb k p a in
            let j = le-ltb (p + block_len) k y in
            let e = differs-false s x v in
            goes-on z (sym v) ∙ (rw (i, j, e) refl)
        go (inl a) (inr y) (inl z) w (inr v) =
            let m = block_len_24576 in
            let i = lt-leb k p a in
            let j = le-ltb (p + block_len) k y in
            let e = differs-true s x v in
            let f = lt-leb k (p + 3) (omega arith) in
            let q = eq-eqb k (p + block_len) (sym z) in
            closes z (λ u. v (sym u)) ∙ (rw (i, j, e, f, q) refl)
        go (inl a) (inr y) (inr z) w (inl v) =
            let i = lt-leb k p a in
            let j = le-ltb (p + block_len) k y in
            let e = differs-false s x v in
            breaks a (omega arith) (λ l u. other_ne s (sym u ∙ sym v)) ∙ (rw (i, j, e) refl)
        go (inl a) (inr y) (inr z) (inl w) (inr v) =
            let i = lt-leb k p a in
            let j = le-ltb (p + block_len) k y in
            let e = differs-true s x v in
            let f = lt-leb k (p + 3) w in
            let q = ne_eqb k (p + block_len) (λ u. z (sym u)) in
            breaks a (omega arith) (λ l u. omega arith) ∙ (rw (i, j, e, f, q) refl)
        go (inl a) (inr y) (inr z) (inr w) (inr v) =
            let i = lt-leb k p a in
            let j = le-ltb (p + block_len) k y in
            let e = differs-true s x v in
            let f = le-leb k (p + 3) w in
            grows a (omega arith) w (sym (other-of s x v)) ∙ (rw (i, j, e, f) refl)

  pub insertion-blocks : wholes (reports_from 0 grown) ≡ given_within (after_insertion s k x) 0 0
      (length (stream s bs)) bs
  insertion-blocks =
      let e : length (stream s bs) ≡ length (stream s bs) - 0 = omega arith in
      grown-places ∙ ap (gather from 0) e
      ∙ gather-given s bs h 0 (length (stream s bs)) (omega arith) (omega arith) from (after_insertion s k x)
      (λ p l r o. off p l r o) (λ p l r o. short p l r o)
      (λ p b more l r g e. own p b more l r g e)

pub blocks-inserted : (s : Level) (bs : List (List (List Bool))) → All IsBlock bs → (k : ℕ) (x : Level)
    → k ≤ length (stream s bs)
    → blocks (inserted k x (stream s bs)) ≡ given_blocks (after_insertion s k x) bs 0 (length (stream s bs))
unfolding blocks reports given_blocks
blocks-inserted s bs h k x l = insertion-blocks s bs (each-block bs h) k x l
