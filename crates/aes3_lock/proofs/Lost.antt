-- The blocks of a piece of a lawful stream of which one cell is lost.
use Rattle.std.proofs.Common.{◌≡◌, ℕ, zero, suc, ◌+◌, ◌-◌, ◌%◌, ◌<◌, ◌≤◌, ◌⊎◌, inl, inr, List, [], ◌∷◌, ◌++◌, Bool}
use Rattle.std.proofs.Common.{◌&&◌, ◌==◌, cond, leb, ltb, refl, length, take, drop, ap, ap₂, ◌∙◌, sym, arith}
use Rattle.std.proofs.Common.{length-take-le, length-drop, get_or-take, get_or-drop, ext_get_or, le-leb, le-ltb, eq-eqb}
use Rattle.std.proofs.Common.{ne_eqb, lt-ltb}
use Rattle.std.proofs.lemmas.Bool.{cases_eq, cases_lt, lt-leb}
use Rattle.aes3_level.specs.declared.level.Level.{Level}
use Rattle.aes3_level.specs.declared.level.Level.TheVariants.{Low}
use Rattle.aes3_slot.specs.Rules.{at}
use Rattle.aes3_frame.specs.Blocks.{block_len, block_cells, stream, IsBlock}
use Rattle.aes3_frame.proofs.FileLaws.{EachBlock, each-block}
use Rattle.aes3_lock.specs.Damage.{without, apart}
use Rattle.aes3_lock.specs.Remains.{after_loss}
use Rattle.aes3_lock.specs.Pieces.{IsPiece, given_within, given_blocks}
use Rattle.aes3_lock.specs.Reports.{reports_from, reports, wholes, blocks}
use Rattle.aes3_lock.specs.Standing.{StandsClosed}
use Rattle.aes3_lock.proofs.AllStanding.{closed-room}
use Rattle.aes3_lock.proofs.Apart.{apart-self}
use Rattle.aes3_lock.proofs.Bridges.{begun, begun-second, no-bridge}
use Rattle.aes3_lock.proofs.Damaged.{piece-cell, no-other, own-stays}
use Rattle.aes3_lock.proofs.Distances.{off-subframes, off-blocks}
use Rattle.aes3_lock.proofs.Damaged.{line-cell}
use Rattle.aes3_lock.proofs.PiecePlaces.{gather-given, gather-same}
use Rattle.aes3_lock.proofs.LawfulPieces.{stream-length}
use Rattle.aes3_lock.proofs.PlaceBlocks.{block_here, blocks-collect, here-none, here-some, here-any}
use Rattle.aes3_lock.proofs.PieceBounds.{length-piece}
use Rattle.aes3_lock.proofs.Places.{gather, collect-gather, gather-add}
use Rattle.aes3_frame.proofs.CellLaws.{block_len_24576}

-- the cells that are left
pub length-without : (k : ℕ) (c : List Level) → k < length c → suc (length (without k c)) ≡ length c
length-without k [] h = absurd (omega arith)
length-without zero (x ∷ c) h = refl
length-without (suc k) (x ∷ c) h = ap suc (length-without k c (omega arith))

pub without-before : (k : ℕ) (c : List Level) (x : ℕ) → x < k → at (without k c) x ≡ at c x
without-before k [] x h = refl
without-before zero (y ∷ c) x h = absurd (omega arith)
without-before (suc k) (y ∷ c) zero h = refl
without-before (suc k) (y ∷ c) (suc x) h = without-before k c x (omega arith)

pub without-behind : (k : ℕ) (c : List Level) (x : ℕ) → k ≤ x → at (without k c) x ≡ at c (suc x)
without-behind k [] x h = refl
without-behind zero (y ∷ c) x h = refl
without-behind (suc k) (y ∷ c) zero h = absurd (omega arith)
without-behind (suc k) (y ∷ c) (suc x) h = without-behind k c x (omega arith)

pub drop-without : (k : ℕ) (c : List Level) (q : ℕ) → k ≤ q → drop q (without k c) ≡ drop (suc q) c
drop-without k [] zero h = refl
drop-without k [] (suc q) h = refl
drop-without zero (y ∷ c) q h = refl
drop-without (suc k) (y ∷ c) zero h = absurd (omega arith)
drop-without (suc k) (y ∷ c) (suc q) h = drop-without k c q (omega arith)

-- no block's cells are those of the stream where none begins
apart-nothing : (c d : List Level) (n : ℕ) → c ≡ d → suc n ≤ apart c d → ⊥
apart-nothing c d n e h = let a = ap (λ x. apart c x) (sym e) in let b = apart-self c in omega arith

pub far : (s : Level) (bs : List (List (List Bool))) → EachBlock bs → (p : ℕ) → p + block_len ≤ length (stream s bs)
    → 0 < p % 24576
    → (d : List (List Bool)) (t : Level) → IsBlock d → take block_len (drop p (stream s bs)) ≡ block_cells t d → ⊥
far s bs h p r o d t g e = go (cases_eq (p % 64) 0)
  where
    go : (p % 64 ≡ 0) ⊎ (p % 64 ≡ 0 → ⊥) → ⊥
    go (inl m) = apart-nothing (take block_len (drop p (stream s bs))) (block_cells t d) 3 e
        (off-blocks s bs h t d g p r m o)
    go (inr m) = apart-nothing (take block_len (drop p (stream s bs))) (block_cells t d) 383 e
        (off-subframes s bs h t d g p r m)

-- tests of a held cell
held-true : {A : Type 0} (p k : ℕ) (x y : A) → p ≤ k → k < p + block_len
    → cond (leb p k && ltb k (p + block_len)) x y ≡ x
held-true p k x y a b = let u = le-leb p k a in let v = lt-ltb k (p + block_len) b in rw (u, v) refl

held-before : {A : Type 0} (p k : ℕ) (x y : A) → k < p → cond (leb p k && ltb k (p + block_len)) x y ≡ y
held-before p k x y a = let u = lt-leb p k a in rw u refl

held-behind : {A : Type 0} (p k : ℕ) (x y : A) → p ≤ k → p + block_len ≤ k
    → cond (leb p k && ltb k (p + block_len)) x y ≡ y
held-behind p k x y a b = let u = le-leb p k a in let v = le-ltb k (p + block_len) b in rw (u, v) refl

module _ (s : Level) (bs : List (List (List Bool))) (h : EachBlock bs) (i j : ℕ) (order : i ≤ j)
    (within : j ≤ length (stream s bs))
    (k : ℕ) (inside : k < j - i) where
  abbrev piece : List Level
  piece = take (j - i) (drop i (stream s bs))

  abbrev left : List Level
  left = without k (take (j - i) (drop i (stream s bs)))

  piece-length : length piece ≡ j - i
  piece-length = length-piece i j (stream s bs) order within

  left-length : length left ≡ j - 1 - i
  left-length = let n = piece-length in let o = inside in let a = length-without k piece (omega arith) in omega arith

  -- what is left from a place of the stream on: the cells up to the lost one, and then those behind it
  early-cell : (p x : ℕ) → i ≤ p → p + x < i + k → at (drop (p - i) left) x ≡ at (stream s bs) (p + x)
  early-cell p x l o =
      let n = inside in
      let q : i + (p - i + x) ≡ p + x = omega arith in
      get_or-drop (p - i) left x Low ∙ without-before k piece (p - i + x) (omega arith)
      ∙ piece-cell i j (p - i + x) (stream s bs) (omega arith)
      ∙ ap (at (stream s bs)) q

  late-cell : (p x : ℕ) → i ≤ p → i + k ≤ p + x → suc p + x < j
      → at (drop (p - i) left) x ≡ at (stream s bs) (suc p + x)
  late-cell p x l o r =
      let n = inside in
      let q : i + suc (p - i + x) ≡ suc p + x = omega arith in
      get_or-drop (p - i) left x Low ∙ without-behind k piece (p - i + x) (omega arith)
      ∙ piece-cell i j (suc (p - i + x)) (stream s bs) (omega arith)
      ∙ ap (at (stream s bs)) q

  -- no block stands across the lost cell
  across : (p : ℕ) → i ≤ p → p < i + k → i + k < p + block_len → (d : List (List Bool)) (t : Level)
      → StandsClosed d t (drop (p - i) left) → ⊥
  across p l o r d t z =
      let m = block_len_24576 in
      let n = left-length in
      let a = length-drop (p - i) left in
      let b = closed-room d t (drop (p - i) left) z in
      let w = within in
      let v = inside in
      no-bridge s bs h d t z.block p (i + k - p) (omega arith) (omega arith) (omega arith)
      (λ x u. cell x (omega arith) ∙ early-cell p x l (omega arith))
      (λ x u y. cell x (omega arith) ∙ late-cell p x l (omega arith) (omega arith))
    where
      cell : (x : ℕ) → x < block_len → at (block_cells t d) x ≡ at (drop (p - i) left) x
      cell x o = ap (λ c. at c x) (sym z.cells) ∙ get_or-take block_len (drop (p - i) left) x Low o

  -- what stands before it stands in the stream
  window-before : (p : ℕ) → i ≤ p → p + block_len ≤ i + k
      → take block_len (drop (p - i) left) ≡ take block_len (drop p (stream s bs))
  window-before p l r =
      let n = left-length in
      let v = inside in
      let w = within in
      let a = length-take-le block_len (drop (p - i) left) (let y = length-drop (p - i) left in let n = left-length in
      let v = inside in omega arith) in
      let b = length-take-le block_len (drop p (stream s bs)) (let y = length-drop p (stream s bs) in let w = within in
      let v = inside in omega arith) in
      ext_get_or Low (take block_len (drop (p - i) left)) (take block_len (drop p (stream s bs))) (a ∙ sym b)
      (λ x o. get_or-take block_len (drop (p - i) left) x Low (omega arith) ∙ early-cell p x l (omega arith)
      ∙ sym (get_or-take block_len (drop p (stream s bs)) x Low (omega arith) ∙ get_or-drop p (stream s bs) x Low))

  -- what is given at a place of the stream: that of the lost cell gives nothing
  from : ℕ → List (List (List Bool))
  from p = cond (ltb p (i + k)) (block_here 0 (drop (p - i) left))
      (cond (p == i + k) [] (block_here 0 (drop (p - i - 1) left)))

  from-early : (p : ℕ) → p < i + k → from p ≡ block_here 0 (drop (p - i) left)
  unfolding from
  from-early p l = let a = lt-ltb p (i + k) l in rw a refl

  from-lost : (p : ℕ) → p ≡ i + k → from p ≡ []
  unfolding from
  from-lost p e = let a = le-ltb p (i + k) (omega arith) in let b = eq-eqb p (i + k) e in rw (a, b) refl

  from-late : (p : ℕ) → i + k < p → from p ≡ block_here 0 (drop (p - i - 1) left)
  unfolding from
  from-late p l = let a = le-ltb p (i + k) (omega arith) in let b = ne_eqb p (i + k) (λ e. omega arith) in
      rw (a, b) refl

  left-places : wholes (reports_from 0 left) ≡ gather from i (j - i)
  left-places =
      let n = left-length in
      let v = inside in
      let own = λ (q : ℕ). block_here 0 (drop q left) in
      let a : j - i ≡ k + suc (j - i - 1 - k) = omega arith in
      let b : length left ≡ k + (j - i - 1 - k) = omega arith in
      blocks-collect 0 left
      ∙ collect-gather block_here (λ q. block_here 0 (drop q left)) 0 0 left
      (λ q l. let z : 0 + q ≡ q = omega arith in here-any (0 + q) 0 (drop q left)
      ∙ ap (λ m. block_here 0 (drop m left)) (sym z))
      ∙ ap (gather (λ q. block_here 0 (drop q left)) 0) b
      ∙ gather-add (λ q. block_here 0 (drop q left)) 0 k (j - i - 1 - k)
      ∙ ap₂ (λ u v. u ++ v)
      (gather-same (λ q. block_here 0 (drop q left)) from 0 i k
      (λ q l. let z : 0 + q ≡ i + q - i = omega arith in ap (λ m. block_here 0 (drop m left)) z
      ∙ sym (from-early (i + q) (omega arith))))
      (gather-same (λ q. block_here 0 (drop q left)) from (0 + k) (suc (i + k)) (j - i - 1 - k)
      (λ q l. let z : 0 + k + q ≡ suc (i + k) + q - i - 1 = omega arith in ap (λ m. block_here 0 (drop m left)) z
      ∙ sym (from-late (suc (i + k) + q) (omega arith)))
      ∙ ap (λ x. x ++ gather from (suc (i + k)) (j - i - 1 - k)) (sym (from-lost (i + k) refl)))
      ∙ sym (ap (gather from i) a ∙ gather-add from i k (suc (j - i - 1 - k)))

  -- places at which none begins
  off : (p : ℕ) → i ≤ p → p + block_len ≤ j → 0 < p % 24576 → from p ≡ []
  off p l r o = go (cases_lt p (i + k)) (cases_lt (i + k) p) (cases_lt (i + k) (p + block_len))
    where
      go : (p < i + k) ⊎ (i + k ≤ p) → (i + k < p) ⊎ (p ≤ i + k) → (i + k < p + block_len) ⊎ (p + block_len ≤ i + k)
          → from p ≡ []
      go (inl a) b (inl c) = from-early p a ∙ here-none 0 (drop (p - i) left) (across p l a c)
      go (inl a) b (inr c) =
          from-early p a ∙ here-none 0 (drop (p - i) left)
          (λ d t z. let w = within in far s bs h p (omega arith) o d t z.block (sym (window-before p l c) ∙ z.cells))
      go (inr a) (inl b) c =
          let q : suc (p - i - 1) ≡ p - i = omega arith in
          let e : drop (p - i - 1) left ≡ drop (p - i) piece = drop-without k piece (p - i - 1) (omega arith)
          ∙ ap (λ m. drop m piece) q in
          from-late p b ∙ ap (block_here 0) e
          ∙ here-none 0 (drop (p - i) piece)
          (no-other s bs h i j order within piece piece-length p (let v = apart-self piece in omega arith) l r o)
      go (inr a) (inr b) c = from-lost p (omega arith)

  short : (p : ℕ) → i ≤ p → p < j → j < p + block_len → from p ≡ []
  short p l o r = go (cases_lt p (i + k)) (cases_lt (i + k) p)
    where
      go : (p < i + k) ⊎ (i + k ≤ p) → (i + k < p) ⊎ (p ≤ i + k) → from p ≡ []
      go (inl a) b =
          from-early p a ∙ here-none 0 (drop (p - i) left)
          (λ d t z. let n = left-length in let x = closed-room d t (drop (p - i) left) z in
          let y = length-drop (p - i) left in omega arith)
      go (inr a) (inl b) =
          from-late p b ∙ here-none 0 (drop (p - i - 1) left)
          (λ d t z. let n = left-length in let x = closed-room d t (drop (p - i - 1) left) z in
          let y = length-drop (p - i - 1) left in omega arith)
      go (inr a) (inr b) = from-lost p (omega arith)

  -- at the start of a block that lies whole in the piece
  own : (p : ℕ) (b : List (List Bool)) (more : List (List (List Bool))) → i ≤ p → p + block_len ≤ j
      → EachBlock (b ∷ more)
      → drop p (stream s bs) ≡ stream s (b ∷ more) → from p ≡ after_loss (i + k) p b
  own p b more l r g e = go (cases_lt p (i + k)) (cases_lt (i + k) p) (cases_lt (i + k) (p + block_len))
    where
      cell : (x : ℕ) → at (stream s bs) (p + x) ≡ at (stream s (b ∷ more)) x
      cell x = sym (get_or-drop p (stream s bs) x Low) ∙ ap (λ c. at c x) e

      stays : p + block_len ≤ i + k → StandsClosed b s (drop (p - i) left)
      stays c =
          let v = inside in
          let w = within in
          let m = block_len_24576 in
          own-stays s bs h i (j - 1) (omega arith) (omega arith) left left-length p b more l (omega arith) g e one
        where
          -- the cell behind it is lost, and the next one is its equal
          closing : p + block_len ≡ i + k → p + block_len < j - 1
              → at (drop (p - i) left) block_len ≡ at (stream s (b ∷ more)) block_len
          closing q o =
              let w = within in
              let m = block_len_24576 in
              let y : suc p + block_len ≡ suc (p + block_len) = omega arith in
              late-cell p block_len l (omega arith) (omega arith) ∙ ap (at (stream s bs)) y
              ∙ begun-second s bs h (p + block_len) aligned (omega arith)
              ∙ sym (begun s bs h (p + block_len) aligned (omega arith)) ∙ cell block_len
            where
              aligned : (p + block_len) % 64 ≡ 0
              aligned =
                  let m = block_len_24576 in
                  let w = within in
                  let a = stream-length s bs h in
                  let c = stream-length s (b ∷ more) g in
                  let n = length-drop p (stream s bs) in
                  let q = ap length e in
                  omega arith

          one : (x : ℕ) → x ≤ block_len → p + x < j - 1 → at (drop (p - i) left) x ≡ at (stream s (b ∷ more)) x
          one x o u = by (cases_lt (p + x) (i + k))
            where
              by : (p + x < i + k) ⊎ (i + k ≤ p + x) → at (drop (p - i) left) x ≡ at (stream s (b ∷ more)) x
              by (inl n) = early-cell p x l n ∙ cell x
              by (inr n) =
                  let q : x ≡ block_len = omega arith in
                  ap (at (drop (p - i) left)) q ∙ closing (omega arith) (omega arith)
                  ∙ ap (at (stream s (b ∷ more))) (sym q)

      go : (p < i + k) ⊎ (i + k ≤ p) → (i + k < p) ⊎ (p ≤ i + k) → (i + k < p + block_len) ⊎ (p + block_len ≤ i + k)
          → from p ≡ cond (leb p (i + k) && ltb (i + k) (p + block_len)) [] (b ∷ [])
      go (inl a) x (inl c) =
          from-early p a ∙ here-none 0 (drop (p - i) left) (across p l a c)
          ∙ sym (held-true p (i + k) [] (b ∷ []) (omega arith) c)
      go (inl a) x (inr c) = from-early p a ∙ here-some 0 b s (drop (p - i) left) (stays c)
          ∙ sym (held-behind p (i + k) [] (b ∷ []) (omega arith) c)
      go (inr a) (inl x) c =
          let q : suc (p - i - 1) ≡ p - i = omega arith in
          let y : drop (p - i - 1) left ≡ drop (p - i) piece = drop-without k piece (p - i - 1) (omega arith)
          ∙ ap (λ m. drop m piece) q in
          from-late p x ∙ ap (block_here 0) y
          ∙ here-some 0 b s (drop (p - i) piece) (own-stays s bs h i j order within piece piece-length p b more l r g e
          (λ x o u. get_or-drop (p - i) piece x Low ∙ line-cell s bs (b ∷ more) i j p x l u e))
          ∙ sym (held-before p (i + k) [] (b ∷ []) x)
      go (inr a) (inr x) c =
          let m = block_len_24576 in
          let q : p ≡ i + k = omega arith in
          from-lost p q ∙ sym (held-true p (i + k) [] (b ∷ []) (omega arith) (omega arith))

  pub loss-blocks : wholes (reports_from 0 left) ≡ given_within (after_loss (i + k)) 0 i j bs
  loss-blocks = left-places ∙ gather-given s bs h i j order within from (after_loss (i + k)) off short own

pub blocks-lost : (s : Level) (bs : List (List (List Bool))) (i j : ℕ) (c : List Level) → IsPiece s bs i j c → (k : ℕ)
    → k < length c
    → blocks (without k c) ≡ given_blocks (after_loss (i + k)) bs i j
unfolding blocks reports given_blocks
blocks-lost s bs i j c p k l =
    let n = ap length p.is ∙ length-piece i j (stream s bs) p.order p.within in
    ap (λ d. wholes (reports_from 0 (without k d))) p.is
    ∙ loss-blocks s bs (each-block bs p.blocks) i j p.order p.within k (omega arith)
