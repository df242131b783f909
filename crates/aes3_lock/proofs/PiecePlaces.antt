-- What is gathered from the places of a piece, where only places at which a block begins give something.
use Rattle.std.proofs.Common.{◌≡◌, ℕ, zero, suc, ◌+◌, ◌-◌, ◌%◌, ◌<◌, ◌≤◌, ◌⊎◌, inl, inr, List, [], ◌∷◌, ◌++◌, Bool}
use Rattle.std.proofs.Common.{◌&&◌, cond, leb, refl, length, drop, ap, ap₂, ◌∙◌, sym, arith, drop-drop, drop_at}
use Rattle.std.proofs.lemmas.Bool.{cases_lt}
use Rattle.aes3_level.specs.declared.level.Level.{Level}
use Rattle.aes3_frame.specs.Blocks.{block_len, block_cells, stream}
use Rattle.aes3_frame.proofs.FileLaws.{EachBlock}
use Rattle.aes3_frame.proofs.CellLaws.{length-block_cells, stream-cons, block_len_24576}
use Rattle.aes3_lock.specs.Pieces.{given_within}
use Rattle.aes3_lock.proofs.Places.{gather, spaced, Sparse, gather-spaced}
use Rattle.aes3_lock.proofs.LawfulPieces.{stream-length}
use Rattle.aes3_lock.proofs.PlaceBlocks.{whole-len}
use Rattle.aes3_lock.proofs.PieceBounds.{both-true, first-false, second-false, inside, gather-inside}

-- what is gathered from other places that give the same
pub gather-same : {A : Type 0} (f g : ℕ → List A) (a b n : ℕ) → ((q : ℕ) → q < n → f (a + q) ≡ g (b + q))
    → gather f a n ≡ gather g b n
gather-same f g a b zero h = refl
gather-same f g a b (suc n) h =
    let x : a + 0 ≡ a = omega arith in
    let y : b + 0 ≡ b = omega arith in
    ap₂ (λ u v. u ++ v) (ap f (sym x) ∙ h 0 (omega arith) ∙ ap g y)
    (gather-same f g (suc a) (suc b) n (λ q l.
    let z : suc a + q ≡ a + suc q = omega arith in
    let w : b + suc q ≡ suc b + q = omega arith in
    ap f z ∙ h (suc q) (omega arith) ∙ ap g w))

module _ (s : Level) (bs : List (List (List Bool))) (h : EachBlock bs) (i j : ℕ) (order : i ≤ j)
    (within : j ≤ length (stream s bs))
    (f : ℕ → List (List (List Bool))) (given : ℕ → List (List Bool) → List (List (List Bool)))
    (off : (p : ℕ) → i ≤ p → p + block_len ≤ j → 0 < p % 24576 → f p ≡ [])
    (short : (p : ℕ) → i ≤ p → p < j → j < p + block_len → f p ≡ [])
    (own : (p : ℕ) (b : List (List Bool)) (more : List (List (List Bool))) → i ≤ p → p + block_len ≤ j
    → EachBlock (b ∷ more)
    → drop p (stream s bs) ≡ stream s (b ∷ more) → f p ≡ given p b) where
  -- at places where a block lies whole in the piece
  here : ℕ → List (List (List Bool))
  here = inside block_len i j f

  here-in : (q : ℕ) → q < j - i → f (i + q) ≡ here (i + q)
  unfolding here
  here-in q l = go (cases_lt j (i + q + block_len))
    where
      go : (j < i + q + block_len) ⊎ (i + q + block_len ≤ j)
          → f (i + q) ≡ cond (leb i (i + q) && leb (i + q + block_len) j) (f (i + q)) []
      go (inl o) = short (i + q) (omega arith) (omega arith) o
          ∙ sym (second-false i (i + q) (i + q + block_len) j (f (i + q)) [] o)
      go (inr o) = sym (both-true i (i + q) (i + q + block_len) j (f (i + q)) [] (omega arith) o)

  here-within : gather here 0 (length (stream s bs)) ≡ gather here i (j - i)
  unfolding here
  here-within = let m = block_len_24576 in
      gather-inside block_len i j (length (stream s bs)) f (omega arith) order within

  here-between : (q : ℕ) → 0 < q % 24576 → here q ≡ []
  unfolding here
  here-between q o = go (cases_lt q i) (cases_lt j (q + block_len))
    where
      go : (q < i) ⊎ (i ≤ q) → (j < q + block_len) ⊎ (q + block_len ≤ j)
          → cond (leb i q && leb (q + block_len) j) (f q) [] ≡ []
      go (inl l) y = first-false i q (q + block_len) j (f q) [] l
      go (inr l) (inl y) = second-false i q (q + block_len) j (f q) [] y
      go (inr l) (inr y) = both-true i q (q + block_len) j (f q) [] l y ∙ off q l y o

  here-sparse : (p n : ℕ) → p % 24576 ≡ 0 → Sparse here block_len p n
  here-sparse p zero e = tt
  here-sparse p (suc n) e =
      let m = block_len_24576 in
      (λ r a b. here-between (p + r) (omega arith), here-sparse (p + block_len) n (omega arith))

  here-own : (p : ℕ) (b : List (List Bool)) (more : List (List (List Bool))) → EachBlock (b ∷ more)
      → drop p (stream s bs) ≡ stream s (b ∷ more)
      → here p ≡ cond (leb i p && leb (p + block_len) j) (given p b) []
  unfolding here
  here-own p b more g e = go (cases_lt p i) (cases_lt j (p + block_len))
    where
      go : (p < i) ⊎ (i ≤ p) → (j < p + block_len) ⊎ (p + block_len ≤ j)
          → cond (leb i p && leb (p + block_len) j) (f p) [] ≡ cond (leb i p && leb (p + block_len) j) (given p b) []
      go (inl l) y = first-false i p (p + block_len) j (f p) [] l
          ∙ sym (first-false i p (p + block_len) j (given p b) [] l)
      go (inr l) (inl o) = second-false i p (p + block_len) j (f p) [] o
          ∙ sym (second-false i p (p + block_len) j (given p b) [] o)
      go (inr l) (inr o) = ap (λ z. cond (leb i p && leb (p + block_len) j) z []) (own p b more l o g e)

  spaced-given : (p : ℕ) (more : List (List (List Bool))) → EachBlock more → drop p (stream s bs) ≡ stream s more
      → spaced here block_len p (length more) ≡ given_within given p i j more
  spaced-given p [] g e = refl
  spaced-given p (b ∷ more) g e =
      ap₂ (λ u v. u ++ v) (here-own p b more g e)
      (spaced-given (p + block_len) more g.1
      (sym (drop-drop block_len p (stream s bs)) ∙ ap (drop block_len) (e ∙ stream-cons s b more g.0)
      ∙ drop_at (block_cells s b) (stream s more) block_len (length-block_cells s b g.0)))

  pub gather-given : gather f i (j - i) ≡ given_within given 0 i j bs
  gather-given =
      let l = stream-length s bs h in
      let m = block_len_24576 in
      gather-same f here i i (j - i) (λ q o. here-in q o)
      ∙ sym here-within
      ∙ ap (gather here 0) (l ∙ whole-len (length bs))
      ∙ gather-spaced here block_len 0 (length bs) (omega arith) (here-sparse 0 (length bs) refl)
      ∙ spaced-given 0 bs h refl
