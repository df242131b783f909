-- The blocks of a piece of a lawful stream of which one cell or two are changed.
use Rattle.std.proofs.Common.{◌≡◌, ℕ, suc, ◌+◌, ◌-◌, ◌<◌, ◌≤◌, ◌⊎◌, inl, inr, List, [], ◌∷◌, ◌++◌, Bool, true, false}
use Rattle.std.proofs.Common.{◌&&◌, ◌==◌, cond, leb, ltb, length, take, drop, ap, ap₂, ◌∙◌, sym, refl, arith}
use Rattle.std.proofs.Common.{length-drop, length-take, get_or-take, get_or-drop, le-leb, lt-ltb, le-ltb, eq-eqb}
use Rattle.std.proofs.Common.{ne_eqb}
use Rattle.std.proofs.lemmas.Bool.{cases_eq, cases_lt, lt-leb}
use Rattle.aes3_level.specs.declared.level.Level.{Level}
use Rattle.aes3_level.specs.declared.level.Level.TheVariants.{Low}
use Rattle.aes3_level.specs.Cells.{other}
use Rattle.aes3_level.proofs.Runs.{other_ne}
use Rattle.aes3_slot.specs.Rules.{at}
use Rattle.aes3_frame.specs.Blocks.{block_len, stream}
use Rattle.aes3_frame.proofs.FileLaws.{EachBlock}
use Rattle.aes3_lock.specs.Damage.{changed, apart, between_slots}
use Rattle.aes3_lock.specs.Remains.{holds, reaches, left_of, after_changes, after_change, after_two_changes}
use Rattle.aes3_lock.specs.Pieces.{IsPiece, given_within, given_blocks}
use Rattle.aes3_lock.specs.Reports.{blocks}
use Rattle.aes3_lock.proofs.Apart.{apart-changed, apart-third, length-changed, at-changed, at-others}
use Rattle.aes3_lock.proofs.Changes.{own-left, blocks-few-changed}
use Rattle.aes3_lock.proofs.PlacesApart.{places-none, places-one, places-two}
use Rattle.aes3_lock.proofs.PieceBounds.{length-piece, first-false, second-false}
use Rattle.aes3_lock.proofs.PlaceBlocks.{block_here}

-- what two rules give of whole blocks on which they agree
given-same : (f g : ℕ → List (List Bool) → List (List (List Bool))) (i j p : ℕ) (bs : List (List (List Bool)))
    → ((p : ℕ) (b : List (List Bool)) → i ≤ p → p + block_len ≤ j → f p b ≡ g p b)
    → given_within f p i j bs ≡ given_within g p i j bs
given-same f g i j p [] h = refl
given-same f g i j p (b ∷ bs) h = ap₂ (λ u v. u ++ v) (go (cases_lt p i) (cases_lt j (p + block_len)))
    (given-same f g i j (p + block_len) bs h)
  where
    go : (p < i) ⊎ (i ≤ p) → (j < p + block_len) ⊎ (p + block_len ≤ j)
        → cond (leb i p && leb (p + block_len) j) (f p b) [] ≡ cond (leb i p && leb (p + block_len) j) (g p b) []
    go (inl l) y = first-false i p (p + block_len) j (f p b) [] l ∙ sym (first-false i p (p + block_len) j (g p b) [] l)
    go (inr l) (inl o) = second-false i p (p + block_len) j (f p b) [] o
        ∙ sym (second-false i p (p + block_len) j (g p b) [] o)
    go (inr l) (inr o) = ap (λ z. cond (leb i p && leb (p + block_len) j) z []) (h p b l o)

-- cell k isn't one of a block's that begins at p, nor the one behind them
abbrev Away : ℕ → ℕ → Type 0
Away k p = (k < p) ⊎ (p + block_len < k)

reached-or : (k p : ℕ) → ((p ≤ k) × (k ≤ p + block_len)) ⊎ Away k p
reached-or k p = go (cases_lt k p) (cases_lt (p + block_len) k)
  where
    go : (k < p) ⊎ (p ≤ k) → (p + block_len < k) ⊎ (k ≤ p + block_len) → ((p ≤ k) × (k ≤ p + block_len))
        ⊎ ((k < p) ⊎ (p + block_len < k))
    go (inl a) b = inr (inl a)
    go (inr a) (inl b) = inr (inr b)
    go (inr a) (inr b) = inl (a, b)

reaches-true : (k p : ℕ) → p ≤ k → k ≤ p + block_len → reaches k p ≡ true
reaches-true k p a b = let u = le-leb p k a in let v = le-leb k (p + block_len) b in rw (u, v) refl

and-false : (b c : Bool) → c ≡ false → (b && c) ≡ false
and-false true c e = e
and-false false c e = refl

reaches-false : (k p : ℕ) → Away k p → reaches k p ≡ false
reaches-false k p (inl a) = let u = lt-leb p k a in rw u refl
reaches-false k p (inr a) = and-false (leb p k) (leb k (p + block_len)) (lt-leb k (p + block_len) a)

-- a block's cells from place q on, and the one behind them
abbrev window : ℕ → List Level → List Level
window q c = take (suc block_len) (drop q c)

window-cell : (q z : ℕ) (c : List Level) → z ≤ block_len → at (window q c) z ≡ at c (q + z)
window-cell q z c l = get_or-take (suc block_len) (drop q c) z Low (omega arith) ∙ get_or-drop q c z Low

window-room : (q z : ℕ) (c : List Level) → z < length (window q c) → (z ≤ block_len) × (q + z < length c)
window-room q z c l = let a = length-take (suc block_len) (drop q c) in let b = length-drop q c in
    (omega arith, omega arith)

room-window : (q k : ℕ) (c : List Level) → q ≤ k → k ≤ q + block_len → k < length c → k - q < length (window q c)
room-window q k c l o r = let a = length-take (suc block_len) (drop q c) in let b = length-drop q c in omega arith

window-same : (q : ℕ) (c d : List Level) → length c ≡ length d → length (window q c) ≡ length (window q d)
window-same q c d e =
    let a = length-take (suc block_len) (drop q c) in
    let b = length-drop q c in
    let f = length-take (suc block_len) (drop q d) in
    let g = length-drop q d in
    omega arith

-- of these the changed ones are changed
module _ (c d : List Level) (same : length c ≡ length d) (q k : ℕ) (within : k < length c)
    (turned : at d k ≡ other (at c k)) where
  differ : q ≤ k → k ≤ q + block_len → at (window q c) (k - q) ≡ at (window q d) (k - q) → ⊥
  differ l o e =
      let f : q + (k - q) ≡ k = omega arith in
      other_ne (at c k)
      (sym turned ∙ ap (at d) (sym f) ∙ sym (window-cell q (k - q) d (omega arith)) ∙ sym e
      ∙ window-cell q (k - q) c (omega arith) ∙ ap (at c) f)

alike : (c d : List Level) (q z : ℕ) → z < length (window q c) → at c (q + z) ≡ at d (q + z)
    → at (window q c) z ≡ at (window q d) z
alike c d q z l e = let r = window-room q z c l in window-cell q z c r.0 ∙ e ∙ sym (window-cell q z d r.0)

-- one
module _ (c : List Level) (k : ℕ) (inside : k < length c) where
  one : apart c (changed k c) ≤ 3
  one = let a = apart-changed k c in omega arith

  change-left : (i p : ℕ) (b : List (List Bool)) → i ≤ p
      → after_changes i c (changed k c) p b ≡ after_change (i + k) p b
  change-left i p b l = go (reached-or (i + k) p)
    where
      n : length c ≡ length (changed k c)
      n = sym (length-changed k c)

      go : ((p ≤ i + k) × (i + k ≤ p + block_len)) ⊎ Away (i + k) p
          → after_changes i c (changed k c) p b ≡ after_change (i + k) p b
      go (inl a) =
          let x = a.0 in
          let y = a.1 in
          let t = reaches-true (i + k) p a.0 a.1 in
          ap (λ xs. left_of xs b)
          (places-one 0 (k - (p - i)) (window (p - i) c) (window (p - i) (changed k c))
          (window-same (p - i) c (changed k c) n)
          (room-window (p - i) k c (omega arith) (omega arith) inside)
          (differ c (changed k c) n (p - i) k inside (at-changed k c inside) (omega arith) (omega arith))
          (λ z o m. alike c (changed k c) (p - i) z o (sym (at-others k c (p - i + z) (λ q. m (omega arith))))))
          ∙ (rw t refl)
      go (inr a) =
          let t = reaches-false (i + k) p a in
          ap (λ xs. left_of xs b)
          (places-none 0 (window (p - i) c) (window (p - i) (changed k c)) (window-same (p - i) c (changed k c) n)
          (λ z o. let r = window-room (p - i) z c o in let u = r.0 in
          alike c (changed k c) (p - i) z o (sym (at-others k c (p - i + z) (λ q. far z u a q)))))
          ∙ (rw t refl)
        where
          far : (z : ℕ) → z ≤ block_len → Away (i + k) p → p - i + z ≡ k → ⊥
          far z o (inl a) q = omega arith
          far z o (inr a) q = omega arith

pub blocks-one-changed : (s : Level) (bs : List (List (List Bool))) (i j : ℕ) (c : List Level) → IsPiece s bs i j c
    → (k : ℕ) → k < length c
    → blocks (changed k c) ≡ given_blocks (after_change (i + k)) bs i j
unfolding given_blocks
blocks-one-changed s bs i j c p k l =
    blocks-few-changed s bs i j c (changed k c) p (length-changed k c) (one c k l)
    ∙ given-same (after_changes i c (changed k c)) (after_change (i + k)) i j 0 bs
    (λ p b o r. change-left c k l i p b o)

-- at one block of the piece
pub change-own : (s : Level) (bs : List (List (List Bool))) (h : EachBlock bs) (i j : ℕ) (order : i ≤ j)
    (within : j ≤ length (stream s bs))
    (k : ℕ) (inside : k < j - i) (p : ℕ) (b : List (List Bool)) (more : List (List (List Bool))) → i ≤ p
    → p + block_len ≤ j → EachBlock (b ∷ more)
    → drop p (stream s bs) ≡ stream s (b ∷ more)
    → block_here 0 (drop (p - i) (changed k (take (j - i) (drop i (stream s bs))))) ≡ after_change (i + k) p b
change-own s bs h i j order within k inside p b more l r g e =
    let c = take (j - i) (drop i (stream s bs)) in
    let n = length-piece i j (stream s bs) order within in
    let m : k < length (take (j - i) (drop i (stream s bs))) = omega arith in
    own-left s bs h i j order within (changed k c) (length-changed k c ∙ n) (one c k m) p b more l r g e
    ∙ change-left c k m i p b l

-- two
module _ (c : List Level) (k l : ℕ) (before : k < l) (inside : l < length c) where
  abbrev damaged : List Level
  damaged = changed l (changed k c)

  same : length c ≡ length damaged
  same = sym (length-changed l (changed k c) ∙ length-changed k c)

  two : apart c damaged ≤ 3
  two =
      let a = apart-changed k c in
      let b = apart-changed l (changed k c) in
      let e = apart-third c (changed k c) damaged (sym (length-changed k c)) in
      omega arith

  others : (x : ℕ) → (x ≡ k → ⊥) → (x ≡ l → ⊥) → at c x ≡ at damaged x
  others x a b = sym (at-others l (changed k c) x b ∙ at-others k c x a)

  first-at : at damaged k ≡ other (at c k)
  first-at = let o = before in let m = inside in at-others l (changed k c) k (λ e. omega arith)
      ∙ at-changed k c (omega arith)

  second-at : at damaged l ≡ other (at c l)
  second-at =
      let o = before in
      let m = inside in
      let y = length-changed k c in
      at-changed l (changed k c) (omega arith) ∙ ap other (at-others k c l (λ e. omega arith))

  changes-left : (i p : ℕ) (b : List (List Bool)) → i ≤ p
      → after_changes i c damaged p b ≡ after_two_changes (i + k) (i + l) p b
  changes-left i p b low = go (reached-or (i + k) p) (reached-or (i + l) p)
    where
      q : ℕ
      q = p - i

      far : (m z : ℕ) → z ≤ block_len → Away (i + m) p → p - i + z ≡ m → ⊥
      far m z o (inl a) e = omega arith
      far m z o (inr a) e = omega arith

      -- no exchange where one of them is away
      apart-k : Away (i + k) p → (holds (i + k) p && ((i + l) == suc (i + k) && between_slots (i + k - p))) ≡ false
      apart-k (inl a) = let u = lt-leb p (i + k) a in rw u refl
      apart-k (inr a) =
          let u = and-false (leb p (i + k)) (ltb (i + k) (p + block_len))
          (le-ltb (i + k) (p + block_len) (omega arith)) in
          rw u refl

      apart-l : Away (i + l) p → p ≤ i + k
          → (holds (i + k) p && ((i + l) == suc (i + k) && between_slots (i + k - p))) ≡ false
      apart-l (inl a) r = absurd (let m = before in omega arith)
      apart-l (inr a) r = by (cases_lt (i + k) (p + block_len))
        where
          by : (i + k < p + block_len) ⊎ (p + block_len ≤ i + k)
              → (holds (i + k) p && ((i + l) == suc (i + k) && between_slots (i + k - p))) ≡ false
          by (inl m) =
              let u = ne_eqb (i + l) (suc (i + k)) (λ e. omega arith) in
              rw u (and-false (holds (i + k) p) false refl)
          by (inr m) =
              let u = and-false (leb p (i + k)) (ltb (i + k) (p + block_len)) (le-ltb (i + k) (p + block_len) m) in
              rw u refl

      go : ((p ≤ i + k) × (i + k ≤ p + block_len)) ⊎ Away (i + k) p → ((p ≤ i + l) × (i + l ≤ p + block_len))
          ⊎ Away (i + l) p
          → after_changes i c damaged p b ≡ after_two_changes (i + k) (i + l) p b
      go (inl a) (inl e) =
          let a0 = a.0 in
          let a1 = a.1 in
          let e0 = e.0 in
          let e1 = e.1 in
          let m = before in
          let w = inside in
          let t = reaches-true (i + k) p a.0 a.1 in
          let x = le-leb p (i + k) a.0 in
          let y = lt-ltb (i + k) (p + block_len) (omega arith) in
          let z : k - (p - i) ≡ i + k - p = omega arith in
          ap (λ xs. left_of xs b)
          (places-two 0 (k - (p - i)) (l - (p - i)) (window (p - i) c) (window (p - i) damaged)
          (window-same (p - i) c damaged same) (omega arith)
          (room-window (p - i) l c (omega arith) (omega arith) inside)
          (differ c damaged same (p - i) k (omega arith) first-at (omega arith) (omega arith))
          (differ c damaged same (p - i) l inside second-at (omega arith) (omega arith))
          (λ z o m n. alike c damaged (p - i) z o (others (p - i + z) (λ q. m (omega arith)) (λ q. n (omega arith)))))
          ∙ pair (cases_eq (i + l) (suc (i + k))) t x y
        where
          pair : ((i + l) ≡ suc (i + k)) ⊎ ((i + l) ≡ suc (i + k) → ⊥) → reaches (i + k) p ≡ true → leb p (i + k) ≡ true
              → ltb (i + k) (p + block_len) ≡ true
              → left_of ((0 + (k - (p - i))) ∷ (0 + (l - (p - i))) ∷ []) b ≡ after_two_changes (i + k) (i + l) p b
          pair (inl f) t x y =
              let a0 = a.0 in
              let m : l - (p - i) ≡ suc (i + k - p) = omega arith in
              let n : k - (p - i) ≡ i + k - p = omega arith in
              let o : 0 + (k - (p - i)) ≡ i + k - p = omega arith in
              let r : 0 + (l - (p - i)) ≡ suc (i + k - p) = omega arith in
              let u = eq-eqb (i + l) (suc (i + k)) f in
              let v = eq-eqb (suc (i + k - p)) (suc (i + k - p)) refl in
              rw (o, r, u, v, t, x, y) refl
          pair (inr f) t x y =
              let a0 = a.0 in
              let m = before in
              let u = ne_eqb (i + l) (suc (i + k)) f in
              let v = ne_eqb (0 + (l - (p - i))) (suc (0 + (k - (p - i)))) (λ e. f (omega arith)) in
              rw (u, v, t, x, y) refl
      go (inl a) (inr e) =
          let a0 = a.0 in
          let a1 = a.1 in
          let m = before in
          let w = inside in
          let t = reaches-true (i + k) p a.0 a.1 in
          let u = apart-l e a.0 in
          ap (λ xs. left_of xs b)
          (places-one 0 (k - (p - i)) (window (p - i) c) (window (p - i) damaged) (window-same (p - i) c damaged same)
          (room-window (p - i) k c (omega arith) (omega arith) (omega arith))
          (differ c damaged same (p - i) k (omega arith) first-at (omega arith) (omega arith))
          (λ z o m. let r = window-room (p - i) z c o in let v = r.0 in
          alike c damaged (p - i) z o (others (p - i + z) (λ q. m (omega arith)) (λ q. far l z v e q))))
          ∙ (rw (u, t) refl)
      go (inr a) (inl e) =
          let e0 = e.0 in
          let e1 = e.1 in
          let t = reaches-true (i + l) p e.0 e.1 in
          let f = reaches-false (i + k) p a in
          let u = apart-k a in
          ap (λ xs. left_of xs b)
          (places-one 0 (l - (p - i)) (window (p - i) c) (window (p - i) damaged) (window-same (p - i) c damaged same)
          (room-window (p - i) l c (omega arith) (omega arith) inside)
          (differ c damaged same (p - i) l inside second-at (omega arith) (omega arith))
          (λ z o m. let r = window-room (p - i) z c o in let v = r.0 in
          alike c damaged (p - i) z o (others (p - i + z) (λ q. far k z v a q) (λ q. m (omega arith)))))
          ∙ (rw (u, f, t) refl)
      go (inr a) (inr e) =
          let t = reaches-false (i + l) p e in
          let f = reaches-false (i + k) p a in
          let u = apart-k a in
          ap (λ xs. left_of xs b)
          (places-none 0 (window (p - i) c) (window (p - i) damaged) (window-same (p - i) c damaged same)
          (λ z o. let r = window-room (p - i) z c o in let v = r.0 in
          alike c damaged (p - i) z o (others (p - i + z) (λ q. far k z v a q) (λ q. far l z v e q))))
          ∙ (rw (u, f, t) refl)

pub blocks-two-changed : (s : Level) (bs : List (List (List Bool))) (i j : ℕ) (c : List Level) → IsPiece s bs i j c
    → (k l : ℕ) → k < l → l < length c
    → blocks (changed l (changed k c)) ≡ given_blocks (after_two_changes (i + k) (i + l)) bs i j
unfolding given_blocks
blocks-two-changed s bs i j c p k l o m =
    blocks-few-changed s bs i j c (changed l (changed k c)) p (length-changed l (changed k c) ∙ length-changed k c)
    (two c k l o m)
    ∙ given-same (after_changes i c (changed l (changed k c))) (after_two_changes (i + k) (i + l)) i j 0 bs
    (λ p b r e. changes-left c k l o m i p b r)
