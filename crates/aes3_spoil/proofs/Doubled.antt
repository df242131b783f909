-- Which blocks of a lawful stream are given of which one cell is doubled.
use Rattle.std.proofs.Common.{◌≡◌, ℕ, ◌+◌, ◌%◌, ◌<◌, ◌≤◌, ◌⊎◌, inl, inr, List, [], ◌∷◌, ◌++◌, Bool, ◌&&◌}
use Rattle.std.proofs.Common.{◌||◌, ◌==◌, ◌/◌, ◌-◌, ◌*◌, true, false, cond, leb, ltb, refl, length, ap, ap₂, ◌∙◌, sym}
use Rattle.std.proofs.Common.{arith, lt-ltb, le-ltb, le-leb, eq-eqb, ne_eqb, lit<}
use Rattle.std.specs.List.{All}
use Rattle.std.proofs.lemmas.Bool.{cases_eq, cases_lt, lt-leb}
use Rattle.aes3_level.specs.declared.level.Level.{Level}
use Rattle.aes3_level.specs.declared.level.Level.TheVariants.{Low, High}
use Rattle.aes3_level.proofs.Runs.{other_ne}
use Rattle.aes3_slot.specs.declared.mark.Mark.{Mark}
use Rattle.aes3_slot.specs.declared.mark.Mark.TheVariants.{X, Y, Z}
use Rattle.aes3_slot.specs.Reading.{differs}
use Rattle.aes3_slot.specs.Rules.{at, shape}
use Rattle.aes3_slot.proofs.OwnPreambles.{stands-at}
use Rattle.aes3_frame.specs.Blocks.{block_len, stream, IsBlock}
use Rattle.aes3_frame.proofs.FileLaws.{EachBlock, each-block}
use Rattle.aes3_frame.proofs.CellLaws.{block_len_24576}
use Rattle.aes3_lock.specs.Pieces.{given_within, given_blocks}
use Rattle.aes3_lock.specs.Remains.{after_insertion}
use Rattle.aes3_lock.specs.Reports.{blocks}
use Rattle.aes3_lock.proofs.Apart.{differs-true, differs-false}
use Rattle.aes3_lock.proofs.Inserted.{blocks-inserted}
use Rattle.aes3_lock.proofs.InsertedCells.{first-run, mark-fourth}
use Rattle.aes3_lock.proofs.LawfulPieces.{stream-length, stream_marks, stream-stands}
use Rattle.aes3_lock.proofs.PieceBounds.{second-false}
use Rattle.aes3_spoil.specs.declared.errors.Errors.{Errors}
use Rattle.aes3_spoil.specs.declared.kinds.ErrorKind.TheVariants.{Doubled}
use Rattle.aes3_spoil.specs.EachLaws.{after_doubling}
use Rattle.aes3_spoil.specs.SpoilLaws.{IsOne}
use Rattle.aes3_spoil.specs.Spoiled.{spoiled}
use Rattle.aes3_spoil.proofs.Damaged.{doubled-one}

-- what is given is the same where it is of each block that lies whole in the cells
given-same : (f g : ℕ → List (List Bool) → List (List (List Bool))) (p i j : ℕ) (bs : List (List (List Bool)))
    → p % 24576 ≡ 0
    → ((q : ℕ) (b : List (List Bool)) → q % 24576 ≡ 0 → q + block_len ≤ j → f q b ≡ g q b)
    → given_within f p i j bs ≡ given_within g p i j bs
given-same f g p i j [] a h = refl
given-same f g p i j (b ∷ bs) a h =
    let m = block_len_24576 in
    ap₂ (λ x y. x ++ y) (head (cases_lt j (p + block_len)))
    (given-same f g (p + block_len) i j bs (omega (arith, m, a)) h)
  where
    head : (j < p + block_len) ⊎ (p + block_len ≤ j)
        → cond (leb i p && leb (p + block_len) j) (f p b) [] ≡ cond (leb i p && leb (p + block_len) j) (g p b) []
    head (inl o) =
        second-false i p (p + block_len) j (f p b) [] o ∙ sym (second-false i p (p + block_len) j (g p b) [] o)
    head (inr o) = ap (λ t. cond (leb i p && leb (p + block_len) j) t []) (h p b a o)

module _ (s : Level) (bs : List (List (List Bool))) (h : EachBlock bs) (k : ℕ) (inside : k < length (stream s bs)) where
  -- the cells of a preamble
  cell : (q x : ℕ) → q % 24576 ≡ 0 → q < length (stream s bs) → x < 8
      → at (stream s bs) (q + x) ≡ shape (stream_marks (q / 64)) x s
  cell q x a l o =
      let n = stream-length s bs h in
      let e : 64 * (q / 64) ≡ q = omega (arith, a) in
      ap (λ p. at (stream s bs) (p + x)) (sym e)
      ∙ stands-at (stream_marks (q / 64)) s (stream s bs) (64 * (q / 64)) x o
      (stream-stands s bs h (q / 64) (omega (arith, n, l)))

  own : (q : ℕ) (b : List (List Bool)) → q % 24576 ≡ 0 → q + block_len ≤ length (stream s bs)
      → after_insertion s k (at (stream s bs) k) q b ≡ after_doubling k q b
  own q b a l =
      go (cases_lt q k) (cases_lt (q + block_len) k) (cases_eq k (q + block_len)) (cases_lt (q + 2) k)
      (cases_eq k (q + 3))
    where
      m : block_len ≡ 24576
      m = block_len_24576

      -- a cell of the first run of a preamble
      high : (p : ℕ) → p % 24576 ≡ 0 → p ≤ k → k < p + 3 → differs s (at (stream s bs) k) ≡ true
      high p e o u =
          let i = inside in
          let z : p + (k - p) ≡ k = omega (arith, o) in
          differs-true s (at (stream s bs) k) (λ y.
          other_ne s (sym (y ∙ ap (at (stream s bs)) (sym z)
          ∙ cell p (k - p) e (omega (arith, o, i)) (omega (arith, o, u))
          ∙ first-run (stream_marks (p / 64)) (k - p) s (omega (arith, o, u)))))

      low : k ≡ q + 3 → differs s (at (stream s bs) k) ≡ false
      low e =
          let i = inside in
          differs-false s (at (stream s bs) k)
          (sym (ap (at (stream s bs)) e ∙ cell q 3 a (omega (arith, e, i)) (lit< tt)
          ∙ mark-fourth (stream_marks (q / 64)) s))

      held : (t : Bool) → cond (t && false) [] (b ∷ []) ≡ b ∷ []
      held true = refl
      held false = refl

      not-both : (d : Bool) → cond (d && false) (b ∷ []) [] ≡ []
      not-both true = refl
      not-both false = refl

      go : (q < k) ⊎ (k ≤ q) → (q + block_len < k) ⊎ (k ≤ q + block_len) → (k ≡ q + block_len)
          ⊎ (k ≡ q + block_len → ⊥)
          → (q + 2 < k) ⊎ (k ≤ q + 2) → (k ≡ q + 3) ⊎ (k ≡ q + 3 → ⊥)
          → cond (leb k q || (ltb (q + block_len) k
          || (differs s (at (stream s bs) k) && (leb k (q + 3) || (k == q + block_len))))) (b ∷ []) []
          ≡ cond ((leb q k && ltb k (q + block_len)) && ltb (q + 2) k) [] (b ∷ [])
      go (inr u) y z w v =
          let e = le-leb k q u in
          let f = le-ltb (q + 2) k (omega (arith, u)) in
          rw (e, f) (sym (held (leb q k && ltb k (q + block_len))))
      go (inl u) (inl y) z w v =
          let e = lt-leb k q u in
          let f = lt-ltb (q + block_len) k y in
          let g = le-leb q k (omega (arith, u)) in
          let i = le-ltb k (q + block_len) (omega (arith, y)) in
          rw (e, f, g, i) refl
      go (inl u) (inr y) (inl z) w v =
          let e = lt-leb k q u in
          let f = le-ltb (q + block_len) k y in
          let g = le-leb q k (omega (arith, u)) in
          let i = le-ltb k (q + block_len) (omega (arith, z)) in
          let o = high (q + block_len) (omega (arith, m, a)) (omega (arith, z)) (omega (arith, z)) in
          let t = lt-leb k (q + 3) (omega (arith, z, m)) in
          let r = eq-eqb k (q + block_len) z in
          rw (e, f, g, i, o, t, r) refl
      go (inl u) (inr y) (inr z) (inr w) v =
          let e = lt-leb k q u in
          let f = le-ltb (q + block_len) k y in
          let g = le-leb q k (omega (arith, u)) in
          let i = lt-ltb k (q + block_len) (omega (arith, y, z)) in
          let j = le-ltb (q + 2) k w in
          let o = high q a (omega (arith, u)) (omega (arith, w)) in
          let t = le-leb k (q + 3) (omega (arith, w)) in
          rw (e, f, g, i, j, o, t) refl
      go (inl u) (inr y) (inr z) (inl w) (inl v) =
          let e = lt-leb k q u in
          let f = le-ltb (q + block_len) k y in
          let g = le-leb q k (omega (arith, u)) in
          let i = lt-ltb k (q + block_len) (omega (arith, y, z)) in
          let j = lt-ltb (q + 2) k w in
          let o = low v in
          rw (e, f, g, i, j, o) refl
      go (inl u) (inr y) (inr z) (inl w) (inr v) =
          let e = lt-leb k q u in
          let f = le-ltb (q + block_len) k y in
          let g = le-leb q k (omega (arith, u)) in
          let i = lt-ltb k (q + block_len) (omega (arith, y, z)) in
          let j = lt-ltb (q + 2) k w in
          let t = lt-leb k (q + 3) (omega (arith, w, v)) in
          let r = ne_eqb k (q + block_len) z in
          rw (e, f, g, i, j, t, r) (not-both (differs s (at (stream s bs) k)))

pub doubled-given : (errors : Errors) (s : Level) (bs : List (List (List Bool))) → All IsBlock bs
    → (k : ℕ) → IsOne errors Doubled k → k < length (stream s bs)
    → blocks (spoiled errors (stream s bs)) ≡ given_blocks (after_doubling k) bs 0 (length (stream s bs))
unfolding given_blocks
doubled-given errors s bs h k one l =
    ap blocks (doubled-one errors k (stream s bs) one l)
    ∙ blocks-inserted s bs h k (at (stream s bs) k) (omega (arith, l))
    ∙ given-same (after_insertion s k (at (stream s bs) k)) (after_doubling k) 0 0 (length (stream s bs)) bs refl
    (λ q b a o. own s bs (each-block bs h) k l q b a o)
