-- The preambles of a piece of a lawful stream are its true ones and no other.
use Rattle.std.proofs.Common.{◌≡◌, ℕ, zero, suc, ◌+◌, ◌-◌, ◌*◌, ◌%◌, ◌<◌, ◌≤◌, ◌⊎◌, inl, inr, List, [], ◌∷◌, ◌++◌, Bool}
use Rattle.std.proofs.Common.{true, false, ◌&&◌, cond, leb, Some, None, refl, length, take, drop, ap, ap₂, ◌∙◌, sym}
use Rattle.std.proofs.Common.{subst, arith, length-take, take-take, get_or-take, lit<}
use Rattle.std.specs.Option.{option_to_list, option_map}
use Rattle.std.proofs.lemmas.Bool.{cases_lt, false_from_ne_true}
use Rattle.aes3_level.specs.declared.level.Level.{Level}
use Rattle.aes3_level.specs.declared.level.Level.TheVariants.{Low}
use Rattle.aes3_level.specs.Cells.{line, other}
use Rattle.aes3_slot.specs.declared.mark.Mark.{Mark}
use Rattle.aes3_slot.specs.declared.mark.Mark.TheVariants.{X, Y, Z}
use Rattle.aes3_slot.specs.Slots.{mark_runs}
use Rattle.aes3_slot.specs.Rules.{StandsMark}
use Rattle.aes3_slot.proofs.OwnPreambles.{stands-room}
use Rattle.aes3_frame.specs.Blocks.{mark_at, block_subframes, stream}
use Rattle.aes3_frame.proofs.FileLaws.{EachBlock, each-block}
use Rattle.aes3_slot.specs.Preambles.{entry, begins_with, same_cells}
use Rattle.aes3_lock.specs.Preambles.{first_mark, placed, marks_from, marks}
use Rattle.aes3_lock.specs.Pieces.{IsPiece, marks_within, true_marks}
use Rattle.aes3_slot.proofs.Beginnings.{begins-stands, stands-begins, stands-entry, stands-once, stands-drop}
use Rattle.aes3_slot.proofs.Beginnings.{drop-stands}
use Rattle.aes3_lock.proofs.Places.{collect, gather, spaced, collect-gather, Sparse, gather-spaced}
use Rattle.aes3_lock.proofs.PieceBounds.{piece-rest, length-piece, both-true, second-false, inside}
use Rattle.aes3_lock.proofs.PieceBounds.{gather-inside}
use Rattle.aes3_lock.proofs.LawfulPieces.{stream_marks, stream-length, stream-stands, stream-aligned}

-- the preamble at the start
not-begins : (m n : Mark) (t : Level) (c : List Level) → StandsMark m t c 0 → (m ≡ n → ⊥) → begins_with n c ≡ false
not-begins m n t c z ne =
    false_from_ne_true (begins_with n c) (λ e. ne (stands-once m n t (entry c) c z (begins-stands n c e)))

pub first_mark-some : (m : Mark) (t : Level) (c : List Level) → StandsMark m t c 0 → first_mark c ≡ Some (m, t)
unfolding first_mark
first_mark-some X t c z =
    let b = stands-begins X t c z in
    rw b (ap (λ s. Some (X, s)) (stands-entry X t c z))
first_mark-some Y t c z =
    let x = not-begins Y X t c z (λ e. cc) in
    let b = stands-begins Y t c z in
    rw (x, b) (ap (λ s. Some (Y, s)) (stands-entry Y t c z))
first_mark-some Z t c z =
    let x = not-begins Z X t c z (λ e. cc) in
    let y = not-begins Z Y t c z (λ e. cc) in
    let b = stands-begins Z t c z in
    rw (x, y, b) (ap (λ s. Some (Z, s)) (stands-entry Z t c z))

pub first_mark-none : (c : List Level) → ((m : Mark) (t : Level) → StandsMark m t c 0 → ⊥) → first_mark c ≡ None
unfolding first_mark
first_mark-none c n =
    let none : (m : Mark)
    → begins_with m c ≡ false = λ m. false_from_ne_true (begins_with m c) (λ e. n m (entry c) (begins-stands m c e)) in
    let x = none X in
    let y = none Y in
    let z = none Z in
    rw (x, y, z) refl

-- eight cells suffice
begins-take : (m : Mark) (n : ℕ) (c : List Level) → 8 ≤ n → begins_with m (take n c) ≡ begins_with m c
unfolding begins_with
begins-take m n c h =
    ap₂ (λ a b. same_cells a (line (other b) (mark_runs m))) (take-take 8 n c h) (get_or-take n c 0 Low (omega arith))

first_mark-take : (n : ℕ) (c : List Level) → 8 ≤ n → first_mark (take n c) ≡ first_mark c
unfolding first_mark
first_mark-take n c h =
    let x = begins-take X n c h in
    let y = begins-take Y n c h in
    let z = begins-take Z n c h in
    let e : entry (take n c) ≡ entry c = ap other (get_or-take n c 0 Low (omega arith)) in
    rw (x, y, z)
    (ap (λ s. cond (begins_with X c) (Some (X, s))
    (cond (begins_with Y c) (Some (Y, s)) (cond (begins_with Z c) (Some (Z, s)) None))) e)

-- place by place
abbrev mark_here : ℕ → List Level → List (ℕ × Mark × Level)
mark_here p c = option_to_list (option_map (placed p) (first_mark c))

marks-collect : (p : ℕ) (c : List Level) → marks_from p c ≡ collect mark_here p c
marks-collect p [] = refl
marks-collect p (x ∷ c) = ap (λ z. mark_here p (x ∷ c) ++ z) (marks-collect (suc p) c)

module _ (s : Level) (bs : List (List (List Bool))) (h : EachBlock bs) (i j : ℕ) (order : i ≤ j)
    (within : j ≤ length (stream s bs)) where
  -- what stands at a place of the stream, where the piece has all of it
  given : ℕ → List (ℕ × Mark × Level)
  given = inside 8 i j (λ q. mark_here (q - i) (drop q (stream s bs)))

  given-here : (q : ℕ) → q < j - i → mark_here (0 + q) (drop q (take (j - i) (drop i (stream s bs)))) ≡ given (i + q)
  unfolding given
  given-here q l = go (cases_lt j (i + q + 8))
    where
      rest : drop q (take (j - i) (drop i (stream s bs))) ≡ take (j - (i + q)) (drop (i + q) (stream s bs))
      rest = piece-rest i j q (stream s bs) (omega arith)

      go : (j < i + q + 8) ⊎ (i + q + 8 ≤ j)
          → mark_here (0 + q) (drop q (take (j - i) (drop i (stream s bs))))
          ≡ cond (leb i (i + q) && leb (i + q + 8) j) (mark_here (i + q - i) (drop (i + q) (stream s bs))) []
      go (inr o) =
          let e : 0 + q ≡ i + q - i = omega arith in
          ap₂ mark_here e rest
          ∙ ap (λ m. option_to_list (option_map (placed (i + q - i)) m))
          (first_mark-take (j - (i + q)) (drop (i + q) (stream s bs)) (omega arith))
          ∙ sym (both-true i (i + q) (i + q + 8) j (mark_here (i + q - i) (drop (i + q) (stream s bs))) []
          (omega arith) o)
      go (inl o) =
          let n = length-take (j - (i + q)) (drop (i + q) (stream s bs)) in
          ap (mark_here (0 + q)) rest
          ∙ ap (λ m. option_to_list (option_map (placed (0 + q)) m))
          (first_mark-none (take (j - (i + q)) (drop (i + q) (stream s bs)))
          (λ m t z. let r = stands-room m t (take (j - (i + q)) (drop (i + q) (stream s bs))) 0 z in
          omega (arith, n, r)))
          ∙ sym (second-false i (i + q) (i + q + 8) j (mark_here (i + q - i) (drop (i + q) (stream s bs))) [] o)

  given-within : gather given 0 (length (stream s bs)) ≡ gather given i (j - i)
  unfolding given
  given-within =
      gather-inside 8 i j (length (stream s bs)) (λ q. mark_here (q - i) (drop q (stream s bs))) (lit< tt) order within

  -- between the starts of subframes nothing stands
  given-between : (q : ℕ) → (q % 64 ≡ 0 → ⊥) → given q ≡ []
  unfolding given
  given-between q n =
      let e = first_mark-none (drop q (stream s bs)) (λ m t z.
      let a : q + 0 ≡ q = omega arith in
      n (stream-aligned s bs h m t q
      (subst (StandsMark m t (stream s bs)) a (stands-drop m t (stream s bs) q 0 z))).0) in
      rw e (none (leb i q && leb (q + 8) j))
    where
      none : (b : Bool) → ◌≡◌ {A = List (ℕ × Mark × Level)} (cond b [] []) []
      none true = refl
      none false = refl

  given-sparse : (p n : ℕ) → p % 64 ≡ 0 → Sparse given 64 p n
  given-sparse p zero e = tt
  given-sparse p (suc n) e = (λ r a b. given-between (p + r) (λ q. omega arith), given-sparse (p + 64) n (omega arith))

  -- at the start of a subframe its preamble
  given-own : (k : ℕ) → k < block_subframes * length bs
      → given (64 * k) ≡ cond (leb i (64 * k) && leb (64 * k + 8) j)
      ((64 * k - i, mark_at (k % block_subframes), s) ∷ []) []
  unfolding given
  given-own k l =
      let a : 64 * k ≡ 64 * k + 0 = omega arith in
      let z = drop-stands (stream_marks k) s (stream s bs) (64 * k) 0
      (subst (StandsMark (stream_marks k) s (stream s bs)) a (stream-stands s bs h k l)) in
      let e = first_mark-some (stream_marks k) s (drop (64 * k) (stream s bs)) z in
      ap (λ m. cond (leb i (64 * k) && leb (64 * k + 8) j) (option_to_list (option_map (placed (64 * k - i)) m)) []) e

  spaced-marks : (n k : ℕ) → k + n ≤ block_subframes * length bs → spaced given 64 (64 * k) n ≡ marks_within n k s i j
  spaced-marks zero k l = refl
  spaced-marks (suc n) k l =
      let a : 64 * k + 64 ≡ 64 * suc k = omega arith in
      ap₂ (λ u v. u ++ v) (given-own k (omega arith)) (ap (λ p. spaced given 64 p n) a
      ∙ spaced-marks n (suc k) (omega arith))

  piece-marks : marks_from 0 (take (j - i) (drop i (stream s bs))) ≡ marks_within (block_subframes * length bs) 0 s i j
  piece-marks =
      let c = take (j - i) (drop i (stream s bs)) in
      let n = length-piece i j (stream s bs) order within in
      let l = stream-length s bs h in
      let e : 64 * (block_subframes * length bs) ≡ block_subframes * length bs * 64 = omega arith in
      marks-collect 0 c
      ∙ collect-gather mark_here given 0 i c (λ q o. given-here q (omega (arith, n, o)))
      ∙ ap (gather given i) n
      ∙ sym given-within
      ∙ ap (gather given 0) (l ∙ e)
      ∙ gather-spaced given 64 0 (block_subframes * length bs) (lit< tt) (given-sparse 0 (block_subframes * length bs) refl)
      ∙ spaced-marks (block_subframes * length bs) 0 (omega arith)

pub marks-true : (s : Level) (bs : List (List (List Bool))) (i j : ℕ) (c : List Level) → IsPiece s bs i j c
    → marks c ≡ true_marks s bs i j
unfolding marks true_marks
marks-true s bs i j c p = ap (marks_from 0) p.is ∙ piece-marks s bs (each-block bs p.blocks) i j p.order p.within
