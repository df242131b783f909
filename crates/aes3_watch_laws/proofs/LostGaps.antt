-- Where a cell of a stream of whole blocks changes, a gap counts.
use Rattle.std.proofs.Common.{◌≡◌, ℕ, zero, suc, ◌+◌, ◌-◌, ◌*◌, ◌%◌, ◌<◌, ◌≤◌, ◌⊎◌, inl, inr, Bool, true, false, cond}
use Rattle.std.proofs.Common.{leb, ◌&&◌, List, [], ◌∷◌, Some, length, drop, refl, sym, ap, ap₂, ◌∙◌, subst, arith}
use Rattle.std.proofs.Common.{le-leb, length-append}
use Rattle.std.specs.List.{All, Contains, filter}
use Rattle.std.proofs.lemmas.Bool.{cases_lt}
use Rattle.std.proofs.lemmas.List.{take_all}
use Rattle.aes3_level.specs.declared.level.Level.{Level}
use Rattle.aes3_frame.specs.Blocks.{block_len, stream, IsBlock}
use Rattle.aes3_frame.proofs.FileLaws.{each-block}
use Rattle.aes3_lock.specs.declared.report.Report.{Report}
use Rattle.aes3_lock.specs.declared.report.Report.TheVariants.{Whole, Marked, Fault, Unfinished}
use Rattle.aes3_lock.specs.Damage.{changed}
use Rattle.aes3_lock.specs.Outcomes.{Outcome, whole, marked, fault, unfinished}
use Rattle.aes3_lock.specs.Pieces.{IsPiece, given_within, given_blocks}
use Rattle.aes3_lock.specs.Remains.{after_change, reaches}
use Rattle.aes3_lock.specs.Reports.{report_of, outcome_at, reports, wholes, blocks}
use Rattle.aes3_lock.specs.Standing.{StandsClosed}
use Rattle.aes3_lock.proofs.AllStanding.{at-standing}
use Rattle.aes3_lock.proofs.Apart.{apart-changed, length-changed}
use Rattle.aes3_lock.proofs.ChangeReports.{report-at}
use Rattle.aes3_lock.proofs.DamageLaws.{few-blocks}
use Rattle.aes3_lock.proofs.Deciding.{block_len_24576}
use Rattle.aes3_lock.proofs.LawfulPieces.{stream-length}
use Rattle.aes3_lock.proofs.PlaceBlocks.{whole-len}
use Rattle.aes3_lock.proofs.TwoChanges.{blocks-one-changed}
use Rattle.aes3_lock_gaps.specs.Gaps.{account, is_lost}
use Rattle.aes3_watch_laws.specs.GapLaws.{InRow}
use Rattle.aes3_watch_laws.proofs.Rowed.{no-block, no-gap}

-- the block of a whole report stands closed at its place
whole-stands : (c : List Level) (at : ℕ) (t : Level) (b : List (List Bool)) → Contains (reports c) (Whole at t b)
    → StandsClosed b t (drop at c)
whole-stands c at t b h = let r = report-at c at (Whole at t b) h refl in go r.0 r.1 r.2
  where
    go : (o : Outcome) → outcome_at (drop at c) ≡ Some o → Whole at t b ≡ report_of at o → StandsClosed b t (drop at c)
    go (whole s d) e q =
        let u : s ≡ t = cc in
        let v : d ≡ b = cc in
        at-standing b t (drop at c) (e ∙ ap₂ (λ x y. Some (whole x y)) u v)
    go (marked s n) e q = cc
    go (fault f) e q = cc
    go (unfinished n) e q = cc

-- the first of whole blocks in a row, if there is one
pub row-first : (a : ℕ) (r : List Report) → InRow a r
    → (wholes r ≡ []) ⊎ ((t : Level) × (b : List (List Bool)) × Contains r (Whole a t b))
row-first a [] h = inl refl
row-first a (Whole at t b ∷ r) h = inr (t, b, (0, omega arith, ap (λ p. Whole p t b) h.0))
row-first a (Marked at t n ∷ r) h
    = elim (row-first a r h) [
      | inl e ↦ inl e
      | inr m ↦ inr (m.0, m.1, (suc m.2.0, (let l = m.2.1 in omega arith), m.2.2))
    ]
row-first a (Fault at cell why ∷ r) h
    = elim (row-first a r h) [
      | inl e ↦ inl e
      | inr m ↦ inr (m.0, m.1, (suc m.2.0, (let l = m.2.1 in omega arith), m.2.2))
    ]
row-first a (Unfinished at n ∷ r) h
    = elim (row-first a r h) [
      | inl e ↦ inl e
      | inr m ↦ inr (m.0, m.1, (suc m.2.0, (let l = m.2.1 in omega arith), m.2.2))
    ]

-- of blocks of which a cell changes at least one is not given
one-at-most : (x y : Bool) (b : List (List Bool)) → length (cond x (cond y [] (b ∷ [])) []) ≤ 1
one-at-most true true b = omega arith
one-at-most true false b = omega arith
one-at-most false y b = omega arith

given-most : (k p i j : ℕ) (bs : List (List (List Bool))) → length (given_within (after_change k) p i j bs) ≤ length bs
given-most k p i j [] = omega arith
given-most k p i j (b ∷ bs) =
    let first = cond (leb i p && leb (p + block_len) j) (after_change k p b) [] in
    let n = length-append first (given_within (after_change k) (p + block_len) i j bs) in
    let m = one-at-most (leb i p && leb (p + block_len) j) (reaches k p) b in
    let r = given-most k (p + block_len) i j bs in
    omega arith

none-given : (x y : Bool) (b : List (List Bool)) → y ≡ true → length (cond x (cond y [] (b ∷ [])) []) ≡ 0
none-given true true b e = refl
none-given false true b e = refl
none-given x false b e = cc

given-fewer : (k p i j : ℕ) (bs : List (List (List Bool))) → p ≤ k → k < p + length bs * block_len
    → length (given_within (after_change k) p i j bs) < length bs
given-fewer k p i j [] h l = absurd (omega arith)
given-fewer k p i j (b ∷ bs) h l =
    let first = cond (leb i p && leb (p + block_len) j) (after_change k p b) [] in
    let n = length-append first (given_within (after_change k) (p + block_len) i j bs) in
    by n (λ a w. given-fewer k (p + block_len) i j bs a w) (cases_lt k (p + block_len))
  where
    by : length (given_within (after_change k) p i j (b ∷ bs))
        ≡ length (cond (leb i p && leb (p + block_len) j) (after_change k p b) [])
        + length (given_within (after_change k) (p + block_len) i j bs)
        → (p + block_len ≤ k → k < p + block_len + length bs * block_len
        → length (given_within (after_change k) (p + block_len) i j bs) < length bs)
        → (k < p + block_len) ⊎ (p + block_len ≤ k)
        → length (given_within (after_change k) p i j (b ∷ bs)) < suc (length bs)
    by n next (inl a) =
        let y : reaches k p ≡ true = ap₂ (λ u v. u && v) (le-leb p k h) (le-leb k (p + block_len) (omega arith)) in
        let z = none-given (leb i p && leb (p + block_len) j) (reaches k p) b y in
        let r = given-most k (p + block_len) i j bs in
        omega arith
    by n next (inr a) =
        let w : p + suc (length bs) * block_len ≡ p + block_len + length bs * block_len
        = rw block_len_24576 (omega arith) in
        let m = one-at-most (leb i p && leb (p + block_len) j) (reaches k p) b in
        let r = next a (subst (λ v. k < v) w l) in
        omega arith

-- the stream as a piece of itself
pub all-piece : (s : Level) (bs : List (List (List Bool))) → All IsBlock bs
    → IsPiece s bs 0 (length (stream s bs)) (stream s bs)
all-piece s bs h = record {
  blocks = h;
  order = omega arith;
  within = omega arith;
  is = sym (take_all (length (stream s bs) - 0) (stream s bs) (omega arith));
}

pub length-blocks : (s : Level) (bs : List (List (List Bool))) → All IsBlock bs
    → length (stream s bs) ≡ length bs * block_len
length-blocks s bs h = stream-length s bs (each-block bs h) ∙ whole-len (length bs)

-- no row of fewer blocks has all the cells
short-row : (n m first len : ℕ) → len ≡ n * block_len → m < n → first % block_len ≡ 0 → first < block_len
    → len < first + block_len * (m + 1) → ⊥
short-row n m first len e l z f r =
    let a : len ≡ n * 24576 = e ∙ ap (λ (v : ℕ). n * v) block_len_24576 in
    let b : first % 24576 ≡ 0 = sym (ap (λ (v : ℕ). first % v) block_len_24576) ∙ z in
    let c : first < 24576 = subst (λ (v : ℕ). first < v) block_len_24576 f in
    let d : len < first + 24576 * (m + 1) = subst (λ (v : ℕ). len < first + v * (m + 1)) block_len_24576 r in
    omega arith

no-row : (n len : ℕ) → len ≡ n * block_len → 0 < len → len < block_len → ⊥
no-row n len e z l =
    let a : len ≡ n * 24576 = e ∙ ap (λ (v : ℕ). n * v) block_len_24576 in
    let c : len < 24576 = subst (λ (v : ℕ). len < v) block_len_24576 l in
    omega arith

aligned-first : (first : ℕ) → (0 + first) % block_len ≡ 0 → first % block_len ≡ 0
aligned-first first e = let z : first ≡ 0 + first = omega arith in ap (λ v. v % block_len) z ∙ e

none-lost : (s : Level) (bs : List (List (List Bool))) → All IsBlock bs → (k : ℕ) → k < length (stream s bs)
    → length (filter is_lost (account (changed k (stream s bs)))) ≡ 0 → ⊥
unfolding given_blocks
none-lost s bs h k l e =
    let c = stream s bs in
    let p = all-piece s bs h in
    let n = length-blocks s bs h in
    let m = length-changed k c in
    let g = no-gap (changed k c) e in
    go g.first (row-first g.first (reports (changed k c)) g.row) g.begins g.ends (no-block (changed k c) e)
    (λ t b w. aligned-first g.first
    (few-blocks s bs 0 (length c) c (changed k c) p m g.first b t (whole-stands (changed k c) g.first t b w)
    (let a = apart-changed k c in omega arith)))
    (subst (λ (d : List (List (List Bool))). length d < length bs) (sym (blocks-one-changed s bs 0 (length c) c p k l))
    (given-fewer (0 + k) 0 0 (length c) bs (omega arith) (omega arith)))
    (m ∙ n) (omega arith)
  where
    go : (first : ℕ) → (wholes (reports (changed k (stream s bs))) ≡ [])
        ⊎ ((t : Level) × (b : List (List Bool)) × Contains (reports (changed k (stream s bs))) (Whole first t b))
        → first < block_len → length (changed k (stream s bs))
        < first + block_len * (length (blocks (changed k (stream s bs))) + 1)
        → (wholes (reports (changed k (stream s bs))) ≡ [] → length (changed k (stream s bs)) < block_len)
        → ((t : Level) (b : List (List Bool)) → Contains (reports (changed k (stream s bs))) (Whole first t b)
        → first % block_len ≡ 0)
        → length (blocks (changed k (stream s bs))) < length bs
        → length (changed k (stream s bs)) ≡ length bs * block_len → 0 < length (changed k (stream s bs)) → ⊥
    go first (inl none) f r short at few n some
        = no-row (length bs) (length (changed k (stream s bs))) n some (short none)
    go first (inr w) f r short at few n some =
        short-row (length bs) (length (blocks (changed k (stream s bs)))) first (length (changed k (stream s bs))) n few
        (at w.0 w.1 w.2) f r

pub change-lost : (s : Level) (bs : List (List (List Bool))) → All IsBlock bs → (k : ℕ) → k < length (stream s bs)
    → 0 < length (filter is_lost (account (changed k (stream s bs))))
change-lost s bs h k l = go (length (filter is_lost (account (changed k (stream s bs))))) refl
  where
    go : (n : ℕ) → length (filter is_lost (account (changed k (stream s bs)))) ≡ n → 0 < n
    go zero e = absurd (none-lost s bs h k l e)
    go (suc n) e = omega arith
