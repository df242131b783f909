-- Where a cell of a stream of whole blocks is lost between the first and the last of them, a gap counts.
use Rattle.std.proofs.Common.{◌≡◌, ℕ, zero, suc, ◌+◌, ◌-◌, ◌*◌, ◌%◌, ◌<◌, ◌≤◌, ◌⊎◌, inl, inr, Bool, List, [], ◌∷◌}
use Rattle.std.proofs.Common.{length, take, drop, refl, sym, ap, ◌∙◌, subst, arith}
use Rattle.std.specs.List.{All, Contains, filter}
use Rattle.std.proofs.lemmas.Bool.{cases_lt}
use Rattle.aes3_level.specs.declared.level.Level.{Level}
use Rattle.aes3_level.specs.declared.level.Level.TheVariants.{Low, High}
use Rattle.aes3_slot.specs.declared.mark.Mark.{Mark}
use Rattle.aes3_slot.specs.declared.mark.Mark.TheVariants.{X, Y, Z}
use Rattle.aes3_slot.specs.Rules.{at, shape}
use Rattle.aes3_slot.proofs.OwnPreambles.{stands-at}
use Rattle.aes3_frame.specs.Blocks.{block_len, block_subframes, stream, IsBlock}
use Rattle.aes3_frame.proofs.FileLaws.{each-block}
use Rattle.aes3_lock.specs.declared.report.Report.{Report}
use Rattle.aes3_lock.specs.declared.report.Report.TheVariants.{Whole, Marked, Fault, Unfinished}
use Rattle.aes3_lock.specs.Damage.{without}
use Rattle.aes3_lock.specs.Outcomes.{whole}
use Rattle.aes3_lock.specs.Reports.{reports}
use Rattle.aes3_lock.specs.Standing.{StandsClosed}
use Rattle.aes3_lock.proofs.AllStanding.{standing-at}
use Rattle.aes3_lock.proofs.ChangeReports.{at-report}
use Rattle.aes3_lock.proofs.DamageLaws.{stands-local}
use Rattle.aes3_lock.proofs.Deciding.{block_len_24576}
use Rattle.aes3_lock.proofs.LawfulPieces.{stream_marks, stream-length, stream-stands}
use Rattle.aes3_lock.proofs.Lost.{drop-without}
use Rattle.aes3_lock_gaps.specs.Gaps.{account, is_lost}
use Rattle.aes3_watch_laws.specs.GapLaws.{InRow}
use Rattle.aes3_watch_laws.proofs.LostGaps.{all-piece, length-blocks}
use Rattle.aes3_watch_laws.proofs.PieceGaps.{piece-stands}
use Rattle.aes3_watch_laws.proofs.Rowed.{no-gap}

-- a whole block of a row stands whole blocks behind the first
one-on : (a p n o : ℕ) → p ≡ a → o ≡ p + block_len + n * block_len → o ≡ a + suc n * block_len
one-on a p n o e f =
    let g : o ≡ p + 24576 + n * 24576 = f ∙ ap (λ (v : ℕ). p + v + n * v) block_len_24576 in
    rw block_len_24576 (omega arith)

in-row : (a : ℕ) (r : List Report) → InRow a r → (p : ℕ) (t : Level) (b : List (List Bool)) → Contains r (Whole p t b)
    → (n : ℕ) × (p ≡ a + n * block_len)
in-row a [] w p t b (k, l, q) = absurd (omega arith)
in-row a (Whole o u d ∷ r) w p t b (zero, l, q) = let v : o ≡ p = cc in let z : a ≡ a + 0 * block_len
    = omega arith in (0, sym v ∙ w.0 ∙ z)
in-row a (Whole o u d ∷ r) w p t b (suc k, l, q)
    = let n = in-row (o + block_len) r w.1 p t b (k, omega arith, q) in (suc n.0, one-on a o n.0 p w.0 n.1)
in-row a (Marked o u n ∷ r) w p t b (zero, l, q) = absurd (other q)
  where
    other : Marked o u n ≡ Whole p t b → ⊥
    other z = cc
in-row a (Marked o u n ∷ r) w p t b (suc k, l, q) = in-row a r w p t b (k, omega arith, q)
in-row a (Fault o c y ∷ r) w p t b (zero, l, q) = absurd (other q)
  where
    other : Fault o c y ≡ Whole p t b → ⊥
    other z = cc
in-row a (Fault o c y ∷ r) w p t b (suc k, l, q) = in-row a r w p t b (k, omega arith, q)
in-row a (Unfinished o n ∷ r) w p t b (zero, l, q) = absurd (other q)
  where
    other : Unfinished o n ≡ Whole p t b → ⊥
    other z = cc
in-row a (Unfinished o n ∷ r) w p t b (suc k, l, q) = in-row a r w p t b (k, omega arith, q)

-- the cells before a lost one are as they were
take-without : (n k : ℕ) (c : List Level) → n ≤ k → take n (without k c) ≡ take n c
take-without zero k c h = refl
take-without (suc n) k [] h = refl
take-without (suc n) zero (x ∷ c) h = absurd (omega arith)
take-without (suc n) (suc k) (x ∷ c) h = ap (λ v. x ∷ v) (take-without n k c (omega arith))

-- of two equal cells next to each other either may be lost
without-next : (k : ℕ) (c : List Level) → suc k < length c → at c k ≡ at c (suc k) → without k c ≡ without (suc k) c
without-next k [] h e = absurd (omega arith)
without-next zero (x ∷ []) h e = absurd (omega arith)
without-next zero (x ∷ y ∷ c) h e = ap (λ v. v ∷ c) (sym e)
without-next (suc k) (x ∷ c) h e = ap (λ v. x ∷ v) (without-next k c (omega arith) e)

-- the first two cells of a preamble are equal
first-run : (m : Mark) (s : Level) → shape m 0 s ≡ shape m 1 s
first-run X Low = refl
first-run X High = refl
first-run Y Low = refl
first-run Y High = refl
first-run Z Low = refl
first-run Z High = refl

-- where the first block and the last stand, but not whole blocks apart, they stand in no row
no-row : (n first i o : ℕ) → 0 ≡ first + i * block_len → n * block_len + block_len - 1 ≡ first + o * block_len → ⊥
no-row n first i o e f =
    let g : n * 24576 + 24576 - 1 ≡ first + o * 24576
    = sym (ap (λ (v : ℕ). n * v + v - 1) block_len_24576) ∙ f ∙ ap (λ (v : ℕ). first + o * v) block_len_24576 in
    omega arith

module _ (s : Level) (bs : List (List (List Bool))) (h : All IsBlock bs) where
  -- behind the cell that closes the first block
  behind-lost : (k : ℕ) → block_len < k → k + block_len < length (stream s bs)
      → length (filter is_lost (account (without k (stream s bs)))) ≡ 0 → ⊥
  behind-lost k l m e =
      let c = stream s bs in
      let p = all-piece s bs h in
      let n : length c ≡ length bs * 24576 = length-blocks s bs h ∙ ap (λ (v : ℕ). length bs * v) block_len_24576 in
      let w = block_len_24576 in
      let last : ℕ = (length bs - 2) * block_len + block_len - 1 in
      let y : last ≡ (length bs - 2) * 24576 + 24576 - 1
      = ap (λ (v : ℕ). (length bs - 2) * v + v - 1) block_len_24576 in
      let z : (0 + suc last) % block_len ≡ 0 = ap (λ (v : ℕ). (0 + suc last) % v) block_len_24576 ∙ omega arith in
      let o : (0 + 0) % block_len ≡ 0 = ap (λ (v : ℕ). (0 + 0) % v) block_len_24576 in
      let first = piece-stands s bs 0 (length c) c p 0 o (omega arith) in
      let end = piece-stands s bs 0 (length c) c p (suc last) z (omega arith) in
      let a = at-report (without k c) 0 (whole s first.0)
      (standing-at first.0 s (without k c)
      (stands-local first.0 s c (without k c) (sym (take-without (suc block_len) k c (omega arith))) first.1))
      in
      let b = at-report (without k c) last (whole s end.0)
      (standing-at end.0 s (drop last (without k c))
      (subst (StandsClosed end.0 s) (sym (drop-without k c last (omega arith))) end.1)) in
      let g = no-gap (without k c) e in
      let i = in-row g.first (reports (without k c)) g.row 0 s first.0 a in
      let j = in-row g.first (reports (without k c)) g.row last s end.0 b in
      no-row (length bs - 2) g.first i.0 j.0 i.1 j.1

  -- and that cell, which is equal to the next
  closing-same : block_len + block_len < length (stream s bs)
      → without block_len (stream s bs) ≡ without (suc block_len) (stream s bs)
  closing-same m =
      let n : length (stream s bs) ≡ 64 * (block_subframes * length bs) = stream-length s bs (each-block bs h) in
      without-next block_len (stream s bs) (let w = block_len_24576 in omega arith) (same m)
    where
      place : block_len ≡ 64 * 384
      place = block_len_24576

      stands : block_len + block_len < length (stream s bs) → 384 < block_subframes * length bs
      stands m =
          let n : length (stream s bs) ≡ 64 * (block_subframes * length bs) = stream-length s bs (each-block bs h) in
          let w = block_len_24576 in
          omega arith

      same : block_len + block_len < length (stream s bs)
          → at (stream s bs) block_len ≡ at (stream s bs) (suc block_len)
      same m =
          let z = stream-stands s bs (each-block bs h) 384 (stands m) in
          let a = stands-at (stream_marks 384) s (stream s bs) (64 * 384) 0 (omega arith) z in
          let b = stands-at (stream_marks 384) s (stream s bs) (64 * 384) 1 (omega arith) z in
          let u : block_len ≡ 64 * 384 + 0 = place in
          let v : suc block_len ≡ 64 * 384 + 1 = ap suc place in
          ap (at (stream s bs)) u ∙ a ∙ first-run (stream_marks 384) s ∙ sym b ∙ ap (at (stream s bs)) (sym v)

  none-lost : (k : ℕ) → block_len ≤ k → k + block_len < length (stream s bs)
      → length (filter is_lost (account (without k (stream s bs)))) ≡ 0 → ⊥
  none-lost k l m e = by (cases_lt block_len k)
    where
      three : block_len + block_len < length (stream s bs) → suc block_len + block_len < length (stream s bs)
      three m =
          let n : length (stream s bs) ≡ length bs * 24576
          = length-blocks s bs h ∙ ap (λ (v : ℕ). length bs * v) block_len_24576 in
          let w = block_len_24576 in
          omega arith

      by : (block_len < k) ⊎ (k ≤ block_len) → ⊥
      by (inl g) = behind-lost k g m e
      by (inr g) =
          let y : k ≡ block_len = omega arith in
          let r : block_len + block_len < length (stream s bs) = omega arith in
          let f = ap (λ v. length (filter is_lost (account v))) (ap (λ v. without v (stream s bs)) y ∙ closing-same r)
          in
          behind-lost (suc block_len) (omega arith) (three r) (sym f ∙ e)

  pub loss-lost : (k : ℕ) → block_len ≤ k → k + block_len < length (stream s bs)
      → 0 < length (filter is_lost (account (without k (stream s bs))))
  loss-lost k l m = go (length (filter is_lost (account (without k (stream s bs))))) refl
    where
      go : (n : ℕ) → length (filter is_lost (account (without k (stream s bs)))) ≡ n → 0 < n
      go zero e = absurd (none-lost k l m e)
      go (suc n) e = omega arith
