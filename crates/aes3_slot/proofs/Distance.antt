-- Away from its own place a block differs from a line in many cells.
use Rattle.std.proofs.Common.{◌≡◌, ◌≢◌, ℕ, zero, suc, ◌+◌, ◌*◌, ◌/◌, ◌%◌, ◌<◌, ◌≤◌, ◌⊎◌, inl, inr, List, refl, length}
use Rattle.std.proofs.Common.{take, drop, ap, ◌∙◌, sym, arith, length-drop, length-take-le, ext_get_or, get_or-take}
use Rattle.std.proofs.Common.{get_or-drop, lit<}
use Rattle.std.proofs.lemmas.Bool.{cases_eq}
use Rattle.aes3_level.specs.declared.level.Level.{Level}
use Rattle.aes3_level.specs.declared.level.Level.TheVariants.{Low, High}
use Rattle.aes3_slot.specs.declared.mark.Mark.{Mark}
use Rattle.aes3_slot.specs.declared.mark.Mark.TheVariants.{X, Y, Z}
use Rattle.aes3_level.specs.Cells.{line}
use Rattle.aes3_slot.specs.Slots.{mark_runs}
use Rattle.aes3_slot.specs.Rules.{StandsMark, at, before, shape, AllKept}
use Rattle.aes3_slot.proofs.Index.{length-mark}
use Rattle.aes3_slot.proofs.Aligned.{aligned}

-- two cells are equal or not
pub equal-or : (a b : Level) → (a ≡ b) ⊎ (a ≡ b → ⊥)
equal-or Low Low = inl refl
equal-or Low High = inr (λ e. cc)
equal-or High Low = inr (λ e. cc)
equal-or High High = inl refl

-- some cell below n differs, or none does
pub differ-some : (n : ℕ) (f g : ℕ → Level) → ((k : ℕ) × (k < n) × (f k ≡ g k → ⊥)) ⊎ ((k : ℕ) → k < n → f k ≡ g k)
differ-some zero f g = inr (λ k h. absurd (omega arith))
differ-some (suc n) f g = go (differ-some n f g) (equal-or (f n) (g n))
  where
    go : ((k : ℕ) × (k < n) × (f k ≡ g k → ⊥)) ⊎ ((k : ℕ) → k < n → f k ≡ g k) → (f n ≡ g n) ⊎ (f n ≡ g n → ⊥)
        → ((k : ℕ) × (k < suc n) × (f k ≡ g k → ⊥)) ⊎ ((k : ℕ) → k < suc n → f k ≡ g k)
    go (inl r) e = let h = r.1 in inl (r.0, omega arith, r.2)
    go (inr a) (inr e) = inl (n, omega arith, e)
    go (inr a) (inl e) = inr (λ k h. all k h (cases_eq k n))
      where
        all : (k : ℕ) → k < suc n → (k ≡ n) ⊎ (k ≡ n → ⊥) → f k ≡ g k
        all k h (inl q) = ap f q ∙ e ∙ ap g (sym q)
        all k h (inr q) = a k (omega arith)

pub stands-from : (m : Mark) (t : Level) (d : List Level) (p : ℕ) → p + 8 ≤ length d
    → ((k : ℕ) → k < 8 → at d (p + k) ≡ shape m k t) → StandsMark m t d p
stands-from m t d p r e =
    let l = length-drop p d in
    let n : length (take 8 (drop p d)) ≡ 8 = length-take-le 8 (drop p d) (omega (arith, l, r)) in
    let w = length-mark t m in
    record {
      is = ext_get_or Low (take 8 (drop p d)) (line t (mark_runs m)) (n ∙ sym w)
          (λ i h. get_or-take 8 (drop p d) i Low (omega (arith, n, h)) ∙ get_or-drop p d i Low
          ∙ e i (omega (arith, n, h)));
    }

module _ (marks own : ℕ → Mark) (s t : Level) (d e : List Level) (kd : AllKept marks s d) (ke : AllKept own t e) (p : ℕ)
    (off : p % 64 ≡ 0 → ⊥) where
  -- a preamble of the block has no place there
  pub preamble-apart : (j : ℕ) → p + 64 * j + 8 ≤ length d → 64 * j + 8 ≤ length e
      → (k : ℕ) × (k < 8) × (at d (p + 64 * j + k) ≡ at e (64 * j + k) → ⊥)
  preamble-apart j rd re = go (differ-some 8 (λ k. at d (p + 64 * j + k)) (λ k. at e (64 * j + k)))
    where
      stood : (k : ℕ) → k < 8 → at e (64 * j + k) ≡ shape (own j) k (before t e (64 * j))
      stood k h =
          let a : (64 * j + k) / 64 ≡ j = omega arith in
          let b : (64 * j + k) % 64 ≡ k = omega arith in
          rw (b, a) at ((ke (64 * j + k) (omega (arith, re, h))).preamble (omega arith))

      go : ((k : ℕ) × (k < 8) × (at d (p + 64 * j + k) ≡ at e (64 * j + k) → ⊥))
          ⊎ ((k : ℕ) → k < 8 → at d (p + 64 * j + k) ≡ at e (64 * j + k))
          → (k : ℕ) × (k < 8) × (at d (p + 64 * j + k) ≡ at e (64 * j + k) → ⊥)
      go (inl r) = r
      go (inr a) =
          let z = stands-from (own j) (before t e (64 * j)) d (p + 64 * j) rd (λ k h. a k h ∙ stood k h) in
          let w = aligned marks s d kd (own j) (before t e (64 * j)) (p + 64 * j) z in
          absurd (off (omega (arith, w)))

-- the cells of two different preambles differ in two places at least, whatever the levels
pub two-apart : (m n : Mark) (t u : Level) → (m ≡ n → ⊥) → (i j : ℕ) × (i < j) × (j < 8) × (shape m i t ≢ shape n i u)
    × (shape m j t ≢ shape n j u)
two-apart X X t u h = absurd (h refl)
two-apart Y Y t u h = absurd (h refl)
two-apart Z Z t u h = absurd (h refl)
two-apart X Y Low Low h = (5, 6, lit< tt, lit< tt, λ e. cc, λ e. cc)
two-apart X Y High High h = (5, 6, lit< tt, lit< tt, λ e. cc, λ e. cc)
two-apart X Z Low Low h = (4, 6, lit< tt, lit< tt, λ e. cc, λ e. cc)
two-apart X Z High High h = (4, 6, lit< tt, lit< tt, λ e. cc, λ e. cc)
two-apart Y X Low Low h = (5, 6, lit< tt, lit< tt, λ e. cc, λ e. cc)
two-apart Y X High High h = (5, 6, lit< tt, lit< tt, λ e. cc, λ e. cc)
two-apart Y Z Low Low h = (4, 5, lit< tt, lit< tt, λ e. cc, λ e. cc)
two-apart Y Z High High h = (4, 5, lit< tt, lit< tt, λ e. cc, λ e. cc)
two-apart Z X Low Low h = (4, 6, lit< tt, lit< tt, λ e. cc, λ e. cc)
two-apart Z X High High h = (4, 6, lit< tt, lit< tt, λ e. cc, λ e. cc)
two-apart Z Y Low Low h = (4, 5, lit< tt, lit< tt, λ e. cc, λ e. cc)
two-apart Z Y High High h = (4, 5, lit< tt, lit< tt, λ e. cc, λ e. cc)
two-apart X Y Low High h = (0, 1, lit< tt, lit< tt, λ e. cc, λ e. cc)
two-apart X Y High Low h = (0, 1, lit< tt, lit< tt, λ e. cc, λ e. cc)
two-apart X Z Low High h = (0, 1, lit< tt, lit< tt, λ e. cc, λ e. cc)
two-apart X Z High Low h = (0, 1, lit< tt, lit< tt, λ e. cc, λ e. cc)
two-apart Y X Low High h = (0, 1, lit< tt, lit< tt, λ e. cc, λ e. cc)
two-apart Y X High Low h = (0, 1, lit< tt, lit< tt, λ e. cc, λ e. cc)
two-apart Y Z Low High h = (0, 1, lit< tt, lit< tt, λ e. cc, λ e. cc)
two-apart Y Z High Low h = (0, 1, lit< tt, lit< tt, λ e. cc, λ e. cc)
two-apart Z X Low High h = (0, 1, lit< tt, lit< tt, λ e. cc, λ e. cc)
two-apart Z X High Low h = (0, 1, lit< tt, lit< tt, λ e. cc, λ e. cc)
two-apart Z Y Low High h = (0, 1, lit< tt, lit< tt, λ e. cc, λ e. cc)
two-apart Z Y High Low h = (0, 1, lit< tt, lit< tt, λ e. cc, λ e. cc)

-- cell k of the preamble of subframe j
pub own-cell : (own : ℕ → Mark) (s : Level) (c : List Level) → AllKept own s c → (j k : ℕ)
    → 64 * j + 8 ≤ length c → k < 8
    → at c (64 * j + k) ≡ shape (own j) k (before s c (64 * j))
own-cell own s c a j k r h =
    let x : (64 * j + k) / 64 ≡ j = omega arith in
    let y : (64 * j + k) % 64 ≡ k = omega arith in
    rw (y, x) at ((a (64 * j + k) (omega (arith, r, h))).preamble (omega arith))
