-- Preambles at the start of cells, as a test and as a fact.
use Rattle.std.proofs.Common.{◌≡◌, ℕ, ◌+◌, ◌<◌, ◌≤◌, List, [], ◌∷◌, ◌++◌, true, false, refl, length, take, drop, ap}
use Rattle.std.proofs.Common.{ap₂, ◌∙◌, sym, arith, drop-drop, length-take, lit<}
use Rattle.std.proofs.lemmas.Bool.{and_parts, false_from_ne_true}
use Rattle.std.proofs.lemmas.List.{take-append-le}
use Rattle.aes3_level.specs.declared.level.Level.{Level}
use Rattle.aes3_level.specs.Cells.{line, other}
use Rattle.aes3_level.proofs.Runs.{other-other}
use Rattle.aes3_slot.specs.declared.mark.Mark.{Mark}
use Rattle.aes3_slot.specs.declared.mark.Mark.TheVariants.{X, Y, Z}
use Rattle.aes3_slot.specs.Slots.{mark_runs}
use Rattle.aes3_slot.specs.Rules.{shape, StandsMark}
use Rattle.aes3_slot.specs.Reading.{same}
use Rattle.aes3_slot.specs.Preambles.{same_cells, entry, begins_with, begins_with_any}
use Rattle.aes3_slot.proofs.Index.{length-mark}
use Rattle.aes3_slot.proofs.RuleTests.{same-true, same-refl}
use Rattle.aes3_slot.proofs.OwnPreambles.{stands-at, shapes-apart}

same_cells-true : (c d : List Level) → same_cells c d ≡ true → c ≡ d
same_cells-true [] [] e = refl
same_cells-true [] (b ∷ d) e = cc
same_cells-true (a ∷ c) [] e = cc
same_cells-true (a ∷ c) (b ∷ d) e =
    let r = and_parts (same a b) (same_cells c d) e in
    ap₂ (λ x y. x ∷ y) (same-true a b r.0) (same_cells-true c d r.1)

same_cells-refl : (c : List Level) → same_cells c c ≡ true
same_cells-refl [] = refl
same_cells-refl (a ∷ c) = rw (same-refl a) (same_cells-refl c)

-- the test and the fact
pub begins-stands : (m : Mark) (c : List Level) → begins_with m c ≡ true → StandsMark m (entry c) c 0
unfolding begins_with
begins-stands m c e = record { is = same_cells-true (take 8 c) (line (entry c) (mark_runs m)) e }

-- a preamble has eight cells
pub begins-room : (m : Mark) (c : List Level) → begins_with m c ≡ true → 8 ≤ length c
begins-room m c e =
    let z = begins-stands m c e in
    let l = length-take 8 c in
    let n = ap length z.is ∙ length-mark (entry c) m in
    omega (arith, l, n)

pub begins-short : (m : Mark) (c : List Level) → length c < 8 → begins_with m c ≡ false
begins-short m c h = false_from_ne_true (begins_with m c) (λ e. let r = begins-room m c e in omega (arith, r, h))

-- cells behind the eighth count for nothing
pub entry-append : (c d : List Level) → 1 ≤ length c → entry (c ++ d) ≡ entry c
entry-append [] d h = absurd (omega arith)
entry-append (x ∷ c) d h = refl

pub begins-append : (m : Mark) (c d : List Level) → 8 ≤ length c → begins_with m (c ++ d) ≡ begins_with m c
unfolding begins_with
begins-append m c d h = ap₂ (λ x y. same_cells x (line y (mark_runs m))) (take-append-le 8 c d h)
    (entry-append c d (omega arith))

pub any-append : (c d : List Level) → 8 ≤ length c → begins_with_any (c ++ d) ≡ begins_with_any c
unfolding begins_with_any
any-append c d h = let x = begins-append X c d h in let y = begins-append Y c d h in let z = begins-append Z c d h in
    rw (x, y, z) refl

-- the level before it
pub stands-entry : (m : Mark) (t : Level) (c : List Level) → StandsMark m t c 0 → entry c ≡ t
stands-entry m t c z = ap other (stands-at m t c 0 0 (lit< tt) z ∙ first m) ∙ other-other t
  where
    first : (m : Mark) → shape m 0 t ≡ other t
    first X = refl
    first Y = refl
    first Z = refl

pub stands-begins : (m : Mark) (t : Level) (c : List Level) → StandsMark m t c 0 → begins_with m c ≡ true
unfolding begins_with
stands-begins m t c z =
    ap₂ same_cells z.is (ap (λ s. line s (mark_runs m)) (stands-entry m t c z)) ∙ same_cells-refl (line t (mark_runs m))

-- one at most stands there
pub stands-once : (m n : Mark) (t u : Level) (c : List Level) → StandsMark m t c 0 → StandsMark n u c 0 → m ≡ n
stands-once m n t u c a b = shapes-apart m n t u (λ k h. sym (stands-at m t c 0 k h a) ∙ stands-at n u c 0 k h b)

-- the same at a place
pub stands-drop : (m : Mark) (t : Level) (c : List Level) (p q : ℕ) → StandsMark m t (drop p c) q
    → StandsMark m t c (p + q)
stands-drop m t c p q z = record { is = ap (take 8) (sym (drop-drop q p c)) ∙ z.is }

pub drop-stands : (m : Mark) (t : Level) (c : List Level) (p q : ℕ) → StandsMark m t c (p + q)
    → StandsMark m t (drop p c) q
drop-stands m t c p q z = record { is = ap (take 8) (drop-drop q p c) ∙ z.is }
