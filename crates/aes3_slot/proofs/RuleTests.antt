-- The rule as a test of each cell.
use Rattle.std.proofs.Common.{◌≡◌, ℕ, ◌*◌, ◌/◌, ◌%◌, ◌<◌, ◌≤◌, ◌⊎◌, inl, inr, List, ◌++◌, true, refl, length, ap, ◌∙◌}
use Rattle.std.proofs.Common.{arith, lt-ltb, le-ltb, eq-eqb, ne_eqb}
use Rattle.std.proofs.lemmas.Bool.{cases_lt, cases_eq}
use Rattle.std.proofs.lemmas.List.{get_or_append_left}
use Rattle.aes3_level.specs.declared.level.Level.{Level}
use Rattle.aes3_level.specs.declared.level.Level.TheVariants.{Low, High}
use Rattle.aes3_level.specs.Cells.{other}
use Rattle.aes3_slot.specs.declared.mark.Mark.{Mark}
use Rattle.aes3_slot.specs.Reading.{same, differs}
use Rattle.aes3_slot.specs.Rules.{at, before, shape, rule, Kept}
use Rattle.aes3_slot.specs.Fronts.{stands}
use Rattle.aes3_slot.proofs.Index.{before-append_left}

pub same-true : (a b : Level) → same a b ≡ true → a ≡ b
same-true Low Low e = refl
same-true Low High e = cc
same-true High Low e = cc
same-true High High e = refl

pub same-refl : (a : Level) → same a a ≡ true
same-refl Low = refl
same-refl High = refl

pub differs-true : (a b : Level) → differs a b ≡ true → a ≡ other b
differs-true Low Low e = cc
differs-true Low High e = refl
differs-true High Low e = refl
differs-true High High e = cc

pub differs-other : (a : Level) → differs (other a) a ≡ true
differs-other Low = refl
differs-other High = refl

-- the test and the rule
pub kept-from-rule : (marks : ℕ → Mark) (s : Level) (c : List Level) (i : ℕ)
    → rule marks i (at c i) (before s c (64 * (i / 64))) (before s c i) ≡ true → Kept marks s c i
kept-from-rule marks s c i e = record { preamble = first; slot = second }
  where
    first : i % 64 < 8 → at c i ≡ shape (marks (i / 64)) (i % 64) (before s c (64 * (i / 64)))
    first h = let t = lt-ltb (i % 64) 8 h in same-true _ _ (rw t at e)

    second : 8 ≤ i % 64 → i % 2 ≡ 0 → at c i ≡ other (before s c i)
    second h p =
        let t = le-ltb (i % 64) 8 h in
        let v = eq-eqb (i % 2) 0 p in
        differs-true _ _ (rw (t, v) at e)

pub rule-from-kept : (marks : ℕ → Mark) (s : Level) (c : List Level) (i : ℕ)
    → Kept marks s c i → rule marks i (at c i) (before s c (64 * (i / 64))) (before s c i) ≡ true
rule-from-kept marks s c i k = go (cases_lt (i % 64) 8) (cases_eq (i % 2) 0)
  where
    go : (i % 64 < 8) ⊎ (8 ≤ i % 64) → (i % 2 ≡ 0) ⊎ (i % 2 ≡ 0 → ⊥)
        → rule marks i (at c i) (before s c (64 * (i / 64))) (before s c i) ≡ true
    go (inl h) p =
        let t = lt-ltb (i % 64) 8 h in
        rw t (ap (λ x. same x (shape (marks (i / 64)) (i % 64) (before s c (64 * (i / 64))))) (k.preamble h)
        ∙ same-refl _)
    go (inr h) (inl p) =
        let t = le-ltb (i % 64) 8 h in
        let v = eq-eqb (i % 2) 0 p in
        rw (t, v) (ap (λ x. differs x (before s c i)) (k.slot h p) ∙ differs-other _)
    go (inr h) (inr p) =
        let t = le-ltb (i % 64) 8 h in
        let v = ne_eqb (i % 2) 0 p in
        rw (t, v) refl

-- the same within one subframe
pub kept-from-stands : (s : Level) (m : Mark) (c : List Level) (i : ℕ) → i < 64 → stands s m c i ≡ true
    → Kept (λ _. m) s c i
unfolding stands
kept-from-stands s m c i h e =
    let z : 64 * (i / 64) ≡ 0 = omega arith in
    kept-from-rule (λ _. m) s c i (rw z e)

pub stands-from-kept : (s : Level) (m : Mark) (c : List Level) (i : ℕ) → i < 64 → Kept (λ _. m) s c i
    → stands s m c i ≡ true
unfolding stands
stands-from-kept s m c i h k =
    let z : 64 * (i / 64) ≡ 0 = omega arith in
    rw z at (rule-from-kept (λ _. m) s c i k)

-- cells behind count for nothing
pub stands-append : (s : Level) (m : Mark) (c d : List Level) (i : ℕ) → i < length c
    → stands s m (c ++ d) i ≡ stands s m c i
unfolding stands
stands-append s m c d i h =
    let f : at (c ++ d) i ≡ at c i = get_or_append_left c d Low i h in
    let g : before s (c ++ d) i ≡ before s c i = before-append_left s c d i (omega arith) in
    rw (f, g) refl
