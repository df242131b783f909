-- In cells that keep the local rule, whatever the marks, each preamble stands at the start of a subframe, and is its
-- own.
use Rattle.std.proofs.Common.{◌≡◌, ℕ, suc, ◌+◌, ◌*◌, ◌/◌, ◌%◌, ◌<◌, ◌≤◌, ◌⊎◌, inl, inr, List, refl, length, ap, ap₂}
use Rattle.std.proofs.Common.{◌∙◌, sym, arith, lit<}
use Rattle.std.proofs.lemmas.Bool.{cases_lt, cases_eq}
use Rattle.aes3_level.specs.declared.level.Level.{Level}
use Rattle.aes3_slot.specs.declared.mark.Mark.{Mark}
use Rattle.aes3_slot.specs.declared.mark.Mark.TheVariants.{X, Y, Z}
use Rattle.aes3_level.specs.Cells.{other}
use Rattle.aes3_slot.specs.Rules.{StandsMark, at, before, shape, AllKept}
use Rattle.aes3_level.proofs.Runs.{other_ne}
use Rattle.aes3_slot.proofs.OwnPreambles.{stands-room, stands-at, change, run-of, two-of, own, shapes-apart}
use Rattle.aes3_slot.proofs.OwnPreambles.{same-from-first}

module _ (marks : ℕ → Mark) (s : Level) (c : List Level) (k : AllKept marks s c) (m : Mark) (t : Level) (p : ℕ)
    (z : StandsMark m t c p) where
  room : p + 8 ≤ length c
  room = stands-room m t c p z

  -- cell n of the preamble, at offset o of its subframe, where that is within the subframe's own preamble
  inner : (n o : ℕ) → n < 8 → (p + n) % 64 ≡ o → o < 8
      → shape m n t ≡ shape (marks ((p + n) / 64)) o (before s c (64 * ((p + n) / 64)))
  inner n o h e g =
      let r = room in
      let w = (k (p + n) (omega (arith, r))).preamble (omega arith) in
      sym (stands-at m t c p n h z) ∙ rw e at w

  -- two cells next to each other, seen in the subframe's own preamble
  both-of : (n o : ℕ) → n < 7 → (p + n) % 64 ≡ o → o < 7 → shape m (n + 1) t ≡ shape m n t
      → (d : Mark) (u : Level) → marks ((p + n) / 64) ≡ d → before s c (64 * ((p + n) / 64)) ≡ u
      → shape d (o + 1) u ≡ shape d o u
  both-of n o h e g q d u a b =
      let x = inner n o (omega arith) e (omega arith) in
      let y = inner (n + 1) (o + 1) (omega arith) (omega arith) (omega arith) in
      let f : (p + (n + 1)) / 64 ≡ (p + n) / 64 = omega arith in
      sym (ap₂ (λ d u. shape d (o + 1) u) a b) ∙ sym (rw f at y) ∙ q ∙ x ∙ ap₂ (λ d u. shape d o u) a b

-- every preamble begins with three equal cells
firsts : (m : Mark) (t : Level) → (shape m 1 t ≡ shape m 0 t) × (shape m 2 t ≡ shape m 1 t)
firsts X t = (refl, refl)
firsts Y t = (refl, refl)
firsts Z t = (refl, refl)

-- and changes behind them
change-2 : (d : Mark) (u : Level) → shape d 3 u ≡ shape d 2 u → ⊥
change-2 X u e = other_ne (other u) e
change-2 Y u e = other_ne (other u) e
change-2 Z u e = other_ne (other u) e

pub aligned : (marks : ℕ → Mark) (s : Level) (c : List Level) → AllKept marks s c → (m : Mark) (t : Level) (p : ℕ)
    → StandsMark m t c p → p % 64 ≡ 0
aligned marks s c k m t p z = go (cases_lt (p % 64) 6) (cases_lt (p % 64) 62) (cases_lt (p % 64) 63)
  where
    r : p + 8 ≤ length c
    r = stands-room m t c p z

    f1 : shape m (0 + 1) t ≡ shape m 0 t
    f1 = (firsts m t).0

    f2 : shape m (0 + 2) t ≡ shape m (0 + 1) t
    f2 = (firsts m t).1

    f2' : shape m (1 + 1) t ≡ shape m 1 t
    f2' = (firsts m t).1

    one : p % 64 ≡ 1 → ⊥
    one e = change-2 _ _ (both-of marks s c k m t p z 1 2 (lit< tt) (omega arith) (lit< tt) f2' (marks ((p + 1) / 64))
        (before s c (64 * ((p + 1) / 64))) refl refl)

    two : p % 64 ≡ 2 → ⊥
    two e = change-2 _ _ (both-of marks s c k m t p z 0 2 (lit< tt) (omega arith) (lit< tt) f1 (marks ((p + 0) / 64))
        (before s c (64 * ((p + 0) / 64))) refl refl)

    three : (m : Mark) → StandsMark m t c p → p % 64 ≡ 3 → ⊥
    three X z e = run-of marks s c k X t p z 3 (lit< tt) refl refl (omega arith) (omega arith)
    three Z z e = run-of marks s c k Z t p z 5 (lit< tt) refl refl (omega arith) (omega arith)
    three Y z e = by (marks ((p + 0) / 64)) refl
      where
        -- within it three are equal from offset 3 on, so it is X; then offsets 6 and 7 differ
        by : (d : Mark) → marks ((p + 0) / 64) ≡ d → ⊥
        by X q = other_ne _ (both-of marks s c k Y t p z 3 6 (lit< tt) (omega arith) (lit< tt) refl X
            (before s c (64 * ((p + 3) / 64)))
            (ap marks (let y : (p + 3) / 64 ≡ (p + 0) / 64 = omega arith in y) ∙ q) refl)
        by Y q = other_ne _ (both-of marks s c k Y t p z 1 4 (lit< tt) (omega arith) (lit< tt) refl Y
            (before s c (64 * ((p + 1) / 64)))
            (ap marks (let y : (p + 1) / 64 ≡ (p + 0) / 64 = omega arith in y) ∙ q) refl)
        by Z q = other_ne _ (both-of marks s c k Y t p z 0 3 (lit< tt) (omega arith) (lit< tt) refl Z
            (before s c (64 * ((p + 0) / 64))) q refl)

    four : p % 64 ≡ 4 → ⊥
    four e = by (marks ((p + 0) / 64)) refl
      where
        by : (d : Mark) → marks ((p + 0) / 64) ≡ d → ⊥
        by X q = other_ne _ (both-of marks s c k m t p z 1 5 (lit< tt) (omega arith) (lit< tt) f2' X
            (before s c (64 * ((p + 1) / 64)))
            (ap marks (let y : (p + 1) / 64 ≡ (p + 0) / 64 = omega arith in y) ∙ q) refl)
        by Y q = other_ne _ (both-of marks s c k m t p z 0 4 (lit< tt) (omega arith) (lit< tt) f1 Y
            (before s c (64 * ((p + 0) / 64))) q refl)
        by Z q = other_ne _ (both-of marks s c k m t p z 0 4 (lit< tt) (omega arith) (lit< tt) f1 Z
            (before s c (64 * ((p + 0) / 64))) q refl)

    five : (m : Mark) → StandsMark m t c p → p % 64 ≡ 5 → ⊥
    five X z e = run-of marks s c k X t p z 3 (lit< tt) refl refl (omega arith) (omega arith)
    five Z z e = run-of marks s c k Z t p z 5 (lit< tt) refl refl (omega arith) (omega arith)
    five Y z e =
        let a = stands-at Y t c p 6 (lit< tt) z in
        let b = stands-at Y t c p 7 (lit< tt) z in
        let y : p + 7 ≡ suc (p + 6) = omega arith in
        change marks s c k (p + 6) (omega (arith, r)) (omega arith) (omega arith) (ap (at c) (sym y) ∙ b ∙ sym a)

    low : (p % 64 ≡ 0) ⊎ (p % 64 ≡ 0 → ⊥) → (p % 64 ≡ 1) ⊎ (p % 64 ≡ 1 → ⊥) → (p % 64 ≡ 2) ⊎ (p % 64 ≡ 2 → ⊥)
        → (p % 64 ≡ 3) ⊎ (p % 64 ≡ 3 → ⊥) → (p % 64 ≡ 4) ⊎ (p % 64 ≡ 4 → ⊥) → p % 64 < 6 → p % 64 ≡ 0
    low (inl a) b d e f h = a
    low (inr a) (inl b) d e f h = absurd (one b)
    low (inr a) (inr b) (inl d) e f h = absurd (two d)
    low (inr a) (inr b) (inr d) (inl e) f h = absurd (three m z e)
    low (inr a) (inr b) (inr d) (inr e) (inl f) h = absurd (four f)
    low (inr a) (inr b) (inr d) (inr e) (inr f) h = absurd (five m z (omega arith))

    go : (p % 64 < 6) ⊎ (6 ≤ p % 64) → (p % 64 < 62) ⊎ (62 ≤ p % 64) → (p % 64 < 63) ⊎ (63 ≤ p % 64) → p % 64 ≡ 0
    go (inl a) b d = low (cases_eq (p % 64) 0) (cases_eq (p % 64) 1) (cases_eq (p % 64) 2) (cases_eq (p % 64) 3)
        (cases_eq (p % 64) 4) a
    go (inr a) (inl b) d = absurd (run-of marks s c k m t p z 0 (lit< tt) f1 f2 (omega arith) (omega arith))
    go (inr a) (inr b) (inl d) = absurd (two-of marks s c k m t p z 1 (lit< tt) f2' (omega arith))
    go (inr a) (inr b) (inr d) = absurd (two-of marks s c k m t p z 0 (lit< tt) f1 (omega arith))

-- so it is the subframe's own
pub aligned-own : (marks : ℕ → Mark) (s : Level) (c : List Level) (k : AllKept marks s c) (m : Mark) (t : Level) (p : ℕ)
    → StandsMark m t c p
    → (marks (p / 64) ≡ m) × (before s c p ≡ t)
aligned-own marks s c k m t p z =
    let e = own marks s c k m t p z (aligned marks s c k m t p z) in (
      shapes-apart (marks (p / 64)) m (before s c p) t e,
      same-from-first (marks (p / 64)) m (before s c p) t
          (e 0 (lit< tt)),
    )
