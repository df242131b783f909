-- In cells that keep the local rule the preamble of a block stands at their start and nowhere else.
use Rattle.std.proofs.Common.{◌≡◌, ℕ, zero, suc, ◌+◌, ◌*◌, ◌/◌, ◌%◌, ◌<◌, ◌≤◌, ◌⊎◌, inl, inr, List, refl, length, drop}
use Rattle.std.proofs.Common.{ap, ◌∙◌, sym, arith, length-drop, get_or-drop, get_or-take, length-take, lit<}
use Rattle.std.proofs.lemmas.Bool.{cases_lt}
use Rattle.aes3_level.specs.declared.level.Level.{Level}
use Rattle.aes3_level.specs.declared.level.Level.TheVariants.{Low}
use Rattle.aes3_slot.specs.declared.mark.Mark.{Mark}
use Rattle.aes3_slot.specs.declared.mark.Mark.TheVariants.{X, Y, Z}
use Rattle.aes3_level.specs.Cells.{other}
use Rattle.aes3_slot.specs.Rules.{StandsMark, at, before, shape, AllKept}
use Rattle.aes3_level.proofs.Runs.{other-other, other_ne}
use Rattle.aes3_slot.proofs.Index.{length-mark}

pub stands-room : (m : Mark) (t : Level) (c : List Level) (p : ℕ) → StandsMark m t c p → p + 8 ≤ length c
stands-room m t c p z =
    let e = ap length z.is in
    let l = length-mark t m in
    let f = length-take 8 (drop p c) in
    let g = length-drop p c in
    omega (arith, e, f, g, l)

pub stands-at : (m : Mark) (t : Level) (c : List Level) (p k : ℕ) → k < 8 → StandsMark m t c p
    → at c (p + k) ≡ shape m k t
stands-at m t c p k h z =
    sym (get_or-drop p c k Low) ∙ sym (get_or-take 8 (drop p c) k Low h) ∙ ap (λ x. at x k) z.is

-- a slot begins with a change
pub change : (marks : ℕ → Mark) (s : Level) (c : List Level) → AllKept marks s c → (j : ℕ) → suc j < length c
    → 8 ≤ suc j % 64 → suc j % 2 ≡ 0 → at c (suc j) ≡ at c j → ⊥
change marks s c k j h a b e = other_ne (at c j) (sym ((k (suc j) h).slot a b) ∙ e)

-- three equal cells stand within preambles alone
pub three : (marks : ℕ → Mark) (s : Level) (c : List Level) → AllKept marks s c → (j : ℕ) → suc (suc j) < length c
    → 6 ≤ j % 64 → j % 64 ≤ 61 → at c (suc j) ≡ at c j → at c (suc (suc j)) ≡ at c (suc j) → ⊥
three marks s c k j h a b e f = go (cases_lt (j % 2) 1)
  where
    go : (j % 2 < 1) ⊎ (1 ≤ j % 2) → ⊥
    go (inl o) = change marks s c k (suc j) h (omega arith) (omega arith) f
    go (inr o) = change marks s c k j (omega arith) (omega arith) (omega arith) e

-- a subframe begins with a change
pub shape-first : (m : Mark) (u : Level) → shape m 0 u ≡ other u
shape-first X u = refl
shape-first Y u = refl
shape-first Z u = refl

pub begins : (marks : ℕ → Mark) (s : Level) (c : List Level) → AllKept marks s c → (j : ℕ) → suc j < length c
    → suc j % 64 ≡ 0 → at c (suc j) ≡ at c j → ⊥
begins marks s c k j h a e =
    let q : 64 * (suc j / 64) ≡ suc j = omega arith in
    let r = (k (suc j) h).preamble (omega arith) in
    other_ne (at c j) (sym (rw (a, q, shape-first) at r) ∙ e)

-- three cells of a preamble that are equal
pub run-of : (marks : ℕ → Mark) (s : Level) (c : List Level) → AllKept marks s c → (m : Mark) (t : Level) (p : ℕ)
    → StandsMark m t c p
    → (n : ℕ) → n < 6 → shape m (n + 1) t ≡ shape m n t → shape m (n + 2) t ≡ shape m (n + 1) t
    → 6 ≤ (p + n) % 64 → (p + n) % 64 ≤ 61 → ⊥
run-of marks s c k m t p z n h e f a b =
    let room = stands-room m t c p z in
    let c0 = stands-at m t c p n (omega arith) z in
    let c1 = stands-at m t c p (n + 1) (omega arith) z in
    let c2 = stands-at m t c p (n + 2) (omega arith) z in
    let q1 : p + (n + 1) ≡ suc (p + n) = omega arith in
    let q2 : p + (n + 2) ≡ suc (suc (p + n)) = omega arith in
    three marks s c k (p + n) (omega (arith, room)) a b
    (ap (at c) (sym q1) ∙ c1 ∙ e ∙ sym c0)
    (ap (at c) (sym q2) ∙ c2 ∙ f ∙ sym c1 ∙ ap (at c) q1)

-- two equal cells of a preamble, of which the second begins a subframe
pub two-of : (marks : ℕ → Mark) (s : Level) (c : List Level) → AllKept marks s c → (m : Mark) (t : Level) (p : ℕ)
    → StandsMark m t c p
    → (n : ℕ) → n < 7 → shape m (n + 1) t ≡ shape m n t → (p + n) % 64 ≡ 63 → ⊥
two-of marks s c k m t p z n h e a =
    let room = stands-room m t c p z in
    let c0 = stands-at m t c p n (omega arith) z in
    let c1 = stands-at m t c p (n + 1) (omega arith) z in
    let q1 : p + (n + 1) ≡ suc (p + n) = omega arith in
    begins marks s c k (p + n) (omega (arith, room)) (omega arith)
    (ap (at c) (sym q1) ∙ c1 ∙ e ∙ sym c0)

-- at the start of a subframe the eight cells are its own preamble, after the level before it
pub own : (marks : ℕ → Mark) (s : Level) (c : List Level) → AllKept marks s c → (m : Mark) (t : Level) (p : ℕ)
    → StandsMark m t c p
    → p % 64 ≡ 0 → (k : ℕ) → k < 8 → shape (marks (p / 64)) k (before s c p) ≡ shape m k t
own marks s c k m t p z a n h =
    let room = stands-room m t c p z in
    let q : 64 * ((p + n) / 64) ≡ p = omega arith in
    let r : (p + n) % 64 ≡ n = omega arith in
    let d : (p + n) / 64 ≡ p / 64 = omega arith in
    let w = (k (p + n) (omega (arith, room))).preamble (omega arith) in
    let v = stands-at m t c p n h z in
    sym (rw (q, r, d) at w) ∙ v

pub same-from-first : (m n : Mark) (t u : Level) → shape m 0 t ≡ shape n 0 u → t ≡ u
same-from-first m n t u e =
    sym (other-other t) ∙ ap other (sym (shape-first m t) ∙ e ∙ shape-first n u) ∙ other-other u

apart-at : (m n : Mark) (k : ℕ) → k < 8 → ((v : Level) → shape m k v ≡ other (shape n k v))
    → (t u : Level) → ((k : ℕ) → k < 8 → shape m k t ≡ shape n k u) → ⊥
apart-at m n k h d t u e =
    let same = same-from-first m n t u (e 0 (lit< tt)) in
    other_ne (shape n k u) (sym (d u) ∙ ap (shape m k) (sym same) ∙ e k h)

-- the cells of two preambles after two levels tell both
pub shapes-apart : (m n : Mark) (t u : Level) → ((k : ℕ) → k < 8 → shape m k t ≡ shape n k u) → m ≡ n
shapes-apart X X t u e = refl
shapes-apart Y Y t u e = refl
shapes-apart Z Z t u e = refl
shapes-apart X Y t u e = absurd (apart-at X Y 5 (lit< tt) (λ v. sym (other-other (other (other v)))) t u e)
shapes-apart X Z t u e = absurd (apart-at X Z 4 (lit< tt) (λ v. sym (other-other (other (other v)))) t u e)
shapes-apart Y X t u e = absurd (apart-at Y X 5 (lit< tt) (λ v. refl) t u e)
shapes-apart Y Z t u e = absurd (apart-at Y Z 4 (lit< tt) (λ v. sym (other-other (other (other v)))) t u e)
shapes-apart Z X t u e = absurd (apart-at Z X 4 (lit< tt) (λ v. refl) t u e)
shapes-apart Z Y t u e = absurd (apart-at Z Y 4 (lit< tt) (λ v. refl) t u e)

pub only-Z : (marks : ℕ → Mark) (s : Level) (c : List Level) → ((j : ℕ) → marks (suc j) ≡ Z → ⊥) → AllKept marks s c
    → (p : ℕ) (t : Level) → StandsMark Z t c p → p ≡ 0
only-Z marks s c m k p t z = go (cases_lt (p % 64) 1) (cases_lt (p % 64) 6) (cases_lt (p % 64) 62)
    (cases_lt (p % 64) 63)
  where
    second : (j : ℕ) → p / 64 ≡ suc j → p % 64 ≡ 0 → ⊥
    second j e a = m j (ap marks (sym e) ∙ shapes-apart (marks (p / 64)) Z (before s c p) t (own marks s c k Z t p z a))

    none : (j : ℕ) → p / 64 ≡ j → p % 64 ≡ 0 → p ≡ 0
    none zero e a = omega arith
    none (suc j) e a = absurd (second j e a)

    go : (p % 64 < 1) ⊎ (1 ≤ p % 64) → (p % 64 < 6) ⊎ (6 ≤ p % 64) → (p % 64 < 62) ⊎ (62 ≤ p % 64) → (p % 64 < 63)
        ⊎ (63 ≤ p % 64) → p ≡ 0
    go (inl a) b d e = none (p / 64) refl (omega arith)
    go (inr a) (inl b) d e = absurd (run-of marks s c k Z t p z 5 (lit< tt) refl refl (omega arith) (omega arith))
    go (inr a) (inr b) (inl d) e = absurd (run-of marks s c k Z t p z 0 (lit< tt) refl refl (omega arith) (omega arith))
    go (inr a) (inr b) (inr d) (inl e) = absurd (two-of marks s c k Z t p z 1 (lit< tt) refl (omega arith))
    go (inr a) (inr b) (inr d) (inr e) = absurd (two-of marks s c k Z t p z 0 (lit< tt) refl (omega arith))
