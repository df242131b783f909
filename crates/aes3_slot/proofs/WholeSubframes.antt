-- Cells that keep the rule go on to whole subframes.
use Rattle.std.proofs.Common.{◌≡◌, ℕ, zero, suc, ◌-◌, ◌*◌, ◌/◌, ◌%◌, ◌<◌, ◌≤◌, ◌⊎◌, inl, inr, List, [], ◌∷◌, ◌++◌, Bool}
use Rattle.std.proofs.Common.{refl, length, ap, sym, subst, arith, length-append, append_assoc, append-nil}
use Rattle.std.proofs.lemmas.Bool.{cases_lt}
use Rattle.std.proofs.lemmas.List.{get_or_push}
use Rattle.aes3_level.specs.declared.level.Level.{Level}
use Rattle.aes3_level.specs.declared.level.Level.TheVariants.{Low}
use Rattle.aes3_level.specs.Cells.{line, other}
use Rattle.aes3_slot.specs.declared.mark.Mark.{Mark}
use Rattle.aes3_slot.specs.Slots.{runs_of}
use Rattle.aes3_slot.specs.Rules.{at, before, shape, Kept, AllKept, Each28}
use Rattle.aes3_slot.proofs.Index.{before-append_left}
use Rattle.aes3_slot.proofs.Bridge.{read-runs, kept-append}

-- one more cell
pub kept-new : (marks : ℕ → Mark) (s : Level) (c : List Level) (x : Level)
    → (length c % 64 < 8 → x ≡ shape (marks (length c / 64)) (length c % 64) (before s c (64 * (length c / 64))))
    → (8 ≤ length c % 64 → length c % 2 ≡ 0 → x ≡ other (before s c (length c)))
    → Kept marks s (c ++ x ∷ []) (length c)
kept-new marks s c x h g =
    let f : at (c ++ x ∷ []) (length c) ≡ x = get_or_push c x Low (length c) refl in
    let a = before-append_left s c (x ∷ []) (length c) (omega arith) in
    let b = before-append_left s c (x ∷ []) (64 * (length c / 64)) (omega arith) in
    record { preamble = λ p. rw (f, b) (h p); slot = λ p q. rw (f, a) (g p q) }

pub kept-push : (marks : ℕ → Mark) (s : Level) (c : List Level) (x : Level) → AllKept marks s c
    → Kept marks s (c ++ x ∷ []) (length c)
    → AllKept marks s (c ++ x ∷ [])
kept-push marks s c x k e i h = go (cases_lt i (length c))
  where
    go : (i < length c) ⊎ (length c ≤ i) → Kept marks s (c ++ x ∷ []) i
    go (inl g) = kept-append marks s c (x ∷ []) i g (k i g)
    go (inr g) =
        let n = length-append c (x ∷ []) in
        let q : length c ≡ i = omega (arith, n, h, g) in
        subst (λ j. Kept marks s (c ++ x ∷ []) j) q e

-- some cell may always come next
extend-one : (marks : ℕ → Mark) (s : Level) (c : List Level) → AllKept marks s c → (x : Level)
    × AllKept marks s (c ++ x ∷ [])
extend-one marks s c k = go (cases_lt (length c % 64) 8)
  where
    go : (length c % 64 < 8) ⊎ (8 ≤ length c % 64) → (x : Level) × AllKept marks s (c ++ x ∷ [])
    go (inl a) =
        let x = shape (marks (length c / 64)) (length c % 64) (before s c (64 * (length c / 64))) in
        (x, kept-push marks s c x k (kept-new marks s c x (λ p. refl) (λ p q. absurd (omega arith))))
    go (inr a) =
        let x = other (before s c (length c)) in
        (x, kept-push marks s c x k (kept-new marks s c x (λ p. absurd (omega arith)) (λ p q. refl)))

pub extend : (n : ℕ) (marks : ℕ → Mark) (s : Level) (c : List Level) → AllKept marks s c → (d : List Level)
    × (length d ≡ n) × AllKept marks s (c ++ d)
extend zero marks s c k = ([], refl, subst (AllKept marks s) (sym (append-nil c)) k)
extend (suc n) marks s c k =
    let x = extend-one marks s c k in
    let r = extend n marks s (c ++ x.0 ∷ []) x.1 in
    (x.0 ∷ r.0, ap suc r.1, subst (AllKept marks s) (append_assoc c (x.0 ∷ []) r.0) r.2)

-- the cells begin n subframes
pub extend-runs : (n : ℕ) (marks : ℕ → Mark) (s : Level) (c : List Level) → length c ≤ 64 * n → AllKept marks s c
    → (slots : List (List Bool)) × (length slots ≡ n) × Each28 slots
    × ((rest : List Level) × (line s (runs_of marks slots) ≡ c ++ rest))
extend-runs n marks s c l k =
    let e = extend (64 * n - length c) marks s c k in
    let m = length-append c e.0 in
    let d = e.1 in
    let r = read-runs marks n s (c ++ e.0) (omega (arith, m, d, l)) e.2 in
    (r.0, r.1, r.2, (e.0, sym r.3))
