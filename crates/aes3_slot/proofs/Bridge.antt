-- The cells of subframes are those that keep the local rule at each index.
use Rattle.std.proofs.Common.{◌≡◌, ℕ, zero, suc, ◌+◌, ◌-◌, ◌*◌, ◌/◌, ◌%◌, ◌<◌, ◌≤◌, ◌⊎◌, inl, inr, List, [], ◌∷◌, ◌++◌}
use Rattle.std.proofs.Common.{Bool, refl, length, take, drop, ap, ap₂, ◌∙◌, sym, subst, arith, length-append}
use Rattle.std.proofs.Common.{take-append-drop, length-drop, length-take-le, take-add, ext_get_or}
use Rattle.std.proofs.lemmas.List.{get_or_append_left, get_or-append-add}
use Rattle.std.proofs.lemmas.Bool.{cases_lt}
use Rattle.aes3_level.specs.declared.level.Level.{Level}
use Rattle.aes3_level.specs.declared.level.Level.TheVariants.{Low}
use Rattle.aes3_slot.specs.declared.mark.Mark.{Mark}
use Rattle.aes3_level.specs.Cells.{line, other, after}
use Rattle.aes3_slot.specs.Slots.{bits_runs, mark_runs, runs_of, slot_runs}
use Rattle.aes3_slot.specs.Rules.{at, before, Kept, AllKept, Each28}
use Rattle.aes3_level.proofs.Runs.{line-append}
use Rattle.aes3_slot.proofs.Subframes.{line-slots}
use Rattle.aes3_slot.proofs.Index.{subframe, subframe-length, subframe-preamble, subframe-slot, subframe-last}
use Rattle.aes3_slot.proofs.Index.{read-bits, length-mark, last-mark, before-append_right, before-append_left}

-- the rule after a whole subframe is the rule of what follows it
pub kept-shift : (marks : ℕ → Mark) (s u : Level) (a b : List Level) (n : ℕ) → length a ≡ 64 → before s a 64 ≡ u
    → Kept (λ j. marks (suc j)) u b n → Kept marks s (a ++ b) (64 + n)
kept-shift marks s u a b n l e k =
    let q : (64 + n) / 64 ≡ suc (n / 64) = omega arith in
    let r : (64 + n) % 64 ≡ n % 64 = omega arith in
    let m : 64 * suc (n / 64) ≡ 64 + 64 * (n / 64) = omega arith in
    let f : at (a ++ b) (64 + n) ≡ at b n = ap (λ k. at (a ++ b) (k + n)) (sym l) ∙ get_or-append-add a b n Low in
    let g : (j : ℕ) → before s (a ++ b) (64 + j) ≡ before u b j =
    λ j. ap (λ k. before s (a ++ b) (k + j)) (sym l) ∙ before-append_right s u a b j (ap (before s a) l ∙ e) in
    let g1 = g (64 * (n / 64)) in
    let g2 = g n in
    record {
      preamble = λ h. rw (q, r, m, f, g1) (k.preamble (omega arith));
      slot = λ h p. rw (f, g2) (k.slot (omega arith) (omega arith));
    }

-- and within the first subframe it is that of the subframe alone
pub kept-first : (marks : ℕ → Mark) (s : Level) (bits : List Bool) (b : List Level) (i : ℕ) → length bits ≡ 28 → i < 64
    → Kept marks s (subframe s (marks 0) bits ++ b) i
kept-first marks s bits b i l h =
    let a = subframe s (marks 0) bits in
    let n = subframe-length s (marks 0) bits l in
    let q : i / 64 ≡ 0 = omega arith in
    let r : i % 64 ≡ i = omega arith in
    let f : at (a ++ b) i ≡ at a i = get_or_append_left a b Low i (omega (arith, n)) in
    let g : before s (a ++ b) i ≡ before s a i = before-append_left s a b i (omega (arith, n)) in
    record {
      preamble = λ p. rw (q, r, f) (subframe-preamble s (marks 0) bits i (omega arith));
      slot = λ o p.
          let k : i ≡ 8 + 2 * ((i - 8) / 2) = omega arith in
          rw (f, g) (rw k (subframe-slot s (marks 0) bits ((i - 8) / 2) (omega arith)));
    }

-- one more subframe at the front
kept-join : (marks : ℕ → Mark) (s : Level) (bits : List Bool) (b : List Level) → length bits ≡ 28
    → AllKept (λ j. marks (suc j)) (after s (slot_runs (marks 0) bits)) b
    → AllKept marks s (subframe s (marks 0) bits ++ b)
kept-join marks s bits b e k i h = go (cases_lt i 64)
  where
    go : (i < 64) ⊎ (64 ≤ i) → Kept marks s (subframe s (marks 0) bits ++ b) i
    go (inl g) = kept-first marks s bits b i e g
    go (inr g) =
        let l = subframe-length s (marks 0) bits e in
        let z = length-append (subframe s (marks 0) bits) b in
        let m : 64 + (i - 64) ≡ i = omega arith in
        rw m at (kept-shift marks s (after s (slot_runs (marks 0) bits)) (subframe s (marks 0) bits) b (i - 64) l
        (subframe-last s (marks 0) bits e)
        (k (i - 64) (omega (arith, z, l, h, g))))

pub kept-runs : (marks : ℕ → Mark) (s : Level) (ps : List (List Bool)) → Each28 ps
    → AllKept marks s (line s (runs_of marks ps))
kept-runs marks s [] e = λ i h. absurd (omega arith)
kept-runs marks s (bits ∷ more) e =
    let u = after s (slot_runs (marks 0) bits) in
    let joined = line-append s (slot_runs (marks 0) bits) (runs_of (λ j. marks (suc j)) more) in
    subst (AllKept marks s) (sym joined)
    (kept-join marks s bits (line u (runs_of (λ j. marks (suc j)) more)) e.0
    (kept-runs (λ j. marks (suc j)) u more e.1))

-- cells behind count for nothing
pub kept-append : (marks : ℕ → Mark) (s : Level) (a b : List Level) (i : ℕ) → i < length a → Kept marks s a i
    → Kept marks s (a ++ b) i
kept-append marks s a b i h r =
    let f : at (a ++ b) i ≡ at a i = get_or_append_left a b Low i h in
    let g1 = before-append_left s a b i (omega arith) in
    let g2 = before-append_left s a b (64 * (i / 64)) (omega arith) in
    record { preamble = λ p. rw (f, g2) (r.preamble p); slot = λ p q. rw (f, g1) (r.slot p q) }

pub kept-left : (marks : ℕ → Mark) (s : Level) (a b : List Level) (i : ℕ) → i < length a → Kept marks s (a ++ b) i
    → Kept marks s a i
kept-left marks s a b i h r =
    let f : at (a ++ b) i ≡ at a i = get_or_append_left a b Low i h in
    let g1 = before-append_left s a b i (omega arith) in
    let g2 = before-append_left s a b (64 * (i / 64)) (omega arith) in
    record { preamble = λ p. rw (f, g2) at (r.preamble p); slot = λ p q. rw (f, g1) at (r.slot p q) }

-- the rule of a front
pub kept-front : (marks : ℕ → Mark) (s : Level) (a b : List Level) → AllKept marks s (a ++ b) → AllKept marks s a
kept-front marks s a b k i h = let z = length-append a b in kept-left marks s a b i h (k i (omega (arith, z, h)))

-- the rule of what follows a whole subframe
pub kept-rest : (marks : ℕ → Mark) (s u : Level) (a b : List Level) → length a ≡ 64 → before s a 64 ≡ u
    → AllKept marks s (a ++ b) → AllKept (λ j. marks (suc j)) u b
kept-rest marks s u a b l e k n h =
    let z = length-append a b in
    let r = k (64 + n) (omega (arith, z, h, l)) in
    let q : (64 + n) / 64 ≡ suc (n / 64) = omega arith in
    let w : (64 + n) % 64 ≡ n % 64 = omega arith in
    let m : 64 * suc (n / 64) ≡ 64 + 64 * (n / 64) = omega arith in
    let f : at (a ++ b) (64 + n) ≡ at b n = ap (λ k. at (a ++ b) (k + n)) (sym l) ∙ get_or-append-add a b n Low in
    let g : (j : ℕ) → before s (a ++ b) (64 + j) ≡ before u b j =
    λ j. ap (λ k. before s (a ++ b) (k + j)) (sym l) ∙ before-append_right s u a b j (ap (before s a) l ∙ e) in
    let g1 = g (64 * (n / 64)) in
    let g2 = g n in
    record {
      preamble = λ p. rw (q, w, m, f, g1) at (r.preamble (omega arith));
      slot = λ o p. rw (f, g2) at (r.slot (omega arith) (omega arith));
    }

-- 64 cells that keep the rule are a subframe
pub read-one : (marks : ℕ → Mark) (s : Level) (a b : List Level) → length a ≡ 8 → length b ≡ 56
    → AllKept marks s (a ++ b)
    → (bits : List Bool) × (length bits ≡ 28) × (a ++ b ≡ subframe s (marks 0) bits)
read-one marks s a b la lb k = (r.0, r.1, ap₂ (λ x y. x ++ y) preamble r.2 ∙ sym (line-slots s (marks 0) r.0))
  where
    z : length (a ++ b) ≡ 64
    z = let z = length-append a b in omega (arith, z, la, lb)

    preamble : a ≡ line s (mark_runs (marks 0))
    preamble = ext_get_or Low a (line s (mark_runs (marks 0)))
        (la ∙ sym (length-mark s (marks 0)))
        (λ i h.
        let q : i / 64 ≡ 0 = omega (arith, la, h) in
        let w : i % 64 ≡ i = omega (arith, la, h) in
        let f = get_or_append_left a b Low i h in
        sym f ∙ (rw (q, w) at ((k i (omega (arith, z, la, h))).preamble (omega (arith, la, h)))))

    start : before s a (length a) ≡ s
    start = ap (λ x. before s x (length a)) preamble ∙ ap (before s (line s (mark_runs (marks 0)))) la
        ∙ last-mark s (marks 0)

    r : (bits : List Bool) × (length bits ≡ 28) × (b ≡ line s (bits_runs bits))
    r = read-bits 28 s b lb (λ j h.
        let e : (n : ℕ) → length a + n ≡ 8 + n = λ n. omega (arith, la) in
        let f = get_or-append-add a b (2 * j) Low in
        let g = before-append_right s s a b (2 * j) start in
        let t = (k (8 + 2 * j) (omega (arith, z, h))).slot (omega (arith, h)) (omega arith) in
        sym f ∙ ap (at (a ++ b)) (e (2 * j)) ∙ t ∙ ap (λ n. other (before s (a ++ b) n)) (sym (e (2 * j))) ∙ ap other g)

-- back: cells that keep it are those of some bits
abbrev Read : (ℕ → Mark) → ℕ → Level → List Level → Type 0
Read marks n s c = (ps : List (List Bool)) × (length ps ≡ n) × Each28 ps × (c ≡ line s (runs_of marks ps))

read-more : (marks : ℕ → Mark) (n : ℕ) (s : Level) (a b d : List Level) → length a ≡ 8 → length b ≡ 56
    → AllKept marks s ((a ++ b) ++ d)
    → ((u : Level) → AllKept (λ j. marks (suc j)) u d → Read (λ j. marks (suc j)) n u d)
    → Read marks (suc n) s ((a ++ b) ++ d)
read-more marks n s a b d la lb k rest = go r.0 r.1 r.2
  where
    r : (bits : List Bool) × (length bits ≡ 28) × (a ++ b ≡ subframe s (marks 0) bits)
    r = read-one marks s a b la lb (kept-front marks s (a ++ b) d k)

    go : (bits : List Bool) → length bits ≡ 28 → a ++ b ≡ subframe s (marks 0) bits
        → Read marks (suc n) s ((a ++ b) ++ d)
    go bits l e =
        let u = after s (slot_runs (marks 0) bits) in
        let k' : AllKept marks s (subframe s (marks 0) bits ++ d) = subst (λ x. AllKept marks s (x ++ d)) e k in
        let more = rest u (kept-rest marks s u (subframe s (marks 0) bits) d (subframe-length s (marks 0) bits l)
        (subframe-last s (marks 0) bits l) k') in (
          bits ∷ more.0,
          ap suc more.1,
          (l, more.2),
          ap₂ (λ x y. x ++ y) e more.3
              ∙ sym (line-append s (slot_runs (marks 0) bits) (runs_of (λ j. marks (suc j)) more.0)),
        )

pub read-runs : (marks : ℕ → Mark) (n : ℕ) (s : Level) (c : List Level) → length c ≡ 64 * n → AllKept marks s c
    → (ps : List (List Bool)) × (length ps ≡ n) × Each28 ps × (c ≡ line s (runs_of marks ps))
read-runs marks zero s [] l k = ([], refl, tt, refl)
read-runs marks zero s (a ∷ c) l k = absurd (omega arith)
read-runs marks (suc n) s c l k =
    let l8 = length-drop 8 c in
    let la : length (take 8 c) ≡ 8 = length-take-le 8 c (omega arith) in
    let lb : length (take 56 (drop 8 c)) ≡ 56 = length-take-le 56 (drop 8 c) (omega (arith, l8, l)) in
    let ld : length (drop 64 c) ≡ 64 * n = length-drop 64 c ∙ omega (arith, l) in
    let whole : c ≡ (take 8 c ++ take 56 (drop 8 c)) ++ drop 64 c = sym {b = c} (take-append-drop 64 c)
    ∙ ap (λ x. x ++ drop 64 c) (take-add 8 56 c) in
    subst (Read marks (suc n) s) (sym whole)
    (read-more marks n s (take 8 c) (take 56 (drop 8 c)) (drop 64 c) la lb (subst (AllKept marks s) whole k)
    (λ u. read-runs (λ j. marks (suc j)) n u (drop 64 c) ld))
