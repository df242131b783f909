-- The ways in which a candidate can end.
use Rattle.std.proofs.Common.{◌≡◌, ℕ, suc, ◌-◌, ◌<◌, ◌≤◌, ◌⊎◌, inl, inr, List, ◌++◌, Bool, true, false, cond, ltb, refl}
use Rattle.std.proofs.Common.{length, take, drop, ap, ◌∙◌, sym, subst, arith, take-append-drop, length-take}
use Rattle.std.proofs.Common.{length-take-le, lt-ltb, le-ltb, true≢false}
use Rattle.std.proofs.lemmas.Bool.{cases_lt, cases_Bool}
use Rattle.aes3_level.specs.declared.level.Level.{Level}
use Rattle.aes3_level.specs.Cells.{line}
use Rattle.aes3_slot.specs.Slots.{runs_of}
use Rattle.aes3_slot.specs.Rules.{at, before, AllKept, Each28}
use Rattle.aes3_slot.specs.Reading.{same, read_slots}
use Rattle.aes3_slot.proofs.RuleTests.{same-true, same-refl}
use Rattle.aes3_slot.proofs.Bridge.{read-runs}
use Rattle.aes3_slot.proofs.Unique.{read_slots-line}
use Rattle.aes3_frame.specs.Blocks.{mark_at, block_subframes, block_len}
use Rattle.aes3_slot.specs.Preambles.{entry}
use Rattle.aes3_lock.specs.Candidates.{front}
use Rattle.aes3_lock.specs.Outcomes.{Outcome, fault, unfinished, outcome, block_outcome}
use Rattle.aes3_lock.specs.Standing.{IsClosed, SubframesStand}
use Rattle.aes3_lock.proofs.Fronts.{IsFront, front-is, kept-from-keeps}
use Rattle.aes3_lock.proofs.Deciding.{block_len_64}
use Rattle.aes3_lock.proofs.Viability.{keeps-take}
use Rattle.aes3_frame.proofs.CellLaws.{block_len_24576}

-- the last cell of a block
pub last-cell : (s : Level) (c : List Level) → before s c block_len ≡ at c (block_len - 1)
last-cell s c =
    let n = block_len_24576 in
    ap (before s c) (let e : block_len ≡ suc (block_len - 1) = omega arith in e)

-- a cell refutes it; the cells end; no change closes it; a block is closed
pub data Ending (c : List Level) : Type 0 where
  refuted : front (entry c) c < length c → front (entry c) c < block_len
      → outcome c ≡ fault (front (entry c) c) → Ending c
  ended : front (entry c) c ≡ length c → length c < block_len → outcome c ≡ unfinished (length c) → Ending c
  unclosed : front (entry c) c ≡ block_len → block_len < length c → at c block_len ≡ at c (block_len - 1)
      → outcome c ≡ fault block_len → Ending c
  closed : front (entry c) c ≡ block_len → IsClosed c
      → outcome c ≡ block_outcome (entry c) (read_slots block_subframes c) → Ending c

outcome_by : ℕ → ℕ → Bool → Outcome → Outcome
outcome_by f n b block =
    cond (ltb f n) (cond (ltb f block_len) (fault f) (cond b (fault f) block))
    (cond (ltb f block_len) (unfinished f) block)

outcome-by : (c : List Level)
    → outcome c ≡ outcome_by (front (entry c) c) (length c)
    (same (at c (front (entry c) c)) (before (entry c) c (front (entry c) c)))
    (block_outcome (entry c) (read_slots block_subframes c))
unfolding outcome outcome_by
outcome-by c = refl

by-refuted : (f n : ℕ) (b : Bool) (o : Outcome) → f < n → f < block_len → outcome_by f n b o ≡ fault f
unfolding outcome_by
by-refuted f n b o h g = let t = lt-ltb f n h in let u = lt-ltb f block_len g in rw (t, u) refl

by-ended : (f n : ℕ) (b : Bool) (o : Outcome) → n ≤ f → f < block_len → outcome_by f n b o ≡ unfinished f
unfolding outcome_by
by-ended f n b o h g = let t = le-ltb f n h in let u = lt-ltb f block_len g in rw (t, u) refl

by-unclosed : (f n : ℕ) (o : Outcome) → f < n → block_len ≤ f → outcome_by f n true o ≡ fault f
unfolding outcome_by
by-unclosed f n o h g = let t = lt-ltb f n h in let u = le-ltb f block_len g in rw (t, u) refl

by-changed : (f n : ℕ) (o : Outcome) → f < n → block_len ≤ f → outcome_by f n false o ≡ o
unfolding outcome_by
by-changed f n o h g = let t = lt-ltb f n h in let u = le-ltb f block_len g in rw (t, u) refl

by-block : (f n : ℕ) (b : Bool) (o : Outcome) → n ≤ f → block_len ≤ f → outcome_by f n b o ≡ o
unfolding outcome_by
by-block f n b o h g = let t = le-ltb f n h in let u = le-ltb f block_len g in rw (t, u) refl

pub ending : (c : List Level) → Ending c
ending c = go (cases_lt f block_len) (cases_lt f (length c)) (cases_Bool b)
  where
    f : ℕ
    f = front (entry c) c

    b : Bool
    b = same (at c (front (entry c) c)) (before (entry c) c (front (entry c) c))

    o : Outcome
    o = block_outcome (entry c) (read_slots block_subframes c)

    r : IsFront (entry c) c (front (entry c) c)
    r = front-is (entry c) c

    go : (front (entry c) c < block_len) ⊎ (block_len ≤ front (entry c) c) → (front (entry c) c < length c)
        ⊎ (length c ≤ front (entry c) c)
        → (b ≡ true) ⊎ (b ≡ false) → Ending c
    go (inl g) (inl h) x = refuted h g (outcome-by c ∙ by-refuted f (length c) b o h g)
    go (inl g) (inr h) x =
        let w = r.within in
        let e : front (entry c) c ≡ length c = omega arith in
        ended e (omega arith) (outcome-by c ∙ by-ended f (length c) b o h g ∙ ap unfinished e)
    go (inr g) (inl h) (inl x) =
        let w = r.within in
        let e : front (entry c) c ≡ block_len = omega arith in
        let z : at c block_len ≡ before (entry c) c block_len =
        same-true _ _ (subst (λ n. same (at c n) (before (entry c) c n) ≡ true) e x) in
        unclosed e (omega arith) (z ∙ last-cell (entry c) c) (outcome-by c ∙ ap (λ b. outcome_by f (length c) b o) x
        ∙ by-unclosed f (length c) o h g ∙ ap fault e)
    go (inr g) (inl h) (inr x) =
        let w = r.within in
        let e : front (entry c) c ≡ block_len = omega arith in
        closed e
        (record {
          turns = λ l z.
              true≢false (sym (same-refl (before (entry c) c block_len))
              ∙ ap (λ y. same y (before (entry c) c block_len)) (sym (z ∙ sym (last-cell (entry c) c)))
              ∙ subst (λ n. same (at c n) (before (entry c) c n) ≡ false) e x);
        })
        (outcome-by c ∙ ap (λ b. outcome_by f (length c) b o) x ∙ by-changed f (length c) o h g)
    go (inr g) (inr h) x =
        let w = r.within in
        let v = r.within in
        closed (omega arith) (record { turns = λ l z. omega arith }) (outcome-by c ∙ by-block f (length c) b o h g)

-- where a block's number of cells keep the rule, they are those of the subframes read from them
pub read-stands : (s : Level) (c : List Level) → front s c ≡ block_len → SubframesStand (read_slots block_subframes c) s c
read-stands s c h = stand r.0 r.1 r.2 r.3
  where
    kept : AllKept mark_at s (take block_len c)
    kept i g =
        let f = front-is s c in
        let w = f.within in
        let n = length-take block_len c in
        kept-from-keeps s (take block_len c) i
        (keeps-take s c block_len i (omega (arith, n, g)) (omega (arith, n, g)) ∙ f.kept i (omega (arith, n, g)))

    r : (slots : List (List Bool)) × (length slots ≡ block_subframes) × Each28 slots
        × (take block_len c ≡ line s (runs_of mark_at slots))
    r =
        let w = (front-is s c).within in
        read-runs mark_at block_subframes s (take block_len c) (length-take-le block_len c (omega arith)
        ∙ block_len_64) kept

    stand : (slots : List (List Bool)) → length slots ≡ block_subframes → Each28 slots
        → take block_len c ≡ line s (runs_of mark_at slots)
        → SubframesStand (read_slots block_subframes c) s c
    stand slots n e cells =
        let q : read_slots block_subframes c ≡ slots =
        ap (read_slots block_subframes) (sym (take-append-drop block_len c) ∙ ap (λ x. x ++ drop block_len c) cells)
        ∙ ap (λ n. read_slots n (line s (runs_of mark_at slots) ++ drop block_len c)) (sym n)
        ∙ read_slots-line mark_at s slots (drop block_len c) e in
        record {
          count = ap length q ∙ n;
          each = subst Each28 (sym q) e;
          cells = cells ∙ ap (λ x. line s (runs_of mark_at x)) (sym q);
        }
