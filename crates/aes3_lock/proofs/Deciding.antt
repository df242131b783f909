-- What one more cell decides.
use Rattle.std.proofs.Common.{◌≡◌, ℕ, zero, suc, ◌+◌, ◌*◌, ◌/◌, ◌%◌, ◌<◌, ◌≤◌, ◌⊎◌, inl, inr, List, [], ◌∷◌, ◌++◌, Bool}
use Rattle.std.proofs.Common.{true, false, cond, ltb, eqb, ◌&&◌, Some, None, refl, length, take, drop, ap, ap₂, ◌∙◌}
use Rattle.std.proofs.Common.{sym, arith, length-append, lt-ltb, le-ltb, ltb-true, eqb-true, true≢false, lit<}
use Rattle.std.proofs.Common.{append_assoc, append-nil}
use Rattle.std.proofs.lemmas.Bool.{cases_lt, and_parts, eqb-false}
use Rattle.std.proofs.lemmas.List.{get_or_append_left, take-append-le, drop-append-le, length-drop}
use Rattle.std.proofs.lemmas.Option.{same_Some}
use Rattle.aes3_level.specs.declared.level.Level.{Level}
use Rattle.aes3_level.specs.declared.level.Level.TheVariants.{Low}
use Rattle.aes3_slot.specs.declared.mark.Mark.TheVariants.{X, Y, Z}
use Rattle.aes3_slot.specs.Rules.{StandsMark, at, before, shape, AllKept}
use Rattle.aes3_slot.specs.Reading.{same, read_slots, read_bits}
use Rattle.aes3_slot.proofs.Index.{before-append_left}
use Rattle.aes3_slot.proofs.RuleTests.{same-refl}
use Rattle.aes3_slot.proofs.OwnPreambles.{only-Z, stands-at}
use Rattle.aes3_frame.specs.Blocks.{mark_at, block_subframes, block_len}
pub use Rattle.aes3_frame.proofs.CellLaws.{block_len_24576}
use Rattle.aes3_lock.specs.declared.report.Report.{Report}
use Rattle.aes3_slot.specs.Preambles.{entry}
use Rattle.aes3_lock.specs.Candidates.{keeps, front, begins_block}
use Rattle.aes3_lock.specs.Outcomes.{outcome, Outcome, fault, unfinished, block_outcome}
use Rattle.aes3_lock.specs.Reports.{told, decided_at, open_at, decided_from}
use Rattle.aes3_lock.proofs.Fronts.{front-is, front-stays, kept-from-keeps}
use Rattle.aes3_slot.proofs.Beginnings.{begins-stands, begins-room, entry-append, begins-append}

pub block_len_64 : block_len ≡ 64 * block_subframes
unfolding block_len
block_len_64 = refl

pub read_slots-append : (n : ℕ) (c d : List Level) → 64 * n ≤ length c → read_slots n (c ++ d) ≡ read_slots n c
read_slots-append zero c d h = refl
read_slots-append (suc n) c d h =
    let l8 = length-drop 8 c in
    let l64 = length-drop 64 c in
    let a : drop 8 (c ++ d) ≡ drop 8 c ++ d = drop-append-le 8 c d (omega arith) in
    let b : take 56 (drop 8 c ++ d) ≡ take 56 (drop 8 c) = take-append-le 56 (drop 8 c) d (omega (arith, l8, h)) in
    let e : drop 64 (c ++ d) ≡ drop 64 c ++ d = drop-append-le 64 c d (omega arith) in
    ap₂ (λ x y. read_bits x ∷ y) (ap (take 56) a ∙ b)
    (ap (read_slots n) e ∙ read_slots-append n (drop 64 c) d (omega (arith, l64, h)))

-- the outcome by what it reads
abbrev pub outcome_by : Level → ℕ → ℕ → Bool → List (List Bool) → Outcome
outcome_by s f n b slots =
    cond (ltb f n)
    (cond (ltb f block_len) (fault f) (cond b (fault f) (block_outcome s slots)))
    (cond (ltb f block_len) (unfinished f) (block_outcome s slots))

pub outcome_is : (c : List Level) → outcome c ≡ outcome_by (entry c) (front (entry c) c) (length c)
    (same (at c (front (entry c) c)) (before (entry c) c (front (entry c) c))) (read_slots block_subframes c)
unfolding outcome
outcome_is c = refl

outcome_by-same : (s : Level) (f n m : ℕ) (b : Bool) (ps qs : List (List Bool)) → f < n → f < m
    → (block_len ≤ f → ps ≡ qs)
    → outcome_by s f n b ps ≡ outcome_by s f m b qs
outcome_by-same s f n m b ps qs h g e = go (cases_lt f block_len)
  where
    t1 : ltb f n ≡ true
    t1 = lt-ltb f n h

    t2 : ltb f m ≡ true
    t2 = lt-ltb f m g

    go : (f < block_len) ⊎ (block_len ≤ f) → outcome_by s f n b ps ≡ outcome_by s f m b qs
    go (inl o) = let t3 = lt-ltb f block_len o in rw (t3, t1, t2) refl
    go (inr o) = let t3 = le-ltb f block_len o in rw (t3, t1, t2, e o) refl

-- an outcome that is decided stays
pub outcome-stays : (c d : List Level) → 1 ≤ length c → front (entry c) c < length c → outcome (c ++ d) ≡ outcome c
outcome-stays c d o h =
    let f = front (entry c) c in
    let e0 = entry-append c d o in
    let l = length-append c d in
    let ef : front (entry (c ++ d)) (c ++ d) ≡ front (entry c) c = ap (λ s. front s (c ++ d)) e0
    ∙ front-stays (entry c) c d h in
    let b : same (at (c ++ d) (front (entry (c ++ d)) (c ++ d)))
    (before (entry (c ++ d)) (c ++ d) (front (entry (c ++ d)) (c ++ d)))
    ≡ same (at c (front (entry c) c)) (before (entry c) c (front (entry c) c)) =
    ap₂ (λ s n. same (at (c ++ d) n) (before s (c ++ d) n)) e0 ef
    ∙ ap₂ same (get_or_append_left c d Low (front (entry c) c) h)
    (before-append_left (entry c) c d (front (entry c) c) (omega arith)) in
    outcome_is (c ++ d)
    ∙ ap (λ s. outcome_by s (front (entry (c ++ d)) (c ++ d)) (length (c ++ d))
    (same (at (c ++ d) (front (entry (c ++ d)) (c ++ d)))
    (before (entry (c ++ d)) (c ++ d) (front (entry (c ++ d)) (c ++ d)))) (read_slots block_subframes (c ++ d))) e0
    ∙ ap₂ (λ n b. outcome_by (entry c) n (length (c ++ d)) b (read_slots block_subframes (c ++ d))) ef b
    ∙ outcome_by-same (entry c) f (length (c ++ d)) (length c) (same (at c f) (before (entry c) c f))
    (read_slots block_subframes (c ++ d)) (read_slots block_subframes c)
    (omega (arith, l, h)) h (λ g. read_slots-append block_subframes c d (omega (arith, block_len_64, g, h)))
    ∙ sym (outcome_is c)

-- the tests of decided_at
decided-tests : (c : List Level) (r : Outcome) → decided_at c ≡ Some r
    → (begins_block c ≡ true) × (front (entry c) c < length c) × (outcome c ≡ r)
unfolding decided_at
decided-tests c r e = go (begins_block c) (ltb (front (entry c) c) (length c)) refl refl e
  where
    go : (x y : Bool) → begins_block c ≡ x → ltb (front (entry c) c) (length c) ≡ y
        → cond (x && y) (Some (outcome c)) None ≡ Some r
        → (begins_block c ≡ true) × (front (entry c) c < length c) × (outcome c ≡ r)
    go true true a b e = (a, ltb-true _ _ b, same_Some (outcome c) r e)
    go true false a b e = cc
    go false y a b e = cc

pub decided-from : (c : List Level) → begins_block c ≡ true → front (entry c) c < length c
    → decided_at c ≡ Some (outcome c)
unfolding decided_at
decided-from c a b = let t = lt-ltb _ _ b in rw (a, t) refl

pub decided-stays : (c d : List Level) (r : Outcome) → decided_at c ≡ Some r → decided_at (c ++ d) ≡ Some r
decided-stays c d r e =
    let t = decided-tests c r e in
    let room = begins-room Z c t.0 in
    let l = length-append c d in
    let ef : front (entry (c ++ d)) (c ++ d) ≡ front (entry c) c =
    ap (λ s. front s (c ++ d)) (entry-append c d (omega arith)) ∙ front-stays (entry c) c d t.1 in
    decided-from (c ++ d) (begins-append Z c d room ∙ t.0) (omega (arith, ef, l, t.1))
    ∙ ap Some (outcome-stays c d (omega arith) t.1 ∙ t.2)

-- where no preamble of a block begins nothing is decided
pub none-from-begins : (c : List Level) → begins_block c ≡ false → decided_at c ≡ None
unfolding decided_at
none-from-begins c e = rw e refl

pub none-from-front : (c : List Level) → length c ≤ front (entry c) c → decided_at c ≡ None
unfolding decided_at
none-from-front c h = go (begins_block c) (le-ltb _ _ h)
  where
    go : (b : Bool) → ltb (front (entry c) c) (length c) ≡ false
        → cond (b && ltb (front (entry c) c) (length c)) (Some (outcome c)) None ≡ None
    go true e = rw e refl
    go false e = refl

keeps-first : (c : List Level) (i : ℕ) → i < 8 → StandsMark Z (entry c) c 0 → keeps (entry c) c i ≡ true
unfolding keeps mark_at
keeps-first c i h z =
    let q : i / 64 ≡ 0 = omega arith in
    let r : i % 64 ≡ i = omega arith in
    let t : ltb i 8 ≡ true = lt-ltb i 8 h in
    let e : at c i ≡ shape Z i (entry c) = ap (at c) (let g : i ≡ 0 + i = omega arith in g)
    ∙ stands-at Z (entry c) c 0 i h z in
    rw (q, r, t, e) (same-refl _)

pub block-room : 8 < block_len
unfolding block_len block_subframes
block-room = lit< tt

pub front-eight : (c : List Level) → begins_block c ≡ true → 8 ≤ front (entry c) c
front-eight c e = go (cases_lt (front (entry c) c) 8)
  where
    go : (front (entry c) c < 8) ⊎ (8 ≤ front (entry c) c) → 8 ≤ front (entry c) c
    go (inr h) = h
    go (inl h) =
        let room = begins-room Z c e in
        let big = block-room in
        let f = front-is (entry c) c in
        absurd (true≢false (sym (keeps-first c (front (entry c) c) h (begins-stands Z c e))
        ∙ f.stops (omega (arith, room, big, h))))

-- eight cells decide nothing
pub short : (c : List Level) → length c ≤ 8 → decided_at c ≡ None
short c h = go (begins_block c) refl
  where
    go : (b : Bool) → begins_block c ≡ b → decided_at c ≡ None
    go false e = none-from-begins c e
    go true e = (let f = front-eight c e in none-from-front c (omega (arith, f, h)))

abbrev pub NoZ : List Level → Type 0
NoZ c = (q : ℕ) (t : Level) → StandsMark Z t c q → ⊥

pub no-tail : (a : Level) (c : List Level) → NoZ (a ∷ c) → NoZ c
no-tail a c n q t z = n (suc q) t (record { is = z.is })

pub no-begins : (c : List Level) → NoZ c → begins_block c ≡ false
no-begins c n = go (begins_block c) refl
  where
    go : (b : Bool) → begins_block c ≡ b → begins_block c ≡ false
    go false e = e
    go true e = absurd (n 0 (entry c) (begins-stands Z c e))

pub no-decided : (c d : List Level) → NoZ c → length d ≤ 1 → decided_at (c ++ d) ≡ None
no-decided c d n h = go (cases_lt (length c) 8)
  where
    l : length (c ++ d) ≡ length c + length d
    l = length-append c d

    go : (length c < 8) ⊎ (8 ≤ length c) → decided_at (c ++ d) ≡ None
    go (inl o) = short (c ++ d) (omega (arith, l, o, h))
    go (inr o) = none-from-begins (c ++ d) (begins-append Z c d o ∙ no-begins c n)

pub quiet : (p : ℕ) (c d : List Level) → NoZ c → length d ≤ 1 → decided_from p (c ++ d) ≡ []
quiet p [] [] n h = refl
quiet p [] (a ∷ []) n h = rw (short (a ∷ []) (omega arith)) refl
quiet p [] (a ∷ b ∷ d) n h = absurd (omega arith)
quiet p (x ∷ c) d n h =
    let e = no-decided (x ∷ c) d n h in
    let r = quiet (suc p) c d (no-tail x c n) h in
    rw (e, r) refl

abbrev pub answer : ℕ → List Level → Level → List Report
answer p [] l = []
answer p (x ∷ c) l = cond (open_at (x ∷ c)) (told p (decided_at (x ∷ c ++ l ∷ []))) (answer (suc p) c l)

pub later-marks : (j : ℕ) → mark_at (suc j) ≡ Z → ⊥
unfolding mark_at
later-marks j e = go (eqb (j % 2) 0) e
  where
    go : (b : Bool) → cond b Y X ≡ Z → ⊥
    go true e = cc
    go false e = cc

-- behind an open block nothing stands
pub open-alone : (x : Level) (c : List Level) → open_at (x ∷ c) ≡ true → NoZ c × (decided_at (x ∷ c) ≡ None)
unfolding open_at
open-alone x c e =
    let r = and_parts (begins_block (x ∷ c)) (eqb (front (entry (x ∷ c)) (x ∷ c)) (length (x ∷ c))) e in
    let f : front (entry (x ∷ c)) (x ∷ c) ≡ length (x ∷ c) = eqb-true _ _ r.1 in
    let i = front-is (entry (x ∷ c)) (x ∷ c) in
    let k : AllKept mark_at (entry (x ∷ c)) (x ∷ c) =
    λ n h. kept-from-keeps (entry (x ∷ c)) (x ∷ c) n (i.kept n (omega (arith, f, h))) in (
      (λ q t z. let w = only-Z mark_at (entry (x ∷ c)) (x ∷ c) later-marks k (suc q) t (record { is = z.is }) in cc),
      none-from-front (x ∷ c) (omega (arith, f)),
    )

-- what is not open stays as it is
pub closed-same : (c : List Level) (l : Level) → open_at c ≡ false → decided_at (c ++ l ∷ []) ≡ decided_at c
unfolding open_at
closed-same c l e = go (cases_lt (length c) 8) (begins_block c) refl
  where
    len : length (c ++ l ∷ []) ≡ length c + 1
    len = length-append c (l ∷ [])

    go : (length c < 8) ⊎ (8 ≤ length c) → (b : Bool) → begins_block c ≡ b → decided_at (c ++ l ∷ []) ≡ decided_at c
    go (inl h) b q = short (c ++ l ∷ []) (omega (arith, len, h)) ∙ sym (short c (omega (arith, h)))
    go (inr h) false q = none-from-begins (c ++ l ∷ []) (begins-append Z c (l ∷ []) h ∙ q) ∙ sym (none-from-begins c q)
    go (inr h) true q =
        let ne : eqb (front (entry c) c) (length c) ≡ false = rw q at e in
        let w = (front-is (entry c) c).within in
        let d = decided-from c q (let n = eqb-false _ _ ne in omega (arith, n, w)) in
        decided-stays c (l ∷ []) (outcome c) d ∙ sym d

pub decided-push : (p : ℕ) (c : List Level) (l : Level)
    → decided_from p (c ++ l ∷ []) ≡ decided_from p c ++ answer p c l
decided-push p [] l = rw (short (l ∷ []) (omega arith)) refl
decided-push p (x ∷ c) l = go (open_at (x ∷ c)) refl (decided-push (suc p) c l)
  where
    go : (b : Bool) → open_at (x ∷ c) ≡ b
        → decided_from (suc p) (c ++ l ∷ []) ≡ decided_from (suc p) c ++ answer (suc p) c l
        → decided_from p (x ∷ c ++ l ∷ []) ≡ decided_from p (x ∷ c) ++ cond b (told p (decided_at (x ∷ c ++ l ∷ [])))
        (answer (suc p) c l)
    go true e ih =
        let o = open-alone x c e in
        let q1 : decided_from (suc p) (c ++ l ∷ []) ≡ [] = quiet (suc p) c (l ∷ []) o.0 (omega arith) in
        let q2 : decided_from (suc p) c ≡ [] = ap (decided_from (suc p)) (sym (append-nil c))
        ∙ quiet (suc p) c [] o.0 (omega arith) in
        rw (q1, q2, o.1) (append-nil _)
    go false e ih =
        let s : decided_at (x ∷ c ++ l ∷ []) ≡ decided_at (x ∷ c) = closed-same (x ∷ c) l e in
        rw (s, ih) (sym (append_assoc (told p (decided_at (x ∷ c))) (decided_from (suc p) c) (answer (suc p) c l)))
