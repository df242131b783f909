-- What the end of the cells decides.
use Rattle.std.proofs.Common.{◌≡◌, ℕ, zero, suc, ◌+◌, List, [], ◌∷◌, ◌++◌, Bool, true, false, cond, eqb, Some, None}
use Rattle.std.proofs.Common.{refl, length, drop, ap, ◌∙◌, sym, arith, append_assoc, append-nil, length-drop}
use Rattle.std.proofs.lemmas.Bool.{eqb-false}
use Rattle.aes3_level.specs.declared.level.Level.{Level}
use Rattle.aes3_lock.specs.declared.report.Report.{Report}
use Rattle.aes3_slot.specs.Preambles.{entry}
use Rattle.aes3_lock.specs.Candidates.{front, begins_block}
use Rattle.aes3_lock.specs.Outcomes.{outcome}
use Rattle.aes3_lock.specs.Reports.{told, report_of, outcome_at, reports_from, decided_at, open_at, decided_from}
use Rattle.aes3_lock.proofs.Fronts.{front-is}
use Rattle.aes3_lock.proofs.Deciding.{NoZ, no-tail, no-begins, open-alone, none-from-begins, decided-from, quiet}
use Rattle.aes3_lock.proofs.Opens.{open-once, is-open, open-room}

-- the report of the block in hand, or nothing
abbrev pub final : ℕ → List Level → List Report
final p [] = []
final p (x ∷ c) = cond (open_at (x ∷ c)) (told p (outcome_at (x ∷ c))) (final (suc p) c)

pub outcome_at-none : (c : List Level) → begins_block c ≡ false → outcome_at c ≡ None
unfolding outcome_at
outcome_at-none c e = rw e refl

pub outcome_at-some : (c : List Level) → begins_block c ≡ true → outcome_at c ≡ Some (outcome c)
unfolding outcome_at
outcome_at-some c e = rw e refl

quiet-reports : (p : ℕ) (c : List Level) → NoZ c → reports_from p c ≡ []
quiet-reports p [] n = refl
quiet-reports p (x ∷ c) n =
    let e = outcome_at-none (x ∷ c) (no-begins (x ∷ c) n) in
    let r = quiet-reports (suc p) c (no-tail x c n) in
    rw (e, r) refl

same-report : (c : List Level) → open_at c ≡ false → outcome_at c ≡ decided_at c
unfolding open_at
same-report c e = go (begins_block c) refl
  where
    go : (b : Bool) → begins_block c ≡ b → outcome_at c ≡ decided_at c
    go false q = outcome_at-none c q ∙ sym (none-from-begins c q)
    go true q =
        let ne : eqb (front (entry c) c) (length c) ≡ false = rw q at e in
        let w = (front-is (entry c) c).within in
        outcome_at-some c q ∙ sym (decided-from c q (let n = eqb-false _ _ ne in omega (arith, n, w)))

pub reports-split : (p : ℕ) (c : List Level) → reports_from p c ≡ decided_from p c ++ final p c
reports-split p [] = refl
reports-split p (x ∷ c) = go (open_at (x ∷ c)) refl (reports-split (suc p) c)
  where
    go : (b : Bool) → open_at (x ∷ c) ≡ b → reports_from (suc p) c ≡ decided_from (suc p) c ++ final (suc p) c
        → reports_from p (x ∷ c) ≡ decided_from p (x ∷ c) ++ cond b (told p (outcome_at (x ∷ c))) (final (suc p) c)
    go true e ih =
        let o = open-alone x c e in
        let q1 = quiet-reports (suc p) c o.0 in
        let q2 : decided_from (suc p) c ≡ [] = ap (decided_from (suc p)) (sym (append-nil c))
        ∙ quiet (suc p) c [] o.0 (omega arith) in
        rw (q1, q2, o.1) (append-nil _)
    go false e ih =
        let s = same-report (x ∷ c) e in
        rw (s, ih) (sym (append_assoc (told p (decided_at (x ∷ c))) (decided_from (suc p) c) (final (suc p) c)))

pub final-none : (p : ℕ) (c : List Level) → ((q : ℕ) → open_at (drop q c) ≡ false) → final p c ≡ []
final-none p [] h = refl
final-none p (x ∷ c) h =
    let e = h 0 in
    let r = final-none (suc p) c (λ q. h (suc q)) in
    rw (e, r) refl

pub final-open : (p : ℕ) (c : List Level) (q : ℕ) → open_at (drop q c) ≡ true
    → final p c ≡ report_of (p + q) (outcome (drop q c)) ∷ []
final-open p [] q h =
    let r = (open-room (drop q []) (is-open (drop q []) h)).0 in
    let n = length-drop {A = Level} q [] in
    absurd (omega (arith, r, n))
final-open p (x ∷ c) zero h =
    let z : p + zero ≡ p = omega arith in
    let o = outcome_at-some (x ∷ c) (is-open (x ∷ c) h).begins in
    rw (h, z, o) refl
final-open p (x ∷ c) (suc q) h = go (open_at (x ∷ c)) refl (final-open (suc p) c q h)
  where
    go : (b : Bool) → open_at (x ∷ c) ≡ b → final (suc p) c ≡ report_of (suc p + q) (outcome (drop q c)) ∷ []
        → cond b (told p (outcome_at (x ∷ c))) (final (suc p) c) ≡ report_of (p + suc q) (outcome (drop q c)) ∷ []
    go true e ih = absurd (open-once c q x e h)
    go false e ih = ih ∙ ap (λ n. report_of n (outcome (drop q c)) ∷ []) (omega arith)
