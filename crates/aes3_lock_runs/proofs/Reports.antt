-- What cells write through their reports.
use Rattle.std.proofs.Common.{◌≡◌, List, [], ◌∷◌, ◌++◌, length, drop, sym, ap, ap₂, ◌∙◌, append_assoc}
use Rattle.std.proofs.Common.{append-nil, refl}
use Rattle.std.proofs.lemmas.List.{append_cancel_left, drop_at}
use Rattle.aes3_level.specs.declared.level.Level.{Level}
use Rattle.aes3_lock.specs.declared.report.Report.{Report}
use Rattle.aes3_lock.specs.Reports.{decided_from, decided, reports}
use Rattle.aes3_lock.proofs.Deciding.{answer, decided-push}
use Rattle.aes3_lock.proofs.Ends.{final, reports-split}
use Rattle.aes3_input.specs.Taking.{Writing, behind, before_end, with_end}
use Rattle.aes3_input.proofs.Items.{before-is, before-join}
use Rattle.aes3_lock_runs.specs.Reporting.{decided_by, decided_at_end, reporting}

pub answered : (c : List Level) (l : Level) (r : List Report) → decided (c ++ l ∷ []) ≡ decided c ++ r
    → decided_by c l ≡ r
answered c l r e = ap (drop (length (decided c))) e ∙ drop_at (decided c) r (length (decided c)) refl

pub concluded : (c : List Level) (r : List Report) → reports c ≡ decided c ++ r → decided_at_end c ≡ r
concluded c r e = ap (drop (length (decided c))) e ∙ drop_at (decided c) r (length (decided c)) refl

pub decided-more : (c : List Level) (l : Level) → decided (c ++ l ∷ []) ≡ decided c ++ decided_by c l
unfolding decided
decided-more c l = let e = decided-push 0 c l in
    e ∙ ap (λ r. decided_from 0 c ++ r) (sym (answered c l (answer 0 c l) e))

pub reports-more : (c : List Level) → reports c ≡ decided c ++ decided_at_end c
unfolding decided reports
reports-more c = let e = reports-split 0 c in e ∙ ap (λ r. decided_from 0 c ++ r) (sym (concluded c (final 0 c) e))

none-before : (w : Writing Report) → before_end w (decided []) ≡ []
unfolding before_end decided
none-before w = refl

-- the output for cells is that for their reports
pub before-reports : (w : Writing Report) (c : List Level) → before_end (reporting w) c ≡ before_end w (decided c)
unfolding reporting
before-reports w c =
    before-is (reporting w) (λ c. before_end w (decided c)) (none-before w)
    (λ c l. ap (before_end w) (decided-more c l) ∙ before-join w (decided c) (decided_by c l)) c

pub with-reports : (w : Writing Report) (c : List Level) → with_end (reporting w) c ≡ with_end w (reports c)
unfolding with_end reporting
with-reports w c =
    ap (λ o. o ++ (behind w (decided c) (decided_at_end c) ++ w.ends (reports c))) (before-reports w c)
    ∙ sym (append_assoc (before_end w (decided c)) (behind w (decided c) (decided_at_end c)) (w.ends (reports c)))
    ∙ ap (λ o. o ++ w.ends (reports c)) (sym (before-join w (decided c) (decided_at_end c))
    ∙ ap (before_end w) (sym (reports-more c)))

-- what cells write that decide these reports
pub adds-decided : (w : Writing Report) (c d : List Level) (m : List Report) → decided (c ++ d) ≡ decided c ++ m
    → behind (reporting w) c d ≡ behind w (decided c) m
adds-decided w c d m e =
    append_cancel_left (before_end (reporting w) c) (behind (reporting w) c d) (behind w (decided c) m)
    (sym (before-join (reporting w) c d) ∙ before-reports w (c ++ d) ∙ ap (before_end w) e ∙ before-join w (decided c) m
    ∙ ap (λ z. z ++ behind w (decided c) m) (sym (before-reports w c)))

pub adds-report : (w : Writing Report) (c d : List Level) (r : Report) → decided (c ++ d) ≡ decided c ++ r ∷ []
    → behind (reporting w) c d ≡ w.adds (decided c) r
adds-report w c d r e = adds-decided w c d (r ∷ []) e ∙ append-nil (w.adds (decided c) r)

-- cells that decide no report write nothing
pub adds-nothing : (w : Writing Report) (c d : List Level) → decided (c ++ d) ≡ decided c
    → behind (reporting w) c d ≡ []
adds-nothing w c d e = adds-decided w c d [] (e ∙ sym (append-nil (decided c)))

-- what the end writes
pub ends-one : (w : Writing Report) (c : List Level) (r : Report) → reports c ≡ decided c ++ r ∷ []
    → (reporting w).ends c ≡ w.adds (decided c) r ++ w.ends (decided c ++ r ∷ [])
unfolding reporting
ends-one w c r e =
    ap₂ (λ a b. behind w (decided c) a ++ w.ends b) (concluded c (r ∷ []) e) e
    ∙ ap (λ z. z ++ w.ends (decided c ++ r ∷ [])) (append-nil (w.adds (decided c) r))

pub ends-none : (w : Writing Report) (c : List Level) → reports c ≡ decided c ++ []
    → (reporting w).ends c ≡ w.ends (decided c)
unfolding reporting
ends-none w c e = ap₂ (λ a b. behind w (decided c) a ++ w.ends b) (concluded c [] e) (e ∙ append-nil (decided c))

pub same-reporting : {w v : Writing Report} → w ≡ v → reporting w ≡ reporting v
same-reporting e = ap reporting e
