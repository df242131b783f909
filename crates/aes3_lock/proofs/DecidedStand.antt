-- Whatever cells follow, the reports begin with the decided ones.
use Rattle.std.proofs.Common.{◌≡◌, List, [], ◌∷◌, ◌++◌, ap, ◌∙◌, sym, append_assoc, append-nil}
use Rattle.aes3_level.specs.declared.level.Level.{Level}
use Rattle.aes3_lock.specs.declared.report.Report.{Report}
use Rattle.aes3_lock.specs.Reports.{reports, decided_from, decided}
use Rattle.aes3_lock.proofs.Deciding.{answer, decided-push}
use Rattle.aes3_lock.proofs.Ends.{final, reports-split}

decided-more : (c more : List Level) → (rest : List Report) × (decided_from 0 (c ++ more) ≡ decided_from 0 c ++ rest)
decided-more c [] = ([], ap (decided_from 0) (append-nil c) ∙ sym (append-nil (decided_from 0 c)))
decided-more c (l ∷ more) =
    let r = decided-more (c ++ l ∷ []) more in (
      answer 0 c l ++ r.0,
      ap (decided_from 0) (sym (append_assoc c (l ∷ []) more)) ∙ r.1 ∙ ap (λ x. x ++ r.0) (decided-push 0 c l)
          ∙ append_assoc (decided_from 0 c) (answer 0 c l) r.0,
    )

pub decided-stand : (c more : List Level) → (rest : List Report) × (reports (c ++ more) ≡ decided c ++ rest)
unfolding reports decided
decided-stand c more =
    let r = decided-more c more in (
      r.0 ++ final 0 (c ++ more),
      reports-split 0 (c ++ more) ∙ ap (λ x. x ++ final 0 (c ++ more)) r.1
          ∙ append_assoc (decided_from 0 c) r.0 (final 0 (c ++ more)),
    )
