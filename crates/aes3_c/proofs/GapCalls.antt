-- What an account that is kept tells, entry by entry.
use Rattle.std.proofs.Common.{◌≡◌, List, Bool, [], ◌∷◌, ◌++◌, Option, Some, None, refl, sym, ap, ◌∙◌, subst}
use Rattle.std.specs.Prelude.{option_map}
use Rattle.std.proofs.lemmas.Option.{none-some}
use Rattle.aes3_level.specs.declared.level.Level.{Level}
use Rattle.aes3_lock.specs.declared.report.Ending.{Ending}
use Rattle.aes3_lock.specs.declared.report.Report.{Report}
use Rattle.aes3_lock_gaps.specs.declared.account.Account.{Account}
use Rattle.aes3_lock_gaps.specs.Gaps.{Entry, reported}
use Rattle.aes3_lock_gaps.specs.Told.{Tells, report_with}
use Rattle.aes3_c.specs.declared.report_record.Aes3Report.{Aes3Report}
use Rattle.aes3_c.specs.States.{told_of}

-- the same account, and the same entry
pub tells-kept : {a b : Account} {c : List Level} (e : List Entry) {y z : Entry} → a ≡ b → y ≡ z
    → Tells b c (e ++ z ∷ []) → Tells a c (e ++ y ∷ [])
tells-kept {b = b} {c} e {y} p q t =
    subst (λ (k : Account). Tells k c (e ++ y ∷ [])) (sym p)
    (subst (λ (n : Entry). Tells b c (e ++ n ∷ [])) (sym q) t)

pub tells-same : {a b : Account} {c : List Level} {e : List Entry} → a ≡ b → Tells b c e → Tells a c e
tells-same {c = c} {e} p t = subst (λ (k : Account). Tells k c e) (sym p) t

-- the report of an ending that was read of one
pub ending-told : (block : List (List Bool)) (r : Aes3Report) (x : Report) (o : Option Ending) (y : Ending)
    → told_of block r ≡ option_map (report_with block) o → o ≡ Some y → told_of block r ≡ Some x
    → report_with block y ≡ x
ending-told block r x o y h e is =
    let q : Some (report_with block y) ≡ Some x = ap (option_map (report_with block)) (sym e) ∙ sym h ∙ is in cc

pub none-told : {P : Type 0} (block : List (List Bool)) (r : Aes3Report) (x : Report) (o : Option Ending)
    → told_of block r ≡ option_map (report_with block) o → o ≡ None → told_of block r ≡ Some x → P
none-told block r x o h e is =
    absurd (none-some x (ap (option_map (report_with block)) (sym e) ∙ sym h ∙ is))

pub some-kind : {P : Type 0} (r : Aes3Report) (o : Option Ending) (y : Ending)
    → ((block : List (List Bool)) → told_of block r ≡ option_map (report_with block) o) → o ≡ Some y → r.kind ≡ 0 → P
some-kind r o y h e k =
    let none : told_of [] r ≡ None = rw k refl in
    absurd (none-some (report_with [] y) (sym none ∙ h [] ∙ ap (option_map (report_with [])) e))

pub report-kept : {a b : Account} {c : List Level} (e : List Entry) {x y : Report} → a ≡ b → y ≡ x
    → Tells b c (e ++ reported y ∷ []) → Tells a c (e ++ reported x ∷ [])
report-kept e p q t = tells-kept e p (ap reported (sym q)) t
