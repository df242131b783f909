-- Calls that write bytes.
use Rattle.std.proofs.Common.{◌≡◌, ℕ, ◌+◌, List, ◌++◌, Option, Result, Ok, Err, IfOk, ap, ◌∙◌, subst}
use Rattle.aes3_cell.specs.Ends.{Grew}
use Rattle.aes3_cell.specs.Writes.{Wrote}
use Rattle.aes3_cell.proofs.Growing.{grew-join, front-join}

pub wrote-is : {A R E : Type 0} {taken : A → Option (List ℕ)} {failed : A
    → ℕ} {old new : A} {x y : List ℕ} {r : Result R E} → x ≡ y → Wrote taken failed old new x r
    → Wrote taken failed old new y r
wrote-is {taken} {failed} {old} {new} {r} e w = subst (λ (z : List ℕ). Wrote taken failed old new z r) e w

-- one behind bytes that were taken
pub wrote-behind : {A R E : Type 0} {taken : A → Option (List ℕ)} {failed : A → ℕ} {a b d : A} {x y : List ℕ}
    (r : Result R E)
    → failed b ≡ failed a → Grew (taken a) (taken b) x → Wrote taken failed b d y r → Wrote taken failed a d (x ++ y) r
wrote-behind (Ok v) q g w = record { grew = grew-join g w.grew; no_failure = w.no_failure ∙ q; err = tt }
wrote-behind (Err e) q g w = record { grew = tt; no_failure = tt; err = (w.err.0 ∙ ap (λ n. n + 1) q, front-join g w.err.1) }

-- what holds whatever is answered
pub ok-always : {R E P : Type 0} (r : Result R E) → P → IfOk r (λ _. P)
ok-always (Ok v) p = p
ok-always (Err e) p = tt
