-- What a call that writes bytes answers.
use Rattle.std.specs.Prelude.{ℕ, List, Option, Result, ◌≡◌, ◌+◌, IfOk, OnErr}
use Rattle.aes3_cell.specs.Ends.{Grew, GrewFront}

-- a sink of which `taken` tells its bytes and `failed` how often it failed took all these bytes, or failed once and
-- took a front of them
pub record Wrote {A R E : Type 0} (taken : A → Option (List ℕ)) (failed : A → ℕ) (old new : A) (bytes : List ℕ)
    (result : Result R E) : Type 0 where
  pub grew : IfOk result (λ _. Grew (taken old) (taken new) bytes)
  pub no_failure : IfOk result (λ _. failed new ≡ failed old)
  pub err : OnErr result ((failed new ≡ failed old + 1) × GrewFront (taken old) (taken new) bytes)
