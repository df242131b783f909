-- What is made of an input's bytes: their faults, and the bytes that they write.
use Rattle.std.specs.Prelude.{ℕ, List, [], ◌∷◌, ◌++◌, Option, Some, None}
use Rattle.aes3_refusals.specs.declared.run_error.RunError.{RunError}

-- for one more byte behind bytes without a fault: whether it is a fault, and what it writes; the same for the end
pub record Reading : Type 0 where
  pub fault : List ℕ → ℕ → Option RunError
  pub adds : List ℕ → ℕ → List ℕ
  pub end_fault : List ℕ → Option RunError
  pub ends : List ℕ → List ℕ

abbrev pub or_else : Option RunError → Option RunError → Option RunError
or_else (Some e) f = Some e
or_else None f = f

abbrev pub unless : Option RunError → List ℕ → List ℕ
unless (Some e) bytes = []
unless None bytes = bytes

-- the first fault of the bytes d behind the bytes b, and what d writes up to there
abbrev pub fault_behind : Reading → List ℕ → List ℕ → Option RunError
fault_behind r b [] = None
fault_behind r b (x ∷ d) = or_else (r.fault b x) (fault_behind r (b ++ x ∷ []) d)

abbrev pub out_behind : Reading → List ℕ → List ℕ → List ℕ
out_behind r b [] = []
out_behind r b (x ∷ d) = unless (r.fault b x) (r.adds b x ++ out_behind r (b ++ x ∷ []) d)

-- the bytes of d before the first fault
abbrev pub before_fault : Reading → List ℕ → List ℕ → List ℕ
before_fault r b [] = []
before_fault r b (x ∷ d) = unless (r.fault b x) (x ∷ before_fault r (b ++ x ∷ []) d)

-- the first fault of an input, what it writes without its end, and with it
unfoldable pub first_fault : Reading → List ℕ → Option RunError
first_fault r b = fault_behind r [] b

unfoldable pub out : Reading → List ℕ → List ℕ
out r b = out_behind r [] b

unfoldable pub whole : Reading → List ℕ → List ℕ
whole r b = out r b ++ r.ends b
