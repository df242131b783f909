-- Reads and writes that a signal can interrupt, and that are tried again then.
use Rattle.std.specs.Prelude.{ℕ, List, [], ◌∷◌, ◌++◌, Option, Some, None, Result, Ok, Err, ◌≡◌, ◌<◌, ◌≤◌}
use Rattle.std.specs.Prelude.{IfOk, OnErr, replicate}
use Rattle.aes3_cell.specs.declared.attempts.Trouble.{Trouble}
use Rattle.aes3_cell.specs.declared.attempts.Trouble.TheVariants.{Interrupted, Failed}

-- what a device tells of the troubles that it met, which doesn't tell them
abbrev pub untroubled : Option (List Trouble)
untroubled = None

-- the trouble that an answer tells
abbrev pub troubles_of : {A : Type 0} → Result A Trouble → List Trouble
troubles_of (Ok _) = []
troubles_of (Err trouble) = trouble ∷ []

-- where a device tells the troubles that it met, these came behind them
pub record Met (old new : Option (List Trouble)) (more : List Trouble) : Type 0 where
  pub by : (before : List Trouble) → old ≡ Some before → new ≡ Some (before ++ more)

-- where a writer tells what it took, and what it has passed on, the one is the other
pub record PassedOn (held passed : Option (List ℕ)) : Type 0 where
  pub all : (taken given : List ℕ) → held ≡ Some taken → passed ≡ Some given → given ≡ taken

-- how often a read or a write is tried
abbrev pub tries : ℕ
tries = 1000000

-- it was tried again behind each interruption, and behind nothing else, until it was answered, the device failed, or it
-- was interrupted each time
pub record Retried {A E : Type 0} (old new : Option (List Trouble)) (result : Result A E) : Type 0 where
  pub interrupted : ℕ
  pub within : interrupted ≤ tries
  pub ok : IfOk result (λ _. Met old new (replicate interrupted Interrupted))
  pub failed : OnErr result (interrupted < tries → Met old new (replicate interrupted Interrupted ++ Failed ∷ []))
  pub none_left : OnErr result (interrupted ≡ tries → Met old new (replicate interrupted Interrupted))

-- it was flushed once
pub record Flushed {A E : Type 0} (old new : Option (List Trouble)) (result : Result A E) : Type 0 where
  pub ok : IfOk result (λ _. Met old new [])
  pub err : OnErr result ((trouble : Trouble) × Met old new (trouble ∷ []))
