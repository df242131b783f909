-- What sources and sinks tell of their bytes.
use Rattle.std.specs.Prelude.{ℕ, List, ◌++◌, Option, Some, None, ◌≡◌}

-- what an end tells of its bytes that doesn't tell them
abbrev pub untold : Option (List ℕ)
untold = None

-- where an end tells its bytes, they grew by bytes
pub record Grew (old new : Option (List ℕ)) (bytes : List ℕ) : Type 0 where
  pub by : (before : List ℕ) → old ≡ Some before → new ≡ Some (before ++ bytes)

-- they grew by a front of bytes
pub record GrewFront (old new : Option (List ℕ)) (bytes : List ℕ) : Type 0 where
  pub part : List ℕ
  pub rest : List ℕ
  pub is : part ++ rest ≡ bytes
  pub grew : Grew old new part

-- an end tells that its bytes grew by bytes
pub record Told (old new : Option (List ℕ)) (bytes : List ℕ) : Type 0 where
  pub before : List ℕ
  pub was : old ≡ Some before
  pub is : new ≡ Some (before ++ bytes)
