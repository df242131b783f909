-- What a sink with a buffer holds.
use Rattle.std.specs.Prelude.{ℕ, List, ◌++◌, Option, Some, None, take, drop}

-- the bytes of a buffer from start on, before end
abbrev pub held : ℕ → ℕ → List ℕ → List ℕ
held start end bytes = drop start (take end bytes)

-- what an end tells, with bytes behind it
abbrev pub followed_by : Option (List ℕ) → List ℕ → Option (List ℕ)
followed_by (Some told) bytes = Some (told ++ bytes)
followed_by None bytes = None
