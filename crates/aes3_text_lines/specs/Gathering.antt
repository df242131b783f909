-- Lines that are gathered before they are handed on.
use Rattle.std.specs.Prelude.{ℕ, List, ◌++◌, Option, ◌≡◌}
use Rattle.aes3_cell.specs.Ends.{Grew}

-- of the bytes held before and these behind them an end took all but those that are held now
pub record AllButHeld (old new : Option (List ℕ)) (held now bytes : List ℕ) : Type 0 where
  pub part : List ℕ
  pub is : part ++ now ≡ held ++ bytes
  pub grew : Grew old new part
