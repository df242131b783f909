-- What no errors and one error make of cells.
use Rattle.std.specs.Prelude.{ℕ, List, [], ◌∷◌, None, ◌≡◌, ◌<◌, length, take, drop, map, ◌++◌}
use Rattle.aes3_level.specs.declared.level.Level.{Level}
use Rattle.aes3_level.specs.Cells.{other}
use Rattle.aes3_slot.specs.Rules.{at}
use Rattle.aes3_lock.specs.Damage.{changed, without, inserted}
use Rattle.aes3_spoil.specs.declared.errors.Errors.{Errors}
use Rattle.aes3_spoil.specs.declared.kinds.ErrorKind.{ErrorKind}
use Rattle.aes3_spoil.specs.declared.kinds.ErrorKind.TheVariants.{Changed, Inverted, Lost, Doubled}
use Rattle.aes3_spoil.specs.Errors.{errors_of}
use Rattle.aes3_spoil.specs.Spoiled.{spoiled}

-- there is one error, of this kind at cell k, and none comes again and again
pub record IsOne (errors : Errors) (kind : ErrorKind) (k : ℕ) : Type 0 where
  pub list : errors_of errors ≡ record { place = k; kind = kind } ∷ []
  pub every : errors.every ≡ None

abbrev pub NoErrorsNoChange : Type 0
NoErrorsNoChange =
    (errors : Errors) (c : List Level) → errors_of errors ≡ [] → errors.every ≡ None → spoiled errors c ≡ c

abbrev pub ChangedCellIsChanged : Type 0
ChangedCellIsChanged =
    (errors : Errors) (k : ℕ) (c : List Level) → IsOne errors Changed k → spoiled errors c ≡ changed k c

abbrev pub LostCellIsLost : Type 0
LostCellIsLost =
    (errors : Errors) (k : ℕ) (c : List Level) → IsOne errors Lost k → spoiled errors c ≡ without k c

-- one inverted cell turns all from it on
abbrev pub InvertedCellTurnsTheRest : Type 0
InvertedCellTurnsTheRest =
    (errors : Errors) (k : ℕ) (c : List Level) → IsOne errors Inverted k
    → spoiled errors c ≡ take k c ++ map other (drop k c)

-- one doubled cell is put in once more, before itself
abbrev pub DoubledCellIsPutIn : Type 0
DoubledCellIsPutIn =
    (errors : Errors) (k : ℕ) (c : List Level) → IsOne errors Doubled k → k < length c
    → spoiled errors c ≡ inserted k (at c k) c
