-- The eight octets that are begun.
use Rattle.std.specs.Prelude.{ℕ, suc, List, [], ◌∷◌, ◌++◌, Bool, length, ◌*◌, ◌/◌, ◌==◌, if◌then◌else◌}
use Rattle.aes3_level.specs.declared.level.Level.{Level}
use Rattle.aes3_level.specs.Words.{word_len}
use Rattle.aes3_cell.specs.Packed.{first_octets, octets_of}

-- the cells of eight octets that are not yet whole, and whether writing has failed
pub record BegunOctets : Type 0 where
  pub cells : List Level
  pub failed : Bool

-- the octets that one more cell completes
abbrev pub octets_added : List Level → Level → List ℕ
octets_added cells level = if suc (length cells) == word_len then octets_of (cells ++ level ∷ []) else []

-- the octets of the whole 64s of cells: those written before the end
unfoldable pub whole_octets : List Level → List ℕ
whole_octets c = first_octets (8 * (length c / word_len)) c
