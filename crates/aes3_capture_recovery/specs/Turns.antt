-- The places at which the levels of a line turn.
use Rattle.std.specs.Prelude.{ℕ, zero, suc, List, [], ◌∷◌, ◌++◌, ◌≡◌, ◌<◌, ◌+◌, ◌-◌, ◌/◌, ◌%◌, nat_eq, if◌then◌else◌, take}
use Rattle.aes3_level.specs.declared.level.Level.{Level}
use Rattle.aes3_level.specs.declared.level.Level.TheVariants.{Low, High}

-- the places, from `place` on, of the levels that differ from the one before them
abbrev pub turns : Level → ℕ → List Level → List ℕ
turns Low place [] = []
turns High place [] = []
turns Low place (Low ∷ levels) = turns Low (suc place) levels
turns High place (High ∷ levels) = turns High (suc place) levels
turns Low place (High ∷ levels) = place ∷ turns High (suc place) levels
turns High place (Low ∷ levels) = place ∷ turns Low (suc place) levels

-- how far each place lies behind the one before it, the first behind `from`
abbrev pub gaps : ℕ → List ℕ → List ℕ
gaps from [] = []
gaps from (place ∷ places) = (place - from) ∷ gaps place places

-- the last of these places, or `from` where there are none
abbrev pub last_place : ℕ → List ℕ → ℕ
last_place from [] = from
last_place from (place ∷ places) = last_place place places

-- the places, from `place` on, of those of a number's `count` lowest bits that are set
unfoldable pub set_bits : ℕ → ℕ → ℕ → List ℕ
set_bits zero place number = []
set_bits (suc count) place number =
    if nat_eq (number % 2) 1 then place ∷ set_bits count (place + 1) (number / 2) else set_bits count (place + 1) (number / 2)

-- What is put up to `at`, and the bits that are left, are all that is wanted; once none is left, more may follow.
pub record Put (wanted : List ℕ) (base : ℕ) (out : List ℕ) (at rest : ℕ) : Type 0 where
  pub more : List ℕ
  pub both : take at out ++ set_bits 64 base rest ≡ wanted ++ more
  pub none : 0 < rest → more ≡ []
