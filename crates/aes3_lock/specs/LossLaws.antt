-- Laws over the definitions: what stays of a piece of a lawful stream of which two or three cells are lost.
use Rattle.std.specs.Prelude.{ℕ, List, [], ◌∷◌, Bool, length, ◌≤◌, ◌+◌, drop}
use Rattle.std.specs.List.{All, Contains}
use Rattle.aes3_level.specs.declared.level.Level.{Level}
use Rattle.aes3_lock.specs.Damage.{without}
use Rattle.aes3_lock.specs.Pieces.{IsPiece}
use Rattle.aes3_lock.specs.Reports.{blocks}
use Rattle.aes3_lock.specs.Standing.{StandsClosed}

-- cells of which several are lost, one after the other: each place is counted in the cells that are left by then
abbrev pub without_each : List ℕ → List Level → List Level
without_each [] c = c
without_each (k ∷ ks) c = without_each ks (without k c)

-- few enough that no block is changed
abbrev pub AreFew : List ℕ → Type 0
AreFew ks = length ks ≤ 3

-- block d stood closed in the cells at place q or at most n cells later
pub record StoodLater (n q : ℕ) (d : List (List Bool)) (t : Level) (c : List Level) : Type 0 where
  pub later : ℕ
  pub few : later ≤ n
  pub stood : StandsClosed d t (drop (q + later) c)

-- where at most three cells of a piece are lost, each block that stands closed stood closed in the piece, no more cells
-- later than were lost; so no block is given that the piece doesn't have
abbrev pub LossesChangeNoBlock : Type 0
LossesChangeNoBlock =
    (s : Level) (bs : List (List (List Bool))) (i j : ℕ) (c : List Level) → IsPiece s bs i j c
    → (ks : List ℕ) → AreFew ks
    → (q : ℕ) (d : List (List Bool)) (t : Level) → StandsClosed d t (drop q (without_each ks c))
    → StoodLater (length ks) q d t c

abbrev pub LossesGiveNoOther : Type 0
LossesGiveNoOther =
    (s : Level) (bs : List (List (List Bool))) (i j : ℕ) (c : List Level) → IsPiece s bs i j c
    → (ks : List ℕ) → AreFew ks
    → All (Contains (blocks c)) (blocks (without_each ks c))
