-- Laws over the definitions: which blocks any changed cells leave at the frames of a piece of a lawful stream, and so
-- where at most
-- 383 change all blocks that stand.
use Rattle.std.specs.Prelude.{ℕ, suc, List, [], ◌∷◌, Bool, not, map, length, ◌≡◌, ◌<◌, ◌≤◌, ◌+◌, ◌-◌, ◌/◌, ◌%◌, ◌==◌}
use Rattle.std.specs.Prelude.{◌↔◌, take, drop, if◌then◌else◌}
use Rattle.std.specs.List.{All, AllPairs, Contains, filter, list_any, flat_map}
use Rattle.aes3_level.specs.declared.level.Level.{Level}
use Rattle.aes3_frame.specs.Blocks.{block_subframes, block_len}
use Rattle.aes3_lock.specs.Damage.{apart, places_apart}
use Rattle.aes3_lock.specs.Remains.{left_of}
use Rattle.aes3_lock.specs.Laws.{PlacedBlock}
use Rattle.aes3_lock.specs.Pieces.{IsPiece}
use Rattle.aes3_lock.specs.Reports.{blocks}
use Rattle.aes3_lock.specs.Standing.{StandsClosed}

-- the block that the subframes of a stream from cell p on would be, if its preambles stood there
abbrev pub block_from : ℕ → List (List (List Bool)) → List (List Bool)
block_from p bs = take block_subframes (drop (p / 64) (flat_map (λ b. b) bs))

-- which of its cells, counted from p, aren't those of the stream: none where a block of the stream begins; else cells 4
-- and 6 of its first preamble, where the stream has X and it has Z, and of the one where the next block begins, where
-- the stream has Z and it X
abbrev pub preamble_cells : ℕ → List ℕ
preamble_cells p =
    if p % block_len == 0 then [] else 4 ∷ 6 ∷ (block_len - p % block_len + 4) ∷ (block_len - p % block_len + 6) ∷ []

-- numbers without some of them
abbrev pub all_but : List ℕ → List ℕ → List ℕ
all_but some xs = filter (λ x. not (list_any (λ y. y == x) some)) xs

-- block d is what changed cells leave of the subframes of a stream from cell p on: those preamble cells are among them,
-- and all others are pairs between two slots
pub record IsLeftFrom (p : ℕ) (bs : List (List (List Bool))) (cells : List ℕ) (d : List (List Bool)) : Type 0 where
  pub preambles : All (Contains cells) (preamble_cells p)
  pub pairs : left_of (all_but (preamble_cells p) cells) (block_from p bs) ≡ d ∷ []

-- where cells were c and are e, those changed of the block_len cells from place q on and the one behind them, counted
-- from q
abbrev pub changes_from : ℕ → List Level → List Level → List ℕ
changes_from q c e = places_apart 0 (take (suc block_len) (drop q c)) (take (suc block_len) (drop q e))

-- at a frame of a piece a block stands closed after the level of the stream exactly if the changed cells leave it,
-- however many change
abbrev pub ChangesTellTheFrame : Type 0
ChangesTellTheFrame =
    (s : Level) (bs : List (List (List Bool))) (i j : ℕ) (c e : List Level) → IsPiece s bs i j c → length e ≡ length c
    → (q : ℕ) → (i + q) % 128 ≡ 0 → q + block_len ≤ length c
    → (d : List (List Bool)) → StandsClosed d s (drop q e) ↔ IsLeftFrom (i + q) bs (changes_from q c e) d

-- few enough cells differ that blocks stand at frames alone
abbrev pub AreClose : List Level → List Level → Type 0
AreClose c e = apart c e ≤ 383

-- a block is left at place q: a frame of the stream begins there, the cells reach, and the changed ones leave it
pub record IsLeftAt (q : ℕ) (s : Level) (bs : List (List (List Bool))) (i : ℕ) (c e : List Level) (d : List (List Bool))
    (t : Level) : Type 0 where
  pub frame : (i + q) % 128 ≡ 0
  pub room : q + block_len ≤ length c
  pub level : t ≡ s
  pub left : IsLeftFrom (i + q) bs (changes_from q c e) d

-- so where so few cells change, blocks stand closed exactly where one is left
abbrev pub ChangesTellAllBlocks : Type 0
ChangesTellAllBlocks =
    (s : Level) (bs : List (List (List Bool))) (i j : ℕ) (c e : List Level) → IsPiece s bs i j c → length e ≡ length c
    → AreClose c e
    → (q : ℕ) (d : List (List Bool)) (t : Level) → StandsClosed d t (drop q e) ↔ IsLeftAt q s bs i c e d t

-- and their blocks are all that are left, each once, in order of place
pub record AreAllLeft (found : List PlacedBlock) (s : Level) (bs : List (List (List Bool))) (i : ℕ)
    (c e : List Level) : Type 0 where
  pub each : All (λ f. IsLeftAt f.place s bs i c e f.block f.level) found
  pub all : (f : PlacedBlock) → IsLeftAt f.place s bs i c e f.block f.level → Contains found f
  pub order : AllPairs (λ f g. f.place < g.place) found

abbrev pub BlocksAreAllLeft : Type 0
BlocksAreAllLeft =
    (s : Level) (bs : List (List (List Bool))) (i j : ℕ) (c e : List Level) → IsPiece s bs i j c → length e ≡ length c
    → AreClose c e
    → (found : List PlacedBlock) × AreAllLeft found s bs i c e × (blocks e ≡ map (λ f. f.block) found)
