-- Laws over the definitions: what the reports, the blocks and the preambles of cells are, whatever the cells.
use Rattle.std.specs.Prelude.{ℕ, List, Bool, true, length, ◌≡◌, ◌<◌, ◌≤◌, ◌+◌, ◌++◌, ◌↔◌, take, drop, map}
use Rattle.std.specs.List.{filter, All, AllPairs, Contains}
use Rattle.aes3_level.specs.declared.level.Level.{Level}
use Rattle.aes3_slot.specs.declared.mark.Mark.{Mark}
use Rattle.aes3_slot.specs.declared.mark.Mark.TheVariants.{Z}
use Rattle.aes3_slot.specs.Rules.{StandsMark}
use Rattle.aes3_frame.specs.Blocks.{block_len, stream, IsBlock}
use Rattle.aes3_lock.specs.declared.report.Report.{Report}
use Rattle.aes3_slot.specs.Preambles.{entry}
use Rattle.aes3_lock.specs.Candidates.{begins_block, keeps, front}
use Rattle.aes3_lock.specs.Outcomes.{whole, marked, fault, unfinished, outcome, wrong_parities}
use Rattle.aes3_lock.specs.Reports.{reports, decided, is_decided, blocks, normal}
use Rattle.aes3_lock.specs.Preambles.{marks}
use Rattle.aes3_lock.specs.Standing.{IsClosed, StandsClosed, SubframesStand, IsViable}
use Rattle.aes3_lock.specs.Pieces.{IsPiece, whole_blocks, true_marks}

-- a candidate begins exactly where Z stands, in either polarity
abbrev pub CandidateWhereZStands : Type 0
CandidateWhereZStands = (c : List Level) → (begins_block c ≡ true) ↔ ((s : Level) × StandsMark Z s c 0)

-- a candidate is whole exactly where a block stands closed: that block, after that level
abbrev pub WholeWhereBlockStands : Type 0
WholeWhereBlockStands =
    (b : List (List Bool)) (s : Level) (c : List Level)
    → ((begins_block c ≡ true) × (outcome c ≡ whole s b)) ↔ StandsClosed b s c

-- and the level before a block is the other one than that of its first cell
abbrev pub BlockTellsLevel : Type 0
BlockTellsLevel = (b : List (List Bool)) (s : Level) (c : List Level) → StandsClosed b s c → entry c ≡ s

-- the subframes of a block stand closed after level s, and n of them, one at least, have a wrong parity bit
pub record StandsMarked (n : ℕ) (s : Level) (c : List Level) : Type 0 where
  pub slots : List (List Bool)
  pub stand : SubframesStand slots s c
  pub wrong : wrong_parities slots ≡ n
  pub some : 0 < n
  pub closed : IsClosed c

-- a candidate is marked exactly where such subframes stand, with their number
abbrev pub MarkedWhereSubframesStand : Type 0
MarkedWhereSubframesStand =
    (n : ℕ) (s : Level) (c : List Level) → ((begins_block c ≡ true) × (outcome c ≡ marked s n)) ↔ StandsMarked n s c

-- cells, a block's number at most, begin a block's subframes exactly if each of them keeps its rule
abbrev pub ViableIfEachKeeps : Type 0
ViableIfEachKeeps =
    (s : Level) (c : List Level) → length c ≤ block_len → IsViable s c ↔ ((i : ℕ) → i < length c → keeps s c i ≡ true)

-- and exactly if the first that does not is behind them all
abbrev pub ViableIfFrontIsAll : Type 0
ViableIfFrontIsAll = (s : Level) (c : List Level) → IsViable s c ↔ (front s c ≡ length c)

-- the cells before cell f begin a block's subframes, and with cell f they don't
pub record EndsViable (f : ℕ) (s : Level) (c : List Level) : Type 0 where
  pub within : f < length c
  pub viable : IsViable s (take f c)
  pub ends : IsViable s (take (f + 1) c) → ⊥

-- within a block the fault of a candidate is exactly the first cell with which its cells begin no block
abbrev pub FaultWhereViableEnds : Type 0
FaultWhereViableEnds = (f : ℕ) (c : List Level) → f < block_len → (outcome c ≡ fault f) ↔ EndsViable f (entry c) c

-- the subframes of a block stand after level s, and are not closed
pub record StandsUnclosed (s : Level) (c : List Level) : Type 0 where
  pub slots : List (List Bool)
  pub stand : SubframesStand slots s c
  pub unclosed : IsClosed c → ⊥

-- it is the cell behind a block exactly where a block's subframes stand that it does not close
abbrev pub FaultWhereUnclosed : Type 0
FaultWhereUnclosed = (c : List Level) → (outcome c ≡ fault block_len) ↔ StandsUnclosed (entry c) c

-- and it is none behind that
abbrev pub FaultWithinBlock : Type 0
FaultWithinBlock = (f : ℕ) (c : List Level) → outcome c ≡ fault f → f ≤ block_len

-- a candidate is unfinished exactly where all its cells begin a block's subframes and are too few for it
abbrev pub UnfinishedWhereViable : Type 0
UnfinishedWhereViable =
    (n : ℕ) (c : List Level) → (outcome c ≡ unfinished n) ↔ (IsViable (entry c) c × (length c ≡ n) × (n < block_len))

-- the decided reports are all but the unfinished and those of blocks that only the end closes
abbrev pub DecidedAreFiltered : Type 0
DecidedAreFiltered = (c : List Level) → decided c ≡ filter (is_decided (length c)) (reports c)

-- and whatever cells follow, the reports begin with them
abbrev pub DecidedStand : Type 0
DecidedStand = (c more : List Level) → (rest : List Report) × (reports (c ++ more) ≡ decided c ++ rest)

-- in a viable list of eight cells or more Z stands at its start, after the level before it, and nowhere else
abbrev pub ZStandsOnce : Type 0
ZStandsOnce =
    (s : Level) (c : List Level) → IsViable s c → 8 ≤ length c → (p : ℕ) (t : Level)
    → StandsMark Z t c p ↔ ((p ≡ 0) × (t ≡ s))

-- of two blocks that stand closed in one list the second begins behind the first
abbrev pub BlocksNeverOverlap : Type 0
BlocksNeverOverlap =
    (b d : List (List Bool)) (s t : Level) (c : List Level) (p q : ℕ) → p < q → StandsClosed b s (drop p c)
    → StandsClosed d t (drop q c)
    → p + block_len ≤ q

-- a block with the place at which it stands and the level before it
pub record PlacedBlock : Type 0 where
  pub place : ℕ
  pub level : Level
  pub block : List (List Bool)

-- these are the blocks that stand closed in cells: each of them does, each is there, in order of place
pub record AreAllBlocks (found : List PlacedBlock) (c : List Level) : Type 0 where
  pub each : All (λ f. StandsClosed f.block f.level (drop f.place c)) found
  pub all : (f : PlacedBlock) → StandsClosed f.block f.level (drop f.place c) → Contains found f
  pub order : AllPairs (λ f g. f.place < g.place) found

-- the blocks of cells are all blocks that stand closed in them, each once, in order of place
abbrev pub BlocksAreAllStanding : Type 0
BlocksAreAllStanding = (c : List Level) → (found : List PlacedBlock) × AreAllBlocks found c
    × (blocks c ≡ map (λ f. f.block) found)

-- these are the preambles that stand in cells: each of them does, each is there, in order of place
pub record AreAllMarks (found : List (ℕ × Mark × Level)) (c : List Level) : Type 0 where
  pub each : All (λ m. StandsMark m.1 m.2 c m.0) found
  pub all : (p : ℕ) (m : Mark) (t : Level) → StandsMark m t c p → Contains found (p, m, t)
  pub order : AllPairs (λ m n. m.0 < n.0) found

-- the preambles of cells are all that stand in them, each once, in order of place
abbrev pub MarksAreAllStanding : Type 0
MarksAreAllStanding = (c : List Level) → AreAllMarks (marks c) c

-- in every piece of a lawful stream the preambles are its true ones and no other
abbrev pub MarksAreTrue : Type 0
MarksAreTrue = (s : Level) (bs : List (List (List Bool))) (i j : ℕ) (c : List Level) → IsPiece s bs i j c
    → marks c ≡ true_marks s bs i j

-- in every piece of a lawful stream the blocks are those that lie whole in it, in order
abbrev pub BlocksAreWhole : Type 0
BlocksAreWhole = (s : Level) (bs : List (List (List Bool))) (i j : ℕ) (c : List Level) → IsPiece s bs i j c
    → blocks c ≡ whole_blocks bs i j

-- the blocks of a lawful stream are those that it was made of
abbrev pub StreamGivesBlocks : Type 0
StreamGivesBlocks = (s : Level) (bs : List (List (List Bool))) → All IsBlock bs → blocks (stream s bs) ≡ bs

-- so no two lists of blocks have one stream
abbrev pub StreamsDiffer : Type 0
StreamsDiffer = (s : Level) (bs ds : List (List (List Bool))) → All IsBlock bs → All IsBlock ds
    → stream s bs ≡ stream s ds → bs ≡ ds

-- a lawful line is its own normal form, and two lists of cells have one normal form exactly if they have the same
-- blocks
abbrev pub NormalIsFixed : Type 0
NormalIsFixed = (c : List Level) → normal (normal c) ≡ normal c

abbrev pub NormalTellsBlocks : Type 0
NormalTellsBlocks = (c d : List Level) → (normal c ≡ normal d) ↔ (blocks c ≡ blocks d)
