-- Laws of the account of an input's cells.
use Rattle.std.specs.Prelude.{ℕ, List, [], ◌∷◌, ◌++◌, Bool, length, ◌≡◌, ◌<◌, ◌≤◌, ◌+◌, ◌*◌}
use Rattle.std.specs.List.{All, filter}
use Rattle.aes3_level.specs.declared.level.Level.{Level}
use Rattle.aes3_frame.specs.Blocks.{block_len, stream, IsBlock}
use Rattle.aes3_lock.specs.declared.report.Report.{Report}
use Rattle.aes3_lock.specs.declared.report.Report.TheVariants.{Whole, Marked, Fault, Unfinished}
use Rattle.aes3_lock.specs.Damage.{changed, without}
use Rattle.aes3_lock.specs.Pieces.{IsPiece}
use Rattle.aes3_lock.specs.Reports.{blocks, reports}
use Rattle.aes3_lock_gaps.specs.Gaps.{Entry, reported, lost, cut, account, begun_account, accounted, is_lost}
use Rattle.aes3_lock_gaps.specs.Told.{reports_in}

-- the whole blocks and the gaps of an account are the cells from place p up to, but without, place q, each exactly
-- once, in order
abbrev pub Covers : ℕ → List Entry → ℕ → Type 0
Covers p [] q = p ≡ q
Covers p (reported (Whole at s b) ∷ e) q = (at ≡ p) × Covers (at + block_len) e q
Covers p (reported (Marked at s wrong) ∷ e) q = Covers p e q
Covers p (reported (Fault at cell why) ∷ e) q = Covers p e q
Covers p (reported (Unfinished at cells) ∷ e) q = Covers p e q
Covers p (lost at n ∷ e) q = (at ≡ p) × Covers (at + n) e q
Covers p (cut at n ∷ e) q = (at ≡ p) × Covers (at + n) e q

-- the account of all cells has all of them in a whole block or a gap, and all reports
abbrev pub AccountIsWhole : Type 0
AccountIsWhole = (c : List Level) → Covers 0 (account c) (length c) × (reports_in (account c) ≡ reports c)

-- what stands whatever cells follow accounts for all cells but the last two blocks'
abbrev pub AccountIsInTime : Type 0
AccountIsInTime = (c : List Level) → Covers 0 (begun_account c) (accounted c) × (length c < accounted c + 2 * block_len)

-- and that begins the account of these cells and any that follow
abbrev pub AccountStands : Type 0
AccountStands = (c d : List Level) → (more : List Entry) × (account (c ++ d) ≡ begun_account c ++ more)

-- a gap has a cell at least, and no more than a block
abbrev pub HasGapOfABlock : Entry → Type 0
HasGapOfABlock (reported x) = Unit {0}
HasGapOfABlock (lost at n) = (0 < n) × (n ≤ block_len)
HasGapOfABlock (cut at n) = (0 < n) × (n ≤ block_len)

abbrev pub GapsAreShort : Type 0
GapsAreShort = (c : List Level) → All HasGapOfABlock (account c)

-- the whole blocks among reports stand in a row: the first at place p, each directly behind the one before it
abbrev pub InRow : ℕ → List Report → Type 0
InRow p [] = Unit {0}
InRow p (Whole at s b ∷ r) = (at ≡ p) × InRow (at + block_len) r
InRow p (Marked at s wrong ∷ r) = InRow p r
InRow p (Fault at cell why ∷ r) = InRow p r
InRow p (Unfinished at cells ∷ r) = InRow p r

-- the whole blocks of cells stand in a row, and before and behind them are fewer cells than a block has
pub record LosesNothing (c : List Level) : Type 0 where
  pub first : ℕ
  pub begins : first < block_len
  pub row : InRow first (reports c)
  pub ends : length c < first + block_len * (length (blocks c) + 1)

-- where no gap counts
abbrev pub NoGapLosesNothing : Type 0
NoGapLosesNothing = (c : List Level) → length (filter is_lost (account c)) ≡ 0 → LosesNothing c

-- where one cell of a stream of whole blocks changes, a gap counts
abbrev pub ChangeIsLost : Type 0
ChangeIsLost =
    (s : Level) (bs : List (List (List Bool))) → All IsBlock bs → (k : ℕ) → k < length (stream s bs)
    → 0 < length (filter is_lost (account (changed k (stream s bs))))

-- and where one is lost that stands between the first block and the last
abbrev pub LossIsLost : Type 0
LossIsLost =
    (s : Level) (bs : List (List (List Bool))) → All IsBlock bs → (k : ℕ) → block_len ≤ k
    → k + block_len < length (stream s bs)
    → 0 < length (filter is_lost (account (without k (stream s bs))))

-- where the whole blocks of cells, one at least, stand so, no gap counts; and so in a piece of a lawful stream with a
-- whole block
abbrev pub RowHasNoGap : Type 0
RowHasNoGap = (c : List Level) → LosesNothing c → 0 < length (blocks c) → length (filter is_lost (account c)) ≡ 0

abbrev pub PieceHasNoGap : Type 0
PieceHasNoGap =
    (s : Level) (bs : List (List (List Bool))) (i j : ℕ) (c : List Level) → IsPiece s bs i j c → 0 < length (blocks c)
    → length (filter is_lost (account c)) ≡ 0
