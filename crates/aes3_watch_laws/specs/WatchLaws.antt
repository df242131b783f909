-- What the lines of a line watched have to do with its account and its whole blocks, and how few they are.
use Rattle.std.specs.Prelude.{ℕ, List, [], ◌∷◌, Bool, true, false, Option, Some, None, IfSome, length, ◌≡◌, ◌<◌, ◌≤◌}
use Rattle.std.specs.Prelude.{◌⊎◌, ◌+◌, ◌-◌, ◌*◌}
use Rattle.std.specs.List.{Contains, filter}
use Rattle.aes3_level.specs.declared.level.Level.{Level}
use Rattle.aes3_frame.specs.Blocks.{block_len}
use Rattle.aes3_lock.specs.declared.report.Report.{Report}
use Rattle.aes3_lock.specs.declared.report.Report.TheVariants.{Whole, Marked, Fault, Unfinished}
use Rattle.aes3_lock.specs.Pieces.{IsPiece}
use Rattle.aes3_lock.specs.Reports.{blocks, reports}
use Rattle.aes3_text_lines.specs.declared.event.Event.{Event}
use Rattle.aes3_text_lines.specs.declared.event.Event.TheVariants.{Back, End, Locked, Lost, Slipped, Status, Validity}
use Rattle.aes3_lock_gaps.specs.Gaps.{account, is_lost}
use Rattle.aes3_watch.specs.Watching.{ended, is_locked, watch_events}

-- cells are told as lost, or a block as slipped, just where a gap of the account counts
abbrev pub LossesAreGaps : Type 0
LossesAreGaps = (c : List Level)
    → (length (filter is_lost (account c)) ≡ 0 → (ended c).losses ≡ 0)
    × ((ended c).losses ≡ 0 → length (filter is_lost (account c)) ≡ 0)

-- whatever the cells are, six events are told at most for each whole block, and two beside them
abbrev pub EventsAreFew : Type 0
EventsAreFew = (c : List Level) → length (watch_events c) ≤ 6 * length (blocks c) + 2

-- so six for each block's length of cells, and two
abbrev pub CellsHaveFewEvents : Type 0
CellsHaveFewEvents = (c : List Level) → block_len * length (watch_events c) ≤ 6 * length c + 2 * block_len

-- whether an event says that a line locks, and whether one says that it is lost, back or slipped
abbrev pub is_locking : Event → Bool
is_locking (Locked at before) = true
is_locking (Lost at) = false
is_locking (Back at lost) = false
is_locking (Slipped at cells) = false
is_locking (Status at channel status) = false
is_locking (Validity at channel marking) = false
is_locking (End at locked) = false

abbrev pub is_breaking : Event → Bool
is_breaking (Locked at before) = false
is_breaking (Lost at) = true
is_breaking (Back at lost) = true
is_breaking (Slipped at cells) = true
is_breaking (Status at channel status) = false
is_breaking (Validity at channel marking) = false
is_breaking (End at locked) = false

-- whatever the cells are, one event says that the line locks if there is a whole block in them, and else none
abbrev pub LocksOnce : Type 0
LocksOnce = (c : List Level)
    → (0 < length (blocks c) → length (filter is_locking (watch_events c)) ≡ 1)
    × (length (blocks c) ≡ 0 → length (filter is_locking (watch_events c)) ≡ 0)

-- no event says that the line is lost, back or slipped, and it is locked at its end
pub record StaysLocked (c : List Level) : Type 0 where
  pub unbroken : length (filter is_breaking (watch_events c)) ≡ 0
  pub locked : is_locked (ended c) ≡ true

-- so it is where no gap of the account counts and there is a whole block; so in a piece of a lawful stream with one
abbrev pub RowStaysLocked : Type 0
RowStaysLocked = (c : List Level) → length (filter is_lost (account c)) ≡ 0 → 0 < length (blocks c) → StaysLocked c

abbrev pub PieceStaysLocked : Type 0
PieceStaysLocked =
    (s : Level) (bs : List (List (List Bool))) (i j : ℕ) (c : List Level) → IsPiece s bs i j c → 0 < length (blocks c)
    → StaysLocked c

-- a whole block at place q stands directly behind the one that ends before place p; or it is told as slipped, and
-- stands less than a block behind it; or the cells between them are told as lost from p on, and as back at q
abbrev pub IsBehind : List Event → ℕ → ℕ → Type 0
IsBehind events p q = (q ≡ p)
    ⊎ ((Contains events (Slipped q (q - p)) × (q - p < block_len))
    ⊎ (Contains events (Lost p) × Contains events (Back q (q - p))))

-- so does each whole block among reports behind the one before it, which ends before this place, if there is one
abbrev pub AllBehind : List Event → Option ℕ → List Report → Type 0
AllBehind events last [] = Unit {0}
AllBehind events last (Whole at s b ∷ r) =
    IfSome last (λ p. IsBehind events p at) × AllBehind events (Some (at + block_len)) r
AllBehind events last (Marked at s wrong ∷ r) = AllBehind events last r
AllBehind events last (Fault at cell why ∷ r) = AllBehind events last r
AllBehind events last (Unfinished at cells ∷ r) = AllBehind events last r

-- and so in all cells
abbrev pub BlocksFollow : Type 0
BlocksFollow = (c : List Level) → AllBehind (watch_events c) None (reports c)
