-- Sums as functions of the whole account of an input's cells: what counts in a period, and what it comes to.
use Rattle.std.specs.Prelude.{ℕ, List, [], ◌∷◌, ◌++◌, Bool, not, length, ◌≡◌, ◌<◌, ◌+◌, ◌-◌, ◌*◌, ◌^◌, ◌==◌, ◌&&◌}
use Rattle.std.specs.Prelude.{min, nat_lt, if◌then◌else◌}
use Rattle.std.specs.Int.{div_ceil}
use Rattle.std.specs.List.{filter, flat_map, range_with_len, sum_by}
use Rattle.aes3_level.specs.declared.level.Level.{Level}
use Rattle.aes3_frame.specs.Blocks.{block_len}
use Rattle.aes3_frame.specs.Statuses.{validity_of}
use Rattle.aes3_frame.specs.declared.block.Channel.TheVariants.{First, Second}
use Rattle.aes3_lock.specs.declared.report.Report.TheVariants.{Whole, Marked, Fault, Unfinished}
use Rattle.aes3_lock.specs.declared.report.Why.{Why}
use Rattle.aes3_lock.specs.Remains.{place_of}
use Rattle.aes3_lock.specs.Reports.{blocks}
use Rattle.aes3_text_lines.specs.declared.event.Event.{Event}
use Rattle.aes3_text_lines.specs.declared.event.Event.TheVariants.{Locked, Lost, Back, Slipped, Status, Validity, End}
use Rattle.aes3_text_lines.specs.declared.sum.Figures.{Figures}
use Rattle.aes3_text_lines.specs.declared.sum.Sum.{Sum}
use Rattle.aes3_frame.specs.Ones.{ones_in}
use Rattle.aes3_lock_gaps.specs.Gaps.{Entry, reported, lost, cut, account}
use Rattle.aes3_watch.specs.Sums.{Notice, event, sum, events, change_of, is_biphase, is_preamble, is_unclosed}
use Rattle.aes3_watch.specs.Sums.{notices}
use Rattle.aes3_watch.specs.Watching.{ended, is_locked, watch_events}

-- The cell at which an entry of an account counts: a report's first; the last of a gap of a block's length; and behind
-- a shorter gap the first cell of the block that ends it.
abbrev pub counts_at : Entry → ℕ
counts_at (reported x) = place_of x
counts_at (lost at n) = if n == block_len then at + block_len - 1 else at + n
counts_at (cut at n) = at + n

-- And an event: its block's first, or the last cell of a block's length of lost ones.
abbrev pub told_at : Event → ℕ
told_at (Locked at before) = at
told_at (Lost at) = at + block_len - 1
told_at (Back at n) = at
told_at (Slipped at cells) = at
told_at (Status at channel status) = at
told_at (Validity at channel marking) = at
told_at (End at locked) = at

-- those that lie at cell p or behind it, and before cell q
abbrev pub within : {X : Type 0} → (X → ℕ) → ℕ → ℕ → List X → List X
within place p q xs = filter (λ x. not (nat_lt (place x) p) && nat_lt (place x) q) xs

-- what an entry adds to a count of whole blocks by their bits, of marked blocks, of faults by their cause, of lost
-- cells
abbrev pub by_block : (List (List Bool) → ℕ) → Entry → ℕ
by_block f (reported (Whole at s b)) = f b
by_block f (reported (Marked at s wrong)) = 0
by_block f (reported (Fault at cell why)) = 0
by_block f (reported (Unfinished at cells)) = 0
by_block f (lost at n) = 0
by_block f (cut at n) = 0

abbrev pub by_mark : Entry → ℕ
by_mark (reported (Whole at s b)) = 0
by_mark (reported (Marked at s wrong)) = 1
by_mark (reported (Fault at cell why)) = 0
by_mark (reported (Unfinished at cells)) = 0
by_mark (lost at n) = 0
by_mark (cut at n) = 0

abbrev pub by_fault : (Why → ℕ) → Entry → ℕ
by_fault f (reported (Whole at s b)) = 0
by_fault f (reported (Marked at s wrong)) = 0
by_fault f (reported (Fault at cell why)) = f why
by_fault f (reported (Unfinished at cells)) = 0
by_fault f (lost at n) = 0
by_fault f (cut at n) = 0

abbrev pub lost_cells : Entry → ℕ
lost_cells (reported x) = 0
lost_cells (lost at n) = n
lost_cells (cut at n) = 0

abbrev pub cut_cells : Entry → ℕ
cut_cells (reported x) = 0
cut_cells (lost at n) = 0
cut_cells (cut at n) = n

-- what entries and events come to
abbrev pub figures_of : List Entry → List Event → Figures
figures_of e told = record {
  whole = sum_by (by_block (λ b. 1)) e;
  marked = sum_by by_mark e;
  fault = sum_by (by_fault (λ why. 1)) e;
  preamble = sum_by (by_fault is_preamble) e;
  biphase = sum_by (by_fault is_biphase) e;
  unclosed = sum_by (by_fault is_unclosed) e;
  lost = sum_by lost_cells e;
  invalid_first = sum_by (by_block (λ b. ones_in (validity_of b First))) e;
  invalid_second = sum_by (by_block (λ b. ones_in (validity_of b Second))) e;
  changes = sum_by change_of told;
}

-- a number of more than 64 bits stays at the greatest
unfoldable pub fitted : ℕ → ℕ
fitted n = min n (2 ^ 64 - 1)

abbrev pub in_64_bits : Figures → Figures
in_64_bits f = record {
  whole = fitted f.whole;
  marked = fitted f.marked;
  fault = fitted f.fault;
  preamble = fitted f.preamble;
  biphase = fitted f.biphase;
  unclosed = fitted f.unclosed;
  lost = fitted f.lost;
  invalid_first = fitted f.invalid_first;
  invalid_second = fitted f.invalid_second;
  changes = fitted f.changes;
}

-- the sum of the period from cell p on and before cell q of cells c: what counts there of their whole account
abbrev pub sum_of : List Level → ℕ → ℕ → Sum
sum_of c p q = record {
  from = p;
  to = q;
  figures = in_64_bits (figures_of (within counts_at p q (account c)) (within told_at p q (watch_events c)));
}

-- what is told of it: the events of `watch` that lie there, and its sum
abbrev pub period_of : List Level → ℕ → ℕ → List Notice
period_of c p q = events (within told_at p q (watch_events c)) ++ sum (sum_of c p q) ∷ []

-- what is told of all cells: their periods, each of so many cells but the last, and the end
abbrev pub by_periods : ℕ → List Level → List Notice
by_periods every c =
    flat_map (λ k. period_of c (every * k) (min (every * k + every) (length c)))
    (range_with_len 0 (div_ceil (length c) every))
    ++ event (End (length c) (is_locked (ended c))) ∷ []

abbrev pub SumsAreByPeriods : Type 0
SumsAreByPeriods = (every : ℕ) → 0 < every → (c : List Level) → notices every c ≡ by_periods every c

-- what counts in the period from cell p on and before cell q, and these figures of several periods added
abbrev pub figures_in : List Level → ℕ → ℕ → Figures
figures_in c p q = figures_of (within counts_at p q (account c)) (within told_at p q (watch_events c))

abbrev pub added : (ℕ → Figures) → List ℕ → Figures
added f ks = record {
  whole = sum_by (λ k. (f k).whole) ks;
  marked = sum_by (λ k. (f k).marked) ks;
  fault = sum_by (λ k. (f k).fault) ks;
  preamble = sum_by (λ k. (f k).preamble) ks;
  biphase = sum_by (λ k. (f k).biphase) ks;
  unclosed = sum_by (λ k. (f k).unclosed) ks;
  lost = sum_by (λ k. (f k).lost) ks;
  invalid_first = sum_by (λ k. (f k).invalid_first) ks;
  invalid_second = sum_by (λ k. (f k).invalid_second) ks;
  changes = sum_by (λ k. (f k).changes) ks;
}

-- those of all periods are the figures of the whole account and of all events
abbrev pub PeriodsAddUp : Type 0
PeriodsAddUp = (every : ℕ) → 0 < every → (c : List Level)
    → added (λ k. figures_in c (every * k) (min (every * k + every) (length c)))
    (range_with_len 0 (div_ceil (length c) every))
    ≡ figures_of (account c) (watch_events c)

-- which have all whole blocks, and each cell once: in a whole block, lost, or in a gap where the input is cut
abbrev pub AllBlocksCount : Type 0
AllBlocksCount = (c : List Level) → (figures_of (account c) (watch_events c)).whole ≡ length (blocks c)

abbrev pub AllCellsCount : Type 0
AllCellsCount = (c : List Level)
    → block_len * (figures_of (account c) (watch_events c)).whole + (figures_of (account c) (watch_events c)).lost
    + sum_by cut_cells (account c)
    ≡ length c

-- and faults are those of the three causes, of any entries
abbrev pub FaultsHaveCauses : Type 0
FaultsHaveCauses = (e : List Entry) (told : List Event)
    → (figures_of e told).fault
    ≡ (figures_of e told).preamble + (figures_of e told).biphase + (figures_of e told).unclosed
