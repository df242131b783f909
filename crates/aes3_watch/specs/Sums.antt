-- Sums of a line that is watched: for each period of its cells what comes of them, told beside the events.
use Rattle.std.specs.Prelude.{ℕ, zero, suc, List, [], ◌∷◌, ◌++◌, Bool, true, false, length, drop, map, ◌≡◌, ◌+◌, ◌-◌}
use Rattle.std.specs.Prelude.{◌*◌, ◌/◌, ◌^◌, ◌<◌, ◌≤◌, nat_lt, min, if◌then◌else◌}
use Rattle.std.specs.List.{flat_map, sum_by}
use Rattle.aes3_level.specs.declared.level.Level.{Level}
use Rattle.aes3_frame.specs.Blocks.{block_len}
use Rattle.aes3_lock.specs.declared.report.Report.{Report}
use Rattle.aes3_lock.specs.declared.report.Report.TheVariants.{Whole, Marked, Fault, Unfinished}
use Rattle.aes3_lock.specs.declared.report.Why.{Why}
use Rattle.aes3_lock.specs.declared.report.Why.TheVariants.{Preamble, Biphase, Unclosed}
use Rattle.aes3_lock.specs.Remains.{place_of}
use Rattle.aes3_lock.specs.Reports.{decided, reports}
use Rattle.aes3_input.specs.Taking.{Writing}
use Rattle.aes3_text_lines.specs.declared.event.Event.{Event}
use Rattle.aes3_text_lines.specs.declared.event.Event.TheVariants.{Locked, Lost, Back, Slipped, Status, Validity, End}
use Rattle.aes3_status.specs.declared.style.Style.{Style}
use Rattle.aes3_text_lines.specs.declared.sum.Figures.{Figures}
use Rattle.aes3_text_lines.specs.declared.sum.Sum.{Sum}
use Rattle.aes3_text_lines.specs.Events.{event_line}
use Rattle.aes3_text_lines.specs.SumLines.{sum_line}
use Rattle.aes3_lock_gaps.specs.Gaps.{behind_full, full_count}
use Rattle.aes3_watch.specs.Signals.{signals_of}
use Rattle.aes3_watch.specs.Watching.{is_locked, loss_events, next, told_events, unwatched, up_to, Watches}
use Rattle.aes3_watch.specs.declared.period.Period.{Period}
use Rattle.aes3_watch.specs.declared.signals.Signals.{Signals}
use Rattle.aes3_watch.specs.declared.watching.Watched.{Watched}
use Rattle.aes3_watch.specs.declared.summed.Summed.{Summed}

-- more of what is counted in 64 bits
unfoldable pub more : ℕ → ℕ → ℕ
more n k = min (n + k) (2 ^ 64 - 1)

-- nothing is counted
abbrev pub no_figures : Figures
no_figures = record {
  whole = 0;
  marked = 0;
  fault = 0;
  preamble = 0;
  biphase = 0;
  unclosed = 0;
  lost = 0;
  invalid_first = 0;
  invalid_second = 0;
  changes = 0;
}

-- so many cells of gaps that count
abbrev pub with_lost : Figures → ℕ → Figures
with_lost f n = record {
  whole = f.whole;
  marked = f.marked;
  fault = f.fault;
  preamble = f.preamble;
  biphase = f.biphase;
  unclosed = f.unclosed;
  lost = more f.lost n;
  invalid_first = f.invalid_first;
  invalid_second = f.invalid_second;
  changes = f.changes;
}

-- whether an event tells of a change of what the blocks say of their samples, as a number
abbrev pub change_of : Event → ℕ
change_of (Locked at before) = 0
change_of (Lost at) = 0
change_of (Back at lost) = 0
change_of (Slipped at cells) = 0
change_of (Status at channel status) = 1
change_of (Validity at channel marking) = 1
change_of (End at locked) = 0

unfoldable pub changes_in : List Event → ℕ
changes_in events = sum_by change_of events

-- a whole block that has so many validity bits of 1 in its channels, and of which so many events tell a change
abbrev pub with_whole : Figures → ℕ → ℕ → ℕ → Figures
with_whole f first second changes = record {
  whole = more f.whole 1;
  marked = f.marked;
  fault = f.fault;
  preamble = f.preamble;
  biphase = f.biphase;
  unclosed = f.unclosed;
  lost = f.lost;
  invalid_first = more f.invalid_first first;
  invalid_second = more f.invalid_second second;
  changes = more f.changes changes;
}

abbrev pub with_marked : Figures → Figures
with_marked f = record {
  whole = f.whole;
  marked = more f.marked 1;
  fault = f.fault;
  preamble = f.preamble;
  biphase = f.biphase;
  unclosed = f.unclosed;
  lost = f.lost;
  invalid_first = f.invalid_first;
  invalid_second = f.invalid_second;
  changes = f.changes;
}

-- a fault, by its cause
abbrev pub is_preamble : Why → ℕ
is_preamble Preamble = 1
is_preamble Biphase = 0
is_preamble Unclosed = 0

abbrev pub is_biphase : Why → ℕ
is_biphase Preamble = 0
is_biphase Biphase = 1
is_biphase Unclosed = 0

abbrev pub is_unclosed : Why → ℕ
is_unclosed Preamble = 0
is_unclosed Biphase = 0
is_unclosed Unclosed = 1

abbrev pub with_fault : Figures → Why → Figures
with_fault f why = record {
  whole = f.whole;
  marked = f.marked;
  fault = more f.fault 1;
  preamble = more f.preamble (is_preamble why);
  biphase = more f.biphase (is_biphase why);
  unclosed = more f.unclosed (is_unclosed why);
  lost = f.lost;
  invalid_first = f.invalid_first;
  invalid_second = f.invalid_second;
  changes = f.changes;
}

-- What is known of a line of which sums are told.
-- watched: what its events are told by
-- from: the first cell of the open period
-- place: the cells before it are in a whole block or in a gap that is decided
-- figures: what is counted in the open period
abbrev pub summed_by : Watched → ℕ → ℕ → Figures → Summed
summed_by watched from place figures = record { watched = watched; from = from; place = place; figures = figures }

abbrev pub with_period : Watched → Period → Summed
with_period watched period = summed_by watched period.from period.place period.figures

abbrev pub first_period : Period
first_period = record { from = 0; place = 0; figures = no_figures }

-- of no cell
abbrev pub unsummed : Summed
unsummed = record { watched = unwatched; from = 0; place = 0; figures = no_figures }

-- on to place q of the open period, before which no whole block begins: gaps of a block's length count where they end
abbrev pub on_to : Summed → ℕ → Summed
on_to u q = record {
  watched = up_to u.watched q;
  from = u.from;
  place = behind_full u.place q;
  figures = with_lost u.figures (block_len * full_count u.place q);
}

-- what is told: events and sums
pub data Notice : Type 0 where
  event : Event → Notice
  sum : Sum → Notice

abbrev pub events : List Event → List Notice
events es = map event es

-- the sums among them
abbrev pub sums_in : List Notice → List Sum
sums_in [] = []
sums_in (event e ∷ told) = sums_in told
sums_in (sum s ∷ told) = s ∷ sums_in told

-- on to the end of the open period of so many cells, and its sum behind the events up to there
abbrev pub next_period : ℕ → Summed → Summed
next_period every u = record {
  watched = up_to u.watched (u.from + every);
  from = u.from + every;
  place = behind_full u.place (u.from + every);
  figures = no_figures;
}

abbrev pub period_told : ℕ → Summed → List Notice
period_told every u =
    events (loss_events u.watched (u.from + every))
    ++ sum (record { from = u.from; to = u.from + every; figures = (on_to u (u.from + every)).figures }) ∷ []

-- on over n ends of periods
abbrev pub periods : ℕ → ℕ → Summed → Summed
periods every zero u = u
periods every (suc n) u = periods every n (next_period every u)

abbrev pub periods_told : ℕ → ℕ → Summed → List Notice
periods_told every zero u = []
periods_told every (suc n) u = period_told every u ++ periods_told every n (next_period every u)

-- on to place q, before which no whole block begins, over all ends of periods up to there
unfoldable pub ends_before : ℕ → Summed → ℕ → ℕ
ends_before every u q = (q - u.from) / every

unfoldable pub go_to : ℕ → Summed → ℕ → Summed
go_to every u q = on_to (periods every (ends_before every u q) u) q

unfoldable pub told_to : ℕ → Summed → ℕ → List Notice
told_to every u q =
    let n = ends_before every u q in
    periods_told every n u ++ events (loss_events (periods every n u).watched q)

-- a report at the place that is reached, of which so many events tell a change: a gap that a whole block ends counts
-- with it, if another stands before
abbrev pub counted_report : Figures → ℕ → Bool → Signals → ℕ → Report → Figures
counted_report f place found now changes (Whole at s b) =
    with_whole (if found then with_lost f (at - place) else f) now.first.invalid now.second.invalid changes
counted_report f place found now changes (Marked at s wrong) = with_marked f
counted_report f place found now changes (Fault at cell why) = with_fault f why
counted_report f place found now changes (Unfinished at cells) = f

-- what a whole block says of its samples
abbrev pub says : Report → Signals
says (Whole at s b) = signals_of b
says (Marked at s wrong) = signals_of []
says (Fault at cell why) = signals_of []
says (Unfinished at cells) = signals_of []

abbrev pub is_whole : Report → Bool
is_whole (Whole at s b) = true
is_whole (Marked at s wrong) = false
is_whole (Fault at cell why) = false
is_whole (Unfinished at cells) = false

abbrev pub place_behind : ℕ → Report → ℕ
place_behind p (Whole at s b) = at + block_len
place_behind p (Marked at s wrong) = p
place_behind p (Fault at cell why) = p
place_behind p (Unfinished at cells) = p

abbrev pub take_report : Summed → Report → Summed
take_report u x = record {
  watched = next u.watched x;
  from = u.from;
  place = place_behind u.place x;
  figures =
      counted_report u.figures u.place u.watched.found (says x) (changes_in (told_events u.watched x)) x;
}

-- on to a report, and behind it
abbrev pub next_sum : ℕ → Summed → Report → Summed
next_sum every u x = take_report (go_to every u (place_of x)) x

abbrev pub report_told : ℕ → Summed → Report → List Notice
report_told every u x =
    told_to every u (place_of x) ++ events (told_events (go_to every u (place_of x)).watched x)

-- reports, one behind the other
abbrev pub sums_from : ℕ → Summed → List Report → List Notice
sums_from every u [] = []
sums_from every u (x ∷ r) = report_told every u x ++ sums_from every (next_sum every u x) r

abbrev pub behind_sums : ℕ → Summed → List Report → Summed
behind_sums every u [] = u
behind_sums every u (x ∷ r) = behind_sums every (next_sum every u x) r

-- what stands whatever cells follow: a period's sum as soon as a report behind it is decided, or a block's cells have
-- come from its end on
unfoldable pub begun_notices : ℕ → List Level → List Notice
begun_notices every c =
    sums_from every unsummed (decided c)
    ++ told_to every (behind_sums every unsummed (decided c)) (length c - block_len)

unfoldable pub summed : ℕ → List Level → Summed
summed every c = go_to every (behind_sums every unsummed (decided c)) (length c - block_len)

-- at the end of n cells the sum of the last period, if it has cells, before what is told of the end
abbrev pub last_sum : Summed → ℕ → List Notice
last_sum u n =
    if nat_lt u.from n then sum (record { from = u.from; to = n; figures = u.figures }) ∷ [] else []

abbrev pub end_told : Summed → ℕ → List Notice
end_told u n =
    last_sum u n ++ events (loss_events u.watched n ++ End n (is_locked (up_to u.watched n)) ∷ [])

abbrev pub all_told : ℕ → Summed → ℕ → List Notice
all_told every u n = told_to every u n ++ end_told (go_to every u n) n

unfoldable pub notices : ℕ → List Level → List Notice
notices every c =
    sums_from every unsummed (reports c) ++ all_told every (behind_sums every unsummed (reports c)) (length c)

-- their lines
abbrev pub notice_line : Style → Notice → List ℕ
notice_line style (event e) = event_line style e
notice_line style (sum s) = sum_line style s

abbrev pub notice_lines : Style → List Notice → List ℕ
notice_lines style told = flat_map (notice_line style) told

abbrev pub begun_sums : Style → ℕ → List Level → List ℕ
begun_sums style every c = notice_lines style (begun_notices every c)

abbrev pub sum_lines : Style → ℕ → List Level → List ℕ
sum_lines style every c = notice_lines style (notices every c)

-- the sums that one more cell completes, and those that the end does
unfoldable pub summing : Style → ℕ → Writing Level
summing style every = record {
  adds = λ c l. notice_lines style (drop (length (begun_notices every c)) (begun_notices every (c ++ l ∷ [])));
  ends = λ c. notice_lines style (drop (length (begun_notices every c)) (notices every c));
}

-- what is kept of a line whose cells c have come
pub record Sums (every : ℕ) (state : Summed) (lasts : List ℕ) (c : List Level) : Type 0
  where
    pub some : 0 < every
    pub few : every ≤ 2 ^ 40
    pub state_is : state ≡ summed every c
    pub watches : Watches state.watched lasts c
