-- What C keeps of a line that is watched, and is told of its events.
use Rattle.std.specs.Prelude.{ℕ, List, ◌∷◌, ◌++◌, Some, None, length, map, not, replicate, ◌≡◌, ◌≤◌, ◌^◌, ◌==◌}
use Rattle.std.specs.Prelude.{if◌then◌else◌}
use Rattle.aes3_level.specs.declared.level.Level.{Level}
use Rattle.aes3_level.specs.Words.{bit_of}
use Rattle.aes3_lock.specs.declared.report.Report.{Report}
use Rattle.aes3_lock.specs.Remains.{place_of}
use Rattle.aes3_lock.specs.Reports.{reports}
use Rattle.aes3_text_lines.specs.declared.event.Event.{Event}
use Rattle.aes3_text_lines.specs.declared.event.Event.TheVariants.{Locked, Lost, Back, Slipped, Status, Validity, End}
use Rattle.aes3_watch.specs.declared.signals.Signals.{Signals}
use Rattle.aes3_watch.specs.declared.watching.Watched.{Watched}
use Rattle.aes3_watch.specs.Watching.{behind_reports, begun_events, events_from, loss_events, unwatched, up_to}
use Rattle.aes3_c.specs.Codes.{channel_code, marking_code}
use Rattle.aes3_c.specs.declared.watch_calls.Aes3Event.{Aes3Event}
use Rattle.aes3_c.specs.declared.watch_calls.Aes3Watch.{Aes3Watch}

-- the line that these numbers keep: all but how often cells were told as lost, or a block as slipped
abbrev pub signals_in : Aes3Watch → Signals
signals_in k = record {
  first = record { status = k.first_status; invalid = k.first_invalid };
  second = record { status = k.second_status; invalid = k.second_invalid };
}

abbrev pub watched_in : Aes3Watch → Watched
watched_in k = record {
  found = not (k.found == 0);
  place = k.place;
  lost = not (k.lost == 0);
  losses = 0;
  latest = if k.known == 0 then None else Some (signals_in k);
}

abbrev pub uncounted : Watched → Watched
uncounted w = record { found = w.found; place = w.place; lost = w.lost; losses = 0; latest = w.latest }

-- the numbers of an event: the codes of the header, and 0 in each field that an event has no use for
abbrev pub no_event : Aes3Event
no_event = record {
  at = 0;
  cells = 0;
  status = replicate 24 0;
  kind = 0;
  channel = 0;
  before = 0;
  validity = 0;
  locked = 0;
}

abbrev numbers : ℕ → ℕ → ℕ → List ℕ → ℕ → ℕ → ℕ → ℕ → Aes3Event
numbers kind at cells status channel before validity locked = record {
  at = at;
  cells = cells;
  status = status;
  kind = kind;
  channel = channel;
  before = before;
  validity = validity;
  locked = locked;
}

abbrev pub event_numbers : Event → Aes3Event
event_numbers (Locked at before) = numbers 1 at 0 (replicate 24 0) 0 (bit_of before) 0 0
event_numbers (Lost at) = numbers 2 at 0 (replicate 24 0) 0 0 0 0
event_numbers (Back at lost) = numbers 3 at lost (replicate 24 0) 0 0 0 0
event_numbers (Slipped at cells) = numbers 4 at cells (replicate 24 0) 0 0 0 0
event_numbers (Status at channel status) = numbers 5 at 0 status (channel_code channel) 0 0 0
event_numbers (Validity at channel marking) =
    numbers 6 at 0 (replicate 24 0) (channel_code channel) 0 (marking_code marking) 0
event_numbers (End at locked) = numbers 7 at 0 (replicate 24 0) 0 0 0 (if locked then 1 else 0)

-- the report x is the next one on the cells c behind the reports r
abbrev pub IsNext : List Level → List Report → Report → Type 0
IsNext c r x = (more : List Report) × (reports c ≡ r ++ x ∷ more)

-- the place of the first of these reports is this one or a later one
abbrev pub BeginFrom : ℕ → List Report → Type 0
BeginFrom place more = (x : Report) (rest : List Report) → more ≡ x ∷ rest → place ≤ place_of x

-- A line that is watched, of whose cells c the reports r were given, the first ones. It has gone on to a place before
-- which no further report begins. What was put are the numbers of the events of those reports, and of what is lost
-- behind them before that place.
pub record HasPut (k : Aes3Watch) (c : List Level) (r : List Report) (put : List Aes3Event) : Type 0 where
  pub reached : ℕ
  pub within : reached ≤ length c
  pub few : length c ≤ 2 ^ 43
  pub more : List Report
  pub begins : reports c ≡ r ++ more
  pub later : BeginFrom reached more
  pub state_is : watched_in k ≡ uncounted (up_to (behind_reports unwatched r) reached)
  pub put_is : put
      ≡ map event_numbers (events_from unwatched r ++ loss_events (behind_reports unwatched r) reached)

-- the numbers of all events that stand whatever cells follow these are among those put
abbrev pub HasBegun : List Level → List Aes3Event → Type 0
HasBegun c put = (more : List Event) × (put ≡ map event_numbers (begun_events c ++ more))
