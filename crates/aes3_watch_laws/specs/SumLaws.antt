-- What the lines of a line of which sums are told have to do with those of `watch`.
use Rattle.std.specs.Prelude.{ℕ, List, [], ◌∷◌, ◌≡◌, ◌<◌}
use Rattle.aes3_level.specs.declared.level.Level.{Level}
use Rattle.aes3_text_lines.specs.declared.event.Event.{Event}
use Rattle.aes3_watch.specs.Watching.{begun_events, watch_events}
use Rattle.aes3_watch.specs.Sums.{Notice, event, sum, begun_notices, notices}

-- the events among what is told
abbrev pub events_in : List Notice → List Event
events_in [] = []
events_in (event e ∷ told) = e ∷ events_in told
events_in (sum s ∷ told) = events_in told

-- they are those that `watch` tells, of all cells and of those that have come
abbrev pub EventsStay : Type 0
EventsStay = (every : ℕ) → 0 < every → (c : List Level) → events_in (notices every c) ≡ watch_events c

abbrev pub BegunEventsStay : Type 0
BegunEventsStay = (every : ℕ) → 0 < every → (c : List Level) → events_in (begun_notices every c) ≡ begun_events c
