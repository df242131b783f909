-- What is told of a line that is watched: where its whole blocks begin, stay away, come back and go on at another
-- place, and where they say something else of their samples.
use Rattle.std.specs.Prelude.{ℕ, List, [], ◌∷◌, ◌++◌, Bool, true, false, not, Option, Some, None, IfSome, length, drop}
use Rattle.std.specs.Prelude.{map, ◌≡◌, ◌≤◌, ◌+◌, ◌-◌, ◌^◌, ◌&&◌, ◌||◌, nat_lt, if◌then◌else◌}
use Rattle.std.specs.List.{filter, flat_map}
use Rattle.aes3_level.specs.declared.level.Level.{Level}
use Rattle.aes3_cell.specs.declared.form.Form.{Form}
use Rattle.aes3_cell.specs.declared.counts.Counts.{Counts}
use Rattle.aes3_slot.specs.ReadWords.{read_words}
use Rattle.aes3_frame.specs.Blocks.{block_len}
use Rattle.aes3_lock.specs.declared.report.Report.{Report}
use Rattle.aes3_lock.specs.declared.report.Report.TheVariants.{Whole, Marked, Fault, Unfinished}
use Rattle.aes3_lock.specs.Outcomes.{payloads_of}
use Rattle.aes3_lock.specs.Reports.{blocks, decided, reports}
use Rattle.aes3_input.specs.Inputs.{cells_of}
use Rattle.aes3_input.specs.Taking.{Writing}
use Rattle.aes3_lock.specs.Tallies.{is_faulty, is_unfinished}
use Rattle.aes3_text_lines.specs.declared.event.Event.{Event}
use Rattle.aes3_text_lines.specs.declared.event.Event.TheVariants.{Locked, Lost, Back, Slipped, End}
use Rattle.aes3_status.specs.declared.style.Style.{Style}
use Rattle.aes3_text_lines.specs.Events.{event_line}
use Rattle.aes3_watch.specs.Signals.{change_events, last_cells, signals_of}
use Rattle.aes3_watch.specs.declared.signals.Signals.{Signals}
use Rattle.aes3_watch.specs.declared.watching.Watched.{Watched}

-- A line of which no cell has come.
-- found: a whole block has come
-- place: the place behind the last whole block, or 0
-- lost: the cells from there on are told as lost
-- losses: how often cells were told as lost, or a block as slipped
-- latest: what the last whole block says of its samples
abbrev pub unwatched : Watched
unwatched = record { found = false; place = 0; lost = false; losses = 0; latest = None }

-- where no whole block begins before place q: are the cells from w.place on told as lost, or fewer than a block has
abbrev pub is_told : Watched → ℕ → Bool
is_told w q = w.lost || nat_lt (q - w.place) block_len

abbrev pub loss_events : Watched → ℕ → List Event
loss_events w q = if is_told w q then [] else Lost w.place ∷ []

abbrev pub up_to : Watched → ℕ → Watched
up_to w q =
    if is_told w q
    then w
    else record { found = w.found; place = w.place; lost = true; losses = w.losses + 1; latest = w.latest }

-- a whole block at a place before which all is told, and behind another: behind lost cells, behind fewer than a block
-- has, or directly behind it; and any whole block, of which the first locks
abbrev pub later_events : Watched → ℕ → List Event
later_events w at =
    if w.lost
    then Back at (at - w.place) ∷ []
    else (if nat_lt w.place at then Slipped at (at - w.place) ∷ [] else [])

abbrev pub whole_events : Watched → ℕ → Level → List Event
whole_events w at s = if w.found then later_events w at else Locked at s ∷ []

abbrev pub slips : Watched → ℕ → Bool
slips w at = w.found && (not w.lost && nat_lt w.place at)

abbrev pub behind_whole : Watched → ℕ → Signals → Watched
behind_whole w at now =
    record {
      found = true;
      place = at + block_len;
      lost = false;
      losses = if slips w at then w.losses + 1 else w.losses;
      latest = Some now;
    }

-- the events of a report, and the line behind it
abbrev pub told_events : Watched → Report → List Event
told_events w (Whole at s b) =
    loss_events w at ++ (whole_events (up_to w at) at s ++ change_events at w.latest (signals_of b))
told_events w (Marked at s wrong) = loss_events w at
told_events w (Fault at cell why) = loss_events w at
told_events w (Unfinished at cells) = loss_events w at

abbrev pub next : Watched → Report → Watched
next w (Whole at s b) = behind_whole (up_to w at) at (signals_of b)
next w (Marked at s wrong) = up_to w at
next w (Fault at cell why) = up_to w at
next w (Unfinished at cells) = up_to w at

-- of reports, one behind the other
abbrev pub events_from : Watched → List Report → List Event
events_from w [] = []
events_from w (x ∷ r) = told_events w x ++ events_from (next w x) r

abbrev pub behind_reports : Watched → List Report → Watched
behind_reports w [] = w
behind_reports w (x ∷ r) = behind_reports (next w x) r

-- what stands whatever cells follow, as soon as two blocks' cells have come from the first lost one on
unfoldable pub begun_events : List Level → List Event
begun_events c =
    events_from unwatched (decided c) ++ loss_events (behind_reports unwatched (decided c)) (length c - block_len)

unfoldable pub watched : List Level → Watched
watched c = up_to (behind_reports unwatched (decided c)) (length c - block_len)

-- all events: is the last whole block followed by fewer cells than a block has, the line is locked at the end
abbrev pub is_locked : Watched → Bool
is_locked w = w.found && not w.lost

unfoldable pub ended : List Level → Watched
ended c = up_to (behind_reports unwatched (reports c)) (length c)

unfoldable pub watch_events : List Level → List Event
watch_events c =
    events_from unwatched (reports c)
    ++ (loss_events (behind_reports unwatched (reports c)) (length c) ++ End (length c) (is_locked (ended c)) ∷ [])

-- their lines
abbrev pub event_lines : Style → List Event → List ℕ
event_lines style events = flat_map (event_line style) events

abbrev pub begun_watch : Style → List Level → List ℕ
begun_watch style c = event_lines style (begun_events c)

abbrev pub watch_lines : Style → List Level → List ℕ
watch_lines style c = event_lines style (watch_events c)

-- what a run counts that watches a line: what was told as lost, and slips, are faults too
unfoldable pub watch_counts : Form → List ℕ → Counts
watch_counts form b = record {
  bytes = length b;
  cells = length (cells_of form b);
  blocks = length (blocks (cells_of form b));
  faults = length (filter is_faulty (reports (cells_of form b))) + (ended (cells_of form b)).losses;
  unfinished = length (filter is_unfinished (reports (cells_of form b)));
  marks = 0;
}

-- the events that one more cell decides, and those that the end does
unfoldable pub watching : Style → Writing Level
watching style = record {
  adds = λ c l. event_lines style (drop (length (begun_events c)) (begun_events (c ++ l ∷ [])));
  ends = λ c. event_lines style (drop (length (begun_events c)) (watch_events c));
}

-- the last eight cells of subframes are those of a whole block that says this of its samples, where there is one
abbrev pub SaysSo : List ℕ → Signals → Type 0
SaysSo lasts now =
    (words : List ℕ) × (map last_cells words ≡ lasts) × (now ≡ signals_of (payloads_of (read_words words)))

abbrev pub IsKept : Option Signals → List ℕ → Type 0
IsKept latest lasts = IfSome latest (λ now. SaysSo lasts now)

-- what is kept of a line whose cells c have come, and of one that has ended
pub record Watches (state : Watched) (lasts : List ℕ) (c : List Level) : Type 0 where
  pub state_is : state ≡ watched c
  pub kept : IsKept state.latest lasts

pub record Ended (losses : ℕ) (c : List Level) : Type 0 where
  pub short : length c ≤ 2 ^ 43
  pub losses_is : losses ≡ (ended c).losses
