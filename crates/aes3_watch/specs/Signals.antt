-- What the whole blocks of a line say of their samples, and where that changes.
use Rattle.std.specs.Prelude.{ℕ, List, [], ◌∷◌, ◌++◌, Bool, true, false, Option, Some, None, ◌/◌, ◌^◌, ◌==◌}
use Rattle.std.specs.Prelude.{if◌then◌else◌}
use Rattle.std.specs.Str.{bytes_eq}
use Rattle.aes3_frame.specs.declared.block.Channel.{Channel}
use Rattle.aes3_frame.specs.declared.block.Channel.TheVariants.{First, Second}
use Rattle.aes3_frame.specs.Statuses.{status_of, validity_of}
use Rattle.aes3_text_lines.specs.declared.event.Event.{Event}
use Rattle.aes3_text_lines.specs.declared.event.Event.TheVariants.{Status, Validity}
use Rattle.aes3_text_lines.specs.declared.event.Marking.{Marking}
use Rattle.aes3_text_lines.specs.declared.event.Marking.TheVariants.{Clear, Set, Mixed}
use Rattle.aes3_frame.specs.Ones.{ones_in}
use Rattle.aes3_watch.specs.declared.signals.Signals.{Signals}
use Rattle.aes3_watch.specs.declared.signals.ChannelSignals.{ChannelSignals}

-- of a channel of a block: its status, and how many of its validity bits are 1
abbrev pub channel_signals : List (List Bool) → Channel → ChannelSignals
channel_signals b channel = record { status = status_of b channel; invalid = ones_in (validity_of b channel) }

-- of both
unfoldable pub signals_of : List (List Bool) → Signals
signals_of b = record { first = channel_signals b First; second = channel_signals b Second }

-- of a subframe's 64 cells in a word, the last eight, which carry its validity bit and its bit of channel status
abbrev pub last_cells : ℕ → ℕ
last_cells word = word / 2 ^ 56

-- what 192 validity bits are of which n are 1
abbrev pub marking_of : ℕ → Marking
marking_of n = if n == 0 then Clear else (if n == 192 then Set else Mixed)

abbrev pub same_marking : Marking → Marking → Bool
same_marking Clear Clear = true
same_marking Clear Set = false
same_marking Clear Mixed = false
same_marking Set Clear = false
same_marking Set Set = true
same_marking Set Mixed = false
same_marking Mixed Clear = false
same_marking Mixed Set = false
same_marking Mixed Mixed = true

-- a channel of a whole block at a place, behind a whole block that says otherwise
abbrev pub status_events : ℕ → Channel → ChannelSignals → ChannelSignals → List Event
status_events at channel before now =
    if bytes_eq before.status now.status then [] else Status at channel now.status ∷ []

abbrev pub validity_events : ℕ → Channel → ChannelSignals → ChannelSignals → List Event
validity_events at channel before now =
    if same_marking (marking_of before.invalid) (marking_of now.invalid)
    then []
    else Validity at channel (marking_of now.invalid) ∷ []

-- both channels behind the whole block before it, if there is one: the first says nothing new
unfoldable pub change_events : ℕ → Option Signals → Signals → List Event
change_events at None now = []
change_events at (Some before) now =
    status_events at First before.first now.first ++ status_events at Second before.second now.second
    ++ validity_events at First before.first now.first ++ validity_events at Second before.second now.second
