-- What is told of a line that is watched: events, each a line of words or a JSON object. Numbers are decimal.
use Rattle.std.specs.Prelude.{ℕ, List, [], ◌∷◌, ◌++◌, ◌+◌, ◌*◌, ◌/◌, ◌%◌, Bool, true, false, Option, Some, None, max}
use Rattle.std.specs.Prelude.{codes, decimal}
use Rattle.hex.specs.Hex.{encode_lower}
use Rattle.aes3_text_lines.specs.declared.event.Event.{Event}
use Rattle.aes3_text_lines.specs.declared.event.Event.TheVariants.{Locked, Lost, Back, Slipped, Status, Validity, End}
use Rattle.aes3_status.specs.declared.style.Notation.{Notation}
use Rattle.aes3_status.specs.declared.style.Notation.TheVariants.{Words, Json}
use Rattle.aes3_status.specs.declared.style.Style.{Style}
use Rattle.aes3_text_lines.specs.declared.event.Marking.{Marking}
use Rattle.aes3_text_lines.specs.declared.event.Marking.TheVariants.{Clear, Set, Mixed}
use Rattle.aes3_text_lines.specs.MarkLines.{level_digit}
use Rattle.aes3_text_lines.specs.StatusLines.{channel_digit}

-- what an event's line begins with, and what stands before its line feed
unfoldable pub opening : Notation → List ℕ → List ℕ
opening Words word = word
opening Json word = codes "{\"event\":\"" ++ word ++ codes "\""

unfoldable pub closing : Notation → List ℕ
closing Words = []
closing Json = codes "}"

-- a field with a number, and one with a word, which stands without its name among words
unfoldable pub field_name : Notation → List ℕ → List ℕ
field_name Words name = codes " " ++ name ++ codes " "
field_name Json name = codes ",\"" ++ name ++ codes "\":"

abbrev pub number_field : Notation → List ℕ → List ℕ → List ℕ
number_field notation name digits = field_name notation name ++ digits

unfoldable pub word_field : Notation → List ℕ → List ℕ → List ℕ
word_field Words name word = codes " " ++ word
word_field Json name word = codes ",\"" ++ name ++ codes "\":\"" ++ word ++ codes "\""

-- how many cells a second has on a line of so many frames a second, one at least: a frame has 128
abbrev pub second_cells : ℕ → ℕ
second_cells rate = 128 * max rate 1

-- the time at which a cell begins, in seconds with three places, where a second has so many cells
unfoldable pub seconds : ℕ → ℕ → List ℕ
seconds cells at =
    let thousandths = 1000 * (at % cells) / cells in
    decimal (at / cells)
    ++ 46 ∷ (48 + thousandths / 100 % 10) ∷ (48 + thousandths / 10 % 10) ∷ (48 + thousandths % 10) ∷ []

-- where an event is: its cell and, where the rate is known, the time
unfoldable pub time_field : Notation → Option ℕ → ℕ → List ℕ
time_field notation None at = []
time_field notation (Some rate) at = number_field notation (codes "time") (seconds (second_cells rate) at)

unfoldable pub place_fields : Style → ℕ → List ℕ
place_fields style at = number_field style.notation (codes "at") (decimal at) ++ time_field style.notation style.rate at

-- the word of an event, its place, and its other fields
abbrev pub event_word : Event → List ℕ
event_word (Locked at before) = codes "locked"
event_word (Lost at) = codes "lost"
event_word (Back at lost) = codes "back"
event_word (Slipped at cells) = codes "slipped"
event_word (Status at channel status) = codes "status"
event_word (Validity at channel marking) = codes "validity"
event_word (End at locked) = codes "end"

abbrev pub event_place : Event → ℕ
event_place (Locked at before) = at
event_place (Lost at) = at
event_place (Back at lost) = at
event_place (Slipped at cells) = at
event_place (Status at channel status) = at
event_place (Validity at channel marking) = at
event_place (End at locked) = at

abbrev pub marking_word : Marking → List ℕ
marking_word Clear = codes "clear"
marking_word Set = codes "set"
marking_word Mixed = codes "mixed"

abbrev pub lock_word : Bool → List ℕ
lock_word true = codes "locked"
lock_word false = codes "lost"

abbrev pub event_fields : Notation → Event → List ℕ
event_fields n (Locked at before) = number_field n (codes "before") (level_digit before)
event_fields n (Lost at) = []
event_fields n (Back at lost) = number_field n (codes "lost") (decimal lost)
event_fields n (Slipped at cells) = number_field n (codes "cells") (decimal cells)
event_fields n (Status at channel status) =
    number_field n (codes "channel") (channel_digit channel) ++ word_field n (codes "status") (encode_lower status)
event_fields n (Validity at channel marking) =
    number_field n (codes "channel") (channel_digit channel) ++ word_field n (codes "validity") (marking_word marking)
event_fields n (End at locked) = word_field n (codes "state") (lock_word locked)

-- the line of an event
unfoldable pub event_line : Style → Event → List ℕ
event_line style event =
    opening style.notation (event_word event) ++ place_fields style (event_place event)
    ++ event_fields style.notation event ++ closing style.notation ++ 10 ∷ []
