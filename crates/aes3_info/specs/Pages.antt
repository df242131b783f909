-- The page of a recording: a field a line, or a JSON object. Numbers are decimal.
use Rattle.std.specs.Prelude.{ℕ, List, [], ◌∷◌, ◌++◌, Bool, true, false, Option, Some, None, ◌+◌, ◌/◌, ◌%◌, ◌^◌}
use Rattle.std.specs.Prelude.{◌==◌, codes, decimal, if◌then◌else◌}
use Rattle.hex.specs.Hex.{encode_lower}
use Rattle.aes3_frame.specs.declared.block.Channel.{Channel}
use Rattle.aes3_frame.specs.declared.block.Channel.TheVariants.{First, Second}
use Rattle.aes3_text_lines.specs.Events.{second_cells, seconds}
use Rattle.aes3_text_lines.specs.StatusLines.{channel_digit}
use Rattle.aes3_status.specs.StatusTexts.{status_text}
use Rattle.aes3_status.specs.declared.style.Notation.{Notation}
use Rattle.aes3_status.specs.declared.style.Notation.TheVariants.{Words, Json}
use Rattle.aes3_info.specs.declared.channel_facts.ChannelFacts.{ChannelFacts}
use Rattle.aes3_info.specs.declared.facts.Facts.{Facts}
use Rattle.aes3_info.specs.Facts.{square}
use Rattle.aes3_info.specs.Levels.{level_of, times}
use Rattle.aes3_info.specs.Rates.{rate_of}

-- what the page begins with, the cells; what stands before the value of each other field and behind it; and what ends
-- the page
unfoldable pub opening : Notation → ℕ → List ℕ
opening Words cells = codes "cells " ++ decimal cells ++ 10 ∷ []
opening Json cells = codes "{\"cells\":" ++ decimal cells

unfoldable pub field_name : Notation → List ℕ → List ℕ → List ℕ
field_name Words name digit = name ++ digit ++ codes " "
field_name Json name digit = codes ",\"" ++ name ++ digit ++ codes "\":"

unfoldable pub field_end : Notation → List ℕ
field_end Words = codes "\n"
field_end Json = []

abbrev pub closing : Notation → List ℕ
closing Words = []
closing Json = codes "}\n"

-- the value of a field of which nothing is known
abbrev pub unknown : Notation → List ℕ
unknown Words = codes "unknown"
unknown Json = codes "null"

-- a field of the whole recording, and one of a channel
unfoldable pub field : Notation → List ℕ → List ℕ → List ℕ
field notation name value = field_name notation name [] ++ value ++ field_end notation

unfoldable pub channel_field : Notation → List ℕ → Channel → List ℕ → List ℕ
channel_field notation name channel value =
    field_name notation name (channel_digit channel) ++ value ++ field_end notation

-- the rate, and how long so many cells take, in seconds with three places
unfoldable pub rate_value : Notation → Option ℕ → List ℕ
rate_value notation None = unknown notation
rate_value notation (Some rate) = decimal rate

unfoldable pub seconds_value : Notation → Option ℕ → ℕ → List ℕ
seconds_value notation None cells = unknown notation
seconds_value notation (Some rate) cells = seconds (second_cells rate) cells

-- a channel's status: as its line has it, or as 48 digits
unfoldable pub status_field : Notation → Channel → Option (List ℕ) → List ℕ
status_field notation channel None = channel_field notation (codes "status") channel (unknown notation)
status_field Words channel (Some status) = codes "status" ++ channel_digit channel ++ status_text status ++ codes "\n"
status_field Json channel (Some status) =
    channel_field Json (codes "status") channel (codes "\"" ++ encode_lower status ++ codes "\"")

-- so many tenths of a decibel below full scale, in decibels; and a level, which is none where there is no power
unfoldable pub tenths_value : ℕ → List ℕ
tenths_value tenths =
    (if tenths == 0 then [] else codes "-") ++ decimal (tenths / 10) ++ 46 ∷ (48 + tenths % 10) ∷ []

abbrev pub no_level : Notation → List ℕ
no_level Words = codes "-inf"
no_level Json = codes "null"

unfoldable pub level_value : Notation → ℕ → ℕ → List ℕ
level_value notation power full = if power == 0 then no_level notation else tenths_value (level_of power full)

-- whether all samples of so many blocks are zero, where there is a block
abbrev pub answer : Notation → Bool → List ℕ
answer Words true = codes "yes"
answer Words false = codes "no"
answer Json true = codes "true"
answer Json false = codes "false"

unfoldable pub silence_value : Notation → ℕ → ℕ → List ℕ
silence_value notation whole greatest = if whole == 0 then unknown notation else answer notation (greatest == 0)

-- the squares of the greatest magnitude, and of so many blocks of it, each with 192 samples of a channel
abbrev pub full_power : ℕ
full_power = 2 ^ 46

abbrev pub full_energy : ℕ → ℕ
full_energy whole = times (times full_power 192) whole

-- the rate that the first whole block names in channel 1
unfoldable pub page_rate : Facts → Option ℕ
page_rate f = first_rate f.first.first
  where
    first_rate : Option (List ℕ) → Option ℕ
    first_rate None = None
    first_rate (Some status) = rate_of status

-- the fields of the whole recording, and those of a channel behind its status
unfoldable pub time_fields : Notation → Facts → List ℕ
time_fields n f =
    field n (codes "rate") (rate_value n (page_rate f))
    ++ field n (codes "seconds") (seconds_value n (page_rate f) f.cells)

unfoldable pub block_fields : Notation → Facts → List ℕ
block_fields n f =
    field n (codes "whole") (decimal f.reports.whole) ++ field n (codes "marked") (decimal f.reports.marked)
    ++ field n (codes "fault") (decimal f.reports.fault) ++ field n (codes "preamble") (decimal f.reports.preamble)
    ++ field n (codes "biphase") (decimal f.reports.biphase) ++ field n (codes "unclosed") (decimal f.reports.unclosed)
    ++ field n (codes "unfinished") (decimal f.reports.unfinished)

unfoldable pub gap_fields : Notation → Facts → List ℕ
gap_fields n f =
    field n (codes "gaps") (decimal f.gaps.gaps) ++ field n (codes "lost") (decimal f.gaps.lost)
    ++ field n (codes "cut") (decimal f.gaps.cut)

unfoldable pub head : Notation → Facts → List ℕ
head n f = opening n f.cells ++ time_fields n f ++ block_fields n f ++ gap_fields n f

unfoldable pub sample_fields : Notation → Channel → ℕ → ChannelFacts → List ℕ
sample_fields n channel whole f =
    channel_field n (codes "changes") channel (decimal f.changes)
    ++ channel_field n (codes "invalid") channel (decimal f.invalid)
    ++ channel_field n (codes "peak") channel (decimal f.samples.greatest)
    ++ channel_field n (codes "peak_dbfs") channel (level_value n (square f.samples.greatest) full_power)
    ++ channel_field n (codes "rms_dbfs") channel (level_value n f.samples.energy (full_energy whole))
    ++ channel_field n (codes "silent") channel (silence_value n whole f.samples.greatest)

abbrev pub channel_fields : Notation → Channel → ℕ → ChannelFacts → List ℕ
channel_fields n channel whole f = status_field n channel f.first ++ sample_fields n channel whole f

-- the page
unfoldable pub page : Notation → Facts → List ℕ
page n f =
    head n f
    ++ (channel_fields n First f.reports.whole f.first
    ++ (channel_fields n Second f.reports.whole f.second ++ closing n))
