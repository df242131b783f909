-- The line of a channel status.
use Rattle.std.specs.Prelude.{ℕ, List, [], ◌∷◌, ◌++◌, Bool, codes, decimal}
use Rattle.aes3_frame.specs.declared.block.Channel.{Channel}
use Rattle.aes3_frame.specs.declared.block.Channel.TheVariants.{First, Second}
use Rattle.aes3_frame.specs.Statuses.{status_of, user_of, validity_of}
use Rattle.aes3_status.specs.declared.detail.Detail.{Detail}
use Rattle.aes3_status.specs.declared.detail.Detail.TheVariants.{Plain, Place, Carried, Names}
use Rattle.aes3_status.specs.StatusTexts.{names_text, status_text}
use Rattle.aes3_frame.specs.Ones.{ones_in}

abbrev pub channel_digit : Channel → List ℕ
channel_digit First = codes "1"
channel_digit Second = codes "2"

-- `block=<number> channel=<1 or 2>`
abbrev pub head_text : ℕ → Channel → List ℕ
head_text block channel = codes "block=" ++ decimal block ++ codes " channel=" ++ channel_digit channel

-- the line of a channel's status, its 24 bytes, in block `block`
abbrev pub status_line : ℕ → Channel → List ℕ → List ℕ
status_line block channel bytes = head_text block channel ++ status_text bytes ++ 10 ∷ []

-- the same line with a text before its line feed
abbrev pub status_line_with : ℕ → Channel → List ℕ → List ℕ → List ℕ
status_line_with block channel bytes text = head_text block channel ++ status_text bytes ++ text ++ 10 ∷ []

-- what stands behind the status of a channel of a block, which begins at cell `at`: nothing, the cell, or how many of
-- the channel's validity bits are 1, how many of its user bits, and the cell, or the words of codes of its status
abbrev pub detail_text : Detail → Channel → ℕ → List (List Bool) → List ℕ
detail_text Plain channel at b = []
detail_text Place channel at b = codes " at=" ++ decimal at
detail_text Carried channel at b =
    codes " v=" ++ decimal (ones_in (validity_of b channel))
    ++ codes " u=" ++ decimal (ones_in (user_of b channel))
    ++ codes " at=" ++ decimal at
detail_text Names channel at b = names_text (status_of b channel)
