-- Laws of what stands behind the lines of channel status.
use Rattle.std.specs.Prelude.{ℕ, List, [], ◌∷◌, ◌++◌, Bool, ◌≡◌}
use Rattle.aes3_frame.specs.declared.block.Channel.{Channel}
use Rattle.aes3_lock.specs.declared.report.Report.{Report}
use Rattle.aes3_lock.specs.Reports.{wholes}
use Rattle.aes3_status.specs.declared.detail.Detail.{Detail}
use Rattle.aes3_status.specs.declared.detail.Detail.TheVariants.{Plain}
use Rattle.aes3_text_lines.specs.StatusLines.{detail_text}
use Rattle.aes3_text.specs.Runs.{change_details, change_lines, channel_line, detail_line, detail_lines, status_lines}

-- with no detail the lines of reports are those of their blocks, and so are those of changes
abbrev pub PlainIsStatus : Type 0
PlainIsStatus = (r : List Report) → detail_lines Plain r ≡ status_lines (wholes r)

abbrev pub PlainIsChange : Type 0
PlainIsChange = (r : List Report) → change_details Plain r ≡ change_lines (wholes r)

-- a line, and the same line with a text before its line feed
pub record Behind (line text longer : List ℕ) : Type 0 where
  pub words : List ℕ
  pub plain : line ≡ words ++ 10 ∷ []
  pub behind : longer ≡ words ++ text ++ 10 ∷ []

-- a channel's line with a detail is its line with this text before its line feed
abbrev pub DetailIsBehind : Type 0
DetailIsBehind = (detail : Detail) (channel : Channel) (n at : ℕ) (b : List (List Bool))
    → Behind (channel_line channel n b) (detail_text detail channel at b) (detail_line detail channel n at b)
