-- Numbers that stand for the variants of an enum.
use Rattle.std.specs.Prelude.{ℕ, Bool, List, ◌∷◌, ◌+◌, ◌*◌, ◌^◌, ◌==◌, ◌||◌, get_or, if◌then◌else◌}
use Rattle.aes3_frame.specs.declared.block.Channel.{Channel}
use Rattle.aes3_frame.specs.declared.block.Channel.TheVariants.{First, Second}
use Rattle.aes3_status.specs.declared.check.Check.{Check}
use Rattle.aes3_status.specs.declared.check.Check.TheVariants.{Good, Absent, Bad}
use Rattle.aes3_lock.specs.declared.report.Why.{Why}
use Rattle.aes3_lock.specs.declared.report.Why.TheVariants.{Preamble, Biphase, Unclosed}
use Rattle.aes3_text_lines.specs.declared.event.Marking.{Marking}
use Rattle.aes3_text_lines.specs.declared.event.Marking.TheVariants.{Clear, Set, Mixed}

-- a version by its three numbers
abbrev pub version_number : ℕ → ℕ → ℕ → ℕ
version_number major minor patch = 65536 * major + 256 * minor + patch

-- how a status stands to its check byte
abbrev pub check_code : Check → ℕ
check_code Good = 0
check_code Absent = 1
check_code Bad = 2

-- why a cell refutes a candidate
abbrev pub why_of_code : ℕ → Why
why_of_code n = if n == 0 then Preamble else if n == 1 then Biphase else Unclosed

-- the number of a reason
abbrev pub why_code : Why → ℕ
why_code Preamble = 0
why_code Biphase = 1
why_code Unclosed = 2

-- a number of a channel, and the channel of it
abbrev pub is_channel : ℕ → Bool
is_channel n = (n == 1) || (n == 2)

abbrev pub channel_of : ℕ → Channel
channel_of n = if n == 1 then First else Second

abbrev pub channel_code : Channel → ℕ
channel_code First = 1
channel_code Second = 2

-- the number of a state of validity bits
abbrev pub marking_code : Marking → ℕ
marking_code Clear = 0
marking_code Set = 1
marking_code Mixed = 2

-- what a code adds to its byte, where its field begins with this bit
abbrev pub code_from : ℕ → ℕ → ℕ
code_from first code = 2 ^ first * code

-- four bytes, and others behind them
abbrev pub four_bytes : List ℕ → List ℕ → List ℕ
four_bytes four more = get_or four 0 0 ∷ get_or four 1 0 ∷ get_or four 2 0 ∷ get_or four 3 0 ∷ more
