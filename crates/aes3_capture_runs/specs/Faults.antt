-- Why words ask for no job, and the text that says so.
use Rattle.std.specs.Prelude.{List, ◌++◌, ◌≡◌, ◌≢◌, ◌⊎◌, Option, ℕ, Some, None, codes, is_some, true}
use Rattle.clap.specs.Simple.{matches_of}
use Rattle.clap.specs.Walk.{Text, first_of, one_of}
use Rattle.aes3_cli.specs.LineFaults.{IsFaultIn, IsValueFault}
use Rattle.aes3_cli.specs.Options.{Options, file_by}
use Rattle.aes3_cli.specs.Wording.{usage_end}
use Rattle.aes3_cli.specs.declared.fault.LineFault.{LineFault}
use Rattle.aes3_capture_runs.specs.Asks.{at_by, faults_in, octets_by, period_of, rate_by}
use Rattle.aes3_capture_runs.specs.CellsLine.{cells_line}
use Rattle.aes3_capture_runs.specs.Values.{bit_in, frequency_in, octets_in}
use Rattle.aes3_capture_runs.specs.declared.wrong.Wrong.{Wrong}
use Rattle.aes3_capture_runs.specs.declared.wrong.Wrong.TheVariants as wrong

-- how the program is called
abbrev pub usage : Text
usage = codes "aes3-cells [OPTIONS] [FILE] > CELLS"

-- what is said of a wrong value, without the program's name
abbrev pub reason : Wrong → Text
reason wrong.Rate = codes "--rate takes a frequency in Hz, 1 or more, as 24000000, 24M, 24000k or 44.1k"
reason wrong.At = codes "--at takes a frequency in Hz, 1 or more, as 24000000, 24M, 24000k or 44.1k"
reason wrong.Unit = codes "--unit takes 1 or 2, the octets of a sample"
reason wrong.Bit = codes "--bit takes 0 to 7, or with --unit 2 0 to 15"
reason wrong.AtAlone = codes "--at needs --rate"
reason wrong.TellAlone = codes "--tell needs --rate"
reason wrong.PlacesOnly = codes "--places writes no cells: use it only with --rate, --at, --unit and --bit"
reason wrong.PlacesAlone = codes "--places needs FILE: it reads the report from standard input"
reason wrong.Period = codes "a cell has to have 2.015625 to 8000 samples: --rate / (128 * --at)"

-- the whole text
abbrev pub wrong_text : Wrong → Text
wrong_text what = codes "aes3-cells: " ++ reason what ++ usage_end usage

-- the text of an option has no such meaning
abbrev pub HasNoValue : {A : Type 0} → (Text → Option A) → Text → Options → Type 0
HasNoValue meaning name options = (text : Text) × (first_of name options ≡ Some text) × (meaning text ≡ None)

-- both frequencies are given, and a cell of that line would have too few or too many samples
abbrev pub AreApart : Option ℕ → Option ℕ → Wrong → Type 0
AreApart rate at error =
    (error ≡ wrong.Period) × (is_some rate ≡ true) × (is_some at ≡ true) × (period_of rate at ≡ None)

-- this is wrong with the options
abbrev pub IsWrongWith : Options → Wrong → Type 0
IsWrongWith options wrong.Rate = HasNoValue frequency_in (codes "rate") options
IsWrongWith options wrong.At = HasNoValue frequency_in (codes "at") options
IsWrongWith options wrong.Unit = HasNoValue octets_in (codes "unit") options
IsWrongWith options wrong.Bit = HasNoValue (bit_in (octets_by options)) (codes "bit") options
IsWrongWith options wrong.AtAlone =
    (first_of (codes "rate") options ≡ None) × (is_some (first_of (codes "at") options) ≡ true)
IsWrongWith options wrong.TellAlone =
    (first_of (codes "rate") options ≡ None) × (one_of (codes "tell") options ≢ Some (codes "false"))
IsWrongWith options wrong.PlacesOnly =
    (one_of (codes "places") options ≢ Some (codes "false"))
    × ((one_of (codes "packed-out") options ≢ Some (codes "false"))
    ⊎ ((one_of (codes "tell") options ≢ Some (codes "false")) ⊎ (is_some (first_of (codes "picture") options) ≡ true)))
IsWrongWith options wrong.PlacesAlone =
    (file_by options ≡ None) × (one_of (codes "places") options ≢ Some (codes "false"))
IsWrongWith options wrong.Period = AreApart (rate_by options) (at_by options) wrong.Period

-- the text says what is wrong with the options
abbrev pub SaysWrong : Options → Text → Type 0
SaysWrong options text = (what : Wrong) × IsWrongWith options what × (text ≡ wrong_text what)

-- why the words ask for no job: they are not taken, or a value among them is wrong; or help or the version is asked
-- for; or memory was refused
abbrev pub IsFaultOf : List Text → LineFault → Type 0
IsFaultOf words = IsFaultIn (faults_in words) usage (SaysWrong (matches_of cells_line words))

-- the text says that this is wrong; or memory was refused
abbrev pub IsFaultFor : Wrong → LineFault → Type 0
IsFaultFor what = IsValueFault (λ text. text ≡ wrong_text what)

-- the text says what is wrong with the options; or memory was refused
abbrev pub IsOptionFault : Options → LineFault → Type 0
IsOptionFault options = IsValueFault (SaysWrong options)
