-- Why words ask for no job, and the text that says so.
use Rattle.std.specs.Prelude.{List, ◌++◌, ◌≡◌, ◌<◌, Some, None, codes, length}
use Rattle.std.specs.List.{Contains, flat_map}
use Rattle.clap.specs.Simple.{matches_of}
use Rattle.clap.specs.Walk.{Text, first_of}
use Rattle.aes3_cli.specs.LineFaults.{IsFaultIn, IsValueFault}
use Rattle.aes3_cli.specs.Wording.{usage_end}
use Rattle.aes3_cli.specs.declared.fault.LineFault.{LineFault}
use Rattle.aes3_cli.specs.Options.{Options}
use Rattle.aes3_spoil.specs.declared.kinds.CellError.{CellError}
use Rattle.aes3_spoil_runs.specs.Asks.{all_errors, errors_in, faults_in, values_by}
use Rattle.aes3_spoil_runs.specs.Named.{name_of}
use Rattle.aes3_spoil_runs.specs.SpoilLine.{spoil_line}
use Rattle.aes3_spoil_runs.specs.Values.{every_in, spot_in}
use Rattle.aes3_spoil_runs.specs.declared.named.NamedError.{NamedError}
use Rattle.aes3_spoil_runs.specs.declared.named.NamedError.TheVariants as named
use Rattle.aes3_spoil_runs.specs.declared.wrong.Wrong.{Wrong}
use Rattle.aes3_spoil_runs.specs.declared.wrong.Wrong.TheVariants as wrong

-- how the program is called
abbrev pub usage : Text
usage = codes "aes3-spoil [OPTIONS] [FILE] > CELLS"

-- ---- wrong values

-- how help calls the value of an option that names errors
abbrev pub value_name : NamedError → Text
value_name named.Biphase = codes "P:SLOT"
value_name error = codes "P"

-- what it has to be
abbrev pub place_needed : NamedError → Text
place_needed named.Biphase = codes "the first cell of a subframe, a colon and a time slot from 4 to 31"
place_needed error = codes "the number of a cell, from 0 to 8796093022208"

-- and what that of `--every` has to be
abbrev pub every_needed : Text
every_needed = codes "a number of cells from 1, a colon, and cell, invert, drop or double"

-- the text is no value of the option `--name <value>`
abbrev pub value_line : Text → Text → Text → Text → Text
value_line text name value needed =
    codes "error: invalid value '" ++ text ++ codes "' for '--" ++ name ++ codes " <" ++ value ++ codes ">': "
    ++ needed

-- there are more errors than 64
abbrev pub many_line : Text
many_line = codes
    "error: more than 64 errors (--check-byte counts as two): run aes3-spoil twice, or use --every"

-- the line that says what is wrong, and the whole text
abbrev pub wrong_line : Wrong → Text
wrong_line (wrong.Value error text) = value_line text.now (name_of error) (value_name error) (place_needed error)
wrong_line (wrong.Every text) = value_line text.now (codes "every") (codes "N:KIND") every_needed
wrong_line wrong.TooMany = many_line

abbrev pub wrong_text : Wrong → Text
wrong_text what = wrong_line what ++ usage_end usage

-- this is wrong with the options: a value of an option that names errors is none, or that of `--every`; or their values
-- name more than 64 errors
abbrev pub IsWrongWith : Options → Wrong → Type 0
IsWrongWith options (wrong.Value error text) =
    Contains (values_by options error) text.now × (spot_in error text.now ≡ None)
IsWrongWith options (wrong.Every text) =
    (first_of (codes "every") options ≡ Some text.now) × (every_in text.now ≡ None)
IsWrongWith options wrong.TooMany = 64 < length (all_errors options)

-- this is wrong with a text after those that name the errors before: it is no value of the option, or there is no more
-- room for what it names; so with one of an option's texts, and with one of the values of an option
abbrev pub IsWrongAt : List CellError → NamedError → Text → Wrong → Type 0
IsWrongAt before error text (wrong.Value named wrong_value) =
    (named ≡ error) × (wrong_value.now ≡ text) × (spot_in error text ≡ None)
IsWrongAt before error text (wrong.Every wrong_value) = ⊥
IsWrongAt before error text wrong.TooMany = 64 < length (before ++ errors_in error text)

abbrev pub IsWrongAfter : List CellError → NamedError → List Text → Wrong → Type 0
IsWrongAfter before error texts (wrong.Value named wrong_value) =
    (named ≡ error) × Contains texts wrong_value.now × (spot_in error wrong_value.now ≡ None)
IsWrongAfter before error texts (wrong.Every wrong_value) = ⊥
IsWrongAfter before error texts wrong.TooMany = 64 < length (before ++ flat_map (errors_in error) texts)

abbrev pub IsWrongIn : List CellError → Options → NamedError → Wrong → Type 0
IsWrongIn before options error = IsWrongAfter before error (values_by options error)

-- the text says what is wrong with the options
abbrev pub SaysWrong : Options → Text → Type 0
SaysWrong options text = (what : Wrong) × IsWrongWith options what × (text ≡ wrong_text what)

-- ---- words

-- why the words ask for no job: they are not taken, or a value among them is wrong; or help or the version is asked
-- for; or memory was refused
abbrev pub IsFaultOf : List Text → LineFault → Type 0
IsFaultOf words = IsFaultIn (faults_in words) usage (SaysWrong (matches_of spoil_line words))

-- the text says that this is wrong; or memory was refused
abbrev pub IsFaultFor : Wrong → LineFault → Type 0
IsFaultFor what = IsValueFault (λ text. text ≡ wrong_text what)

-- the text says what is wrong with the options; or memory was refused
abbrev pub IsOptionFault : Options → LineFault → Type 0
IsOptionFault options = IsValueFault (SaysWrong options)
