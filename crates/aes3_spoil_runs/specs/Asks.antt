-- What a command line asks for, by what `clap` makes of its words.
use Rattle.std.specs.Prelude.{ℕ, List, [], ◌∷◌, ◌≡◌, Option, Some, None, codes, option_and_then}
use Rattle.std.specs.Prelude.{IfSome, is_some, true, unwrap_or}
use Rattle.std.specs.List.{All, flat_map}
use Rattle.std.specs.Option.{option_map}
use Rattle.clap.specs.Faults.{fault_of}
use Rattle.clap.specs.Kinds.{Kinds}
use Rattle.clap.specs.Simple.{matches_of}
use Rattle.clap.specs.Walk.{Text, all_of, first_of, one_of}
use Rattle.aes3_cli.specs.Options.{Options, file_by}
use Rattle.aes3_cell.specs.declared.form.Form.{Form}
use Rattle.aes3_cell.specs.declared.form.Form.TheVariants as form
use Rattle.aes3_spoil.specs.Errors.{errors_of}
use Rattle.aes3_spoil.specs.declared.kinds.CellError.{CellError}
use Rattle.aes3_spoil.specs.declared.kinds.Every.{Every}
use Rattle.aes3_spoil_runs.specs.Named.{errors_named, name_of}
use Rattle.aes3_spoil_runs.specs.SpoilLine.{spoil_line}
use Rattle.aes3_spoil_runs.specs.Values.{every_in, spot_in}
use Rattle.aes3_spoil_runs.specs.declared.spoil_job.Job.{Job}
use Rattle.aes3_spoil_runs.specs.declared.named.NamedError.{NamedError}
use Rattle.aes3_spoil_runs.specs.declared.named.NamedError.TheVariants.{Cell, Invert, Lost, Double, Parity, Biphase}
use Rattle.aes3_spoil_runs.specs.declared.named.NamedError.TheVariants.{Preamble, CheckByte}

-- the form of the cells of which a flag speaks: packed where it stands, else text
pub record IsFormOf (options : Options) (flag : Text) (answer : Form) : Type 0 where
  pub given : one_of flag options ≡ Some (codes "true") → answer ≡ form.Packed
  pub left_out : one_of flag options ≡ Some (codes "false") → answer ≡ form.Text

-- the errors at a spot, and those of an option's value
abbrev pub errors_at_spot : NamedError → Option (ℕ × ℕ) → List CellError
errors_at_spot error None = []
errors_at_spot error (Some spot) = errors_named error spot.0 spot.1

abbrev pub errors_in : NamedError → Text → List CellError
errors_in error text = errors_at_spot error (spot_in error text)

-- the values of an option that names errors, in their order
abbrev pub values_by : Options → NamedError → List Text
values_by options error = unwrap_or (all_of (name_of error) options) []

-- the errors of all of them
abbrev pub errors_by : Options → NamedError → List CellError
errors_by options error = flat_map (errors_in error) (values_by options error)

-- the options that name errors
abbrev pub named_errors : List NamedError
named_errors = Cell ∷ Invert ∷ Lost ∷ Double ∷ Parity ∷ Biphase ∷ Preamble ∷ CheckByte ∷ []

-- the errors of all of these options
abbrev pub all_errors : Options → List CellError
all_errors options = flat_map (errors_by options) named_errors

-- the errors that come again and again
abbrev pub every_by : Options → Option Every
every_by options = option_and_then every_in (first_of (codes "every") options)

-- the text is a value of the option that names the error; the texts of all of these options are
abbrev pub IsValue : NamedError → Text → Type 0
IsValue error text = is_some (spot_in error text) ≡ true

abbrev pub AreValues : Options → NamedError → Type 0
AreValues options error = All (IsValue error) (values_by options error)

-- the text is a value of `--every`
abbrev pub IsEvery : Text → Type 0
IsEvery text = is_some (every_in text) ≡ true

-- the options ask for the job, and each of their values is one
pub record AsksFor (options : Options) (job : Job) : Type 0 where
  pub input : IsFormOf options (codes "packed-in") job.input
  pub output : IsFormOf options (codes "packed-out") job.output
  pub values : All (AreValues options) named_errors
  pub list : errors_of job.errors ≡ all_errors options
  pub every_value : IfSome (first_of (codes "every") options) IsEvery
  pub every : job.errors.every ≡ every_by options
  pub file : option_map (λ name. name.now) job.file ≡ file_by options

-- why the definitions do not take the words: `--help` or `--version` is among them, or a fault; empty where they
-- take them
abbrev pub faults_in : List Text → Kinds
faults_in words = fault_of spoil_line words

-- the definitions take the words, and their options ask for the job
pub record IsJobOf (words : List Text) (job : Job) : Type 0 where
  pub taken : faults_in words ≡ []
  pub asked : AsksFor (matches_of spoil_line words) job
