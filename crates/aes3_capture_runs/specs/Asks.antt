-- What a command line asks for, by what `clap` makes of its words.
use Rattle.std.specs.Prelude.{ℕ, List, [], ◌≡◌, Option, Some, None, IfSome, codes, is_some, option_and_then, true, false}
use Rattle.std.specs.Option.{option_map, option_map_or}
use Rattle.clap.specs.Faults.{fault_of}
use Rattle.clap.specs.Kinds.{Kinds}
use Rattle.clap.specs.Simple.{matches_of}
use Rattle.clap.specs.Walk.{Text, first_of, one_of}
use Rattle.aes3_cell.specs.declared.form.Form.TheVariants as form
use Rattle.aes3_cli.specs.Options.{Options, file_by}
use Rattle.aes3_capture_runs.specs.CellsLine.{cells_line}
use Rattle.aes3_capture_runs.specs.Values.{bit_in, frequency_in, octets_in, period_in}
use Rattle.aes3_capture_runs.specs.declared.capture_job.Job.{Job}

-- which of two answers a flag chooses: one where it stands, and one where it does not
pub record IsChosen {A : Type 0} (options : Options) (flag : Text) (standing left_out answer : A) : Type 0 where
  pub given : one_of flag options ≡ Some (codes "true") → answer ≡ standing
  pub absent : one_of flag options ≡ Some (codes "false") → answer ≡ left_out

-- the value of an option, where it stands, by what its text means; and that this means something
abbrev pub value_by : {A : Type 0} → (Text → Option A) → Text → Options → Option A
value_by meaning name options = option_and_then meaning (first_of name options)

abbrev pub IsValueBy : {A : Type 0} → (Text → Option A) → Text → Options → Type 0
IsValueBy meaning name options = IfSome (first_of name options) (λ text. is_some (meaning text) ≡ true)

-- samples a second, and the line's sampling frequency
abbrev pub rate_by : Options → Option ℕ
rate_by options = value_by frequency_in (codes "rate") options

abbrev pub at_by : Options → Option ℕ
at_by options = value_by frequency_in (codes "at") options

-- how many octets a sample has
abbrev pub octets_by : Options → ℕ
octets_by options = option_map_or (λ octets. octets) (value_by octets_in (codes "unit") options) 1

-- how long a cell is, where both frequencies are given
abbrev pub period_of : Option ℕ → Option ℕ → Option ℕ
period_of rate at = option_and_then (λ r. option_and_then (period_in r) at) rate

-- where both are given there is such a length
abbrev pub FitTogether : Option ℕ → Option ℕ → Type 0
FitTogether rate at = IfSome rate (λ r. IfSome at (λ a. is_some (period_in r a) ≡ true))

-- no option is given that is about the cells that are written, or about their run
pub record WritesNoCells (options : Options) : Type 0 where
  pub packed_out : one_of (codes "packed-out") options ≡ Some (codes "true") → ⊥
  pub tell : one_of (codes "tell") options ≡ Some (codes "true") → ⊥
  pub picture : first_of (codes "picture") options ≡ None

-- the options ask for the job, and each of their values is one; those that want `--rate` or a file have it
pub record AsksFor (options : Options) (job : Job) : Type 0 where
  pub output : IsChosen options (codes "packed-out") form.Packed form.Text job.form
  pub unit : IsValueBy octets_in (codes "unit") options
  pub octets : job.octets ≡ octets_by options
  pub bit_value : IsValueBy (bit_in (octets_by options)) (codes "bit") options
  pub bit : job.bit ≡ value_by (bit_in (octets_by options)) (codes "bit") options
  pub rate_value : IsValueBy frequency_in (codes "rate") options
  pub rate : job.rate ≡ rate_by options
  pub at_value : IsValueBy frequency_in (codes "at") options
  pub at_wants_rate : first_of (codes "rate") options ≡ None → first_of (codes "at") options ≡ None
  pub fit : FitTogether (rate_by options) (at_by options)
  pub period : job.period ≡ period_of (rate_by options) (at_by options)
  pub tell_wants_rate : first_of (codes "rate") options ≡ None → one_of (codes "tell") options ≡ Some (codes "true") → ⊥
  pub tell : IsChosen options (codes "tell") (rate_by options) None job.tell_each
  pub places : IsChosen options (codes "places") true false job.places
  pub places_alone : one_of (codes "places") options ≡ Some (codes "true") → WritesNoCells options
  pub places_want_file : file_by options ≡ None → one_of (codes "places") options ≡ Some (codes "true") → ⊥
  pub picture : option_map (λ name. name.now) job.picture ≡ first_of (codes "picture") options
  pub file : option_map (λ name. name.now) job.file ≡ file_by options

-- why the definitions do not take the words: `--help` or `--version` is among them, or a fault; empty where they
-- take them
abbrev pub faults_in : List Text → Kinds
faults_in words = fault_of cells_line words

-- the definitions take the words, and their options ask for the job
pub record IsJobOf (words : List Text) (job : Job) : Type 0 where
  pub taken : faults_in words ≡ []
  pub asked : AsksFor (matches_of cells_line words) job
