-- From a parse's answer to the program's.
use Rattle.std.proofs.Common.{◌≡◌, ◌∙◌, List, [], Option, Some, None, true, inl, inr, refl, sym, ap, subst, true≢false}
use Rattle.std.proofs.Common.{is_some}
use Rattle.std.specs.Option.{option_map}
use Rattle.clap.specs.Faults.{fault_of, is_simple_and_free}
use Rattle.clap.specs.Kinds.{HasKind}
use Rattle.clap.specs.Matches.{subcommand_name_of}
use Rattle.clap.specs.Simple.{App, HasMatchesOf, is_simple, subcommand_rows_of}
use Rattle.clap.specs.Values.{kind_of}
use Rattle.clap.specs.Walk.{Row, Text}
use Rattle.clap.specs.declared.error.Error.{Error}
use Rattle.clap.specs.declared.error.kind.ErrorKind.{ErrorKind}
use Rattle.clap.specs.declared.parser.matches.ArgMatches.{ArgMatches}
use Rattle.clap.specs.declared.parser.matches.ArgMatches.TheViews.{out-ArgMatches}
use Rattle.aes3_refusals.specs.declared.run_error.RunError.{RunError}
use Rattle.aes3_refusals.specs.declared.run_error.RunError.TheVariants.{Memory}
use Rattle.aes3_cli.specs.CommandLine.{command_line}
use Rattle.aes3_cli_arguments.specs.Jobs.{AreBadOptionsOf, IsLineFaultOf, Options, StandsIn, Tells}
use Rattle.aes3_cli_arguments.specs.Jobs.{faults_in}
use Rattle.aes3_cli_arguments.specs.declared.command_job.LineFault.{LineFault}
use Rattle.aes3_cli_arguments.specs.declared.command_job.LineFault.TheVariants as fault
use Rattle.aes3_cli_arguments.proofs.OptionRows.{some_inj}

pub line_is_free : is_simple_and_free command_line ≡ true
line_is_free = refl

pub line_is_simple : is_simple command_line ≡ true
line_is_simple = refl

-- what is told of an error of the parse
pub error_told : (words : List Text) (e : Error) (told : LineFault) → HasKind (faults_in words) e
    → Tells words (kind_of e) told → IsLineFaultOf words told
error_told words e (fault.Usage text) kind tells = elim kind [
  | inl memory ↦ absurd (tells.0 memory)
  | inr among ↦ inl ((kind_of e, among, tells.1, tells.2), tells.3)
]
error_told words e (fault.Help text) kind tells = elim kind [
  | inl memory ↦ elim tells [ inl help ↦ cc | inr version ↦ cc ]
  | inr among ↦ elim tells [
    | inl help ↦ inl (subst (λ (k : ErrorKind). Rattle.clap.specs.Kinds.IsAmong k (faults_in words)) help among)
    | inr version ↦ inr (subst (λ (k : ErrorKind). Rattle.clap.specs.Kinds.IsAmong k (faults_in words)) version among)
  ]
]
error_told words e (fault.Refused error) kind tells = inl tells

-- the refusal that is told
refused_of : LineFault → RunError
refused_of (fault.Refused error) = error
refused_of (fault.Usage text) = Memory
refused_of (fault.Help text) = Memory

refused_inj : (x y : RunError) → fault.Refused x ≡ fault.Refused y → x ≡ y
unfolding refused_of
refused_inj x y e = ap refused_of e

-- a bad status is told, and so are bad settings and options that are misused
pub bad_option_told : (words : List Text) (name : Text) (options : Options) (told : LineFault)
    → StandsIn words name options
    → AreBadOptionsOf name options told → IsLineFaultOf words told
bad_option_told words name options (fault.Usage text) stands bad = elim bad [
  | inl option ↦ elim option [
    | inl rewrite ↦ inr (name, options, stands, inl (inl rewrite))
    | inr (inl (from_pcm, inl change)) ↦ inr (name, options, stands, inl (inr (inl (from_pcm, change))))
    | inr (inl (from_pcm, inr inexact)) ↦ cc
    | inr (inr from_wav) ↦ inr (name, options, stands, inl (inr (inr from_wav)))
  ]
  | inr (inl misuse) ↦ inr (name, options, stands, inr misuse)
  | inr (inr memory) ↦ cc
]
bad_option_told words name options (fault.Help text) stands bad = elim bad [
  | inl option ↦ elim option [
    | inl rewrite ↦ absurd rewrite.1
    | inr (inl (from_pcm, inl change)) ↦ absurd change
    | inr (inl (from_pcm, inr inexact)) ↦ cc
    | inr (inr from_wav) ↦ absurd from_wav.1
  ]
  | inr (inl misuse) ↦ absurd misuse.2
  | inr (inr memory) ↦ cc
]
bad_option_told words name options (fault.Refused error) stands bad = elim bad [
  | inl option ↦ elim option [
    | inl rewrite ↦ elim rewrite.1 [
      | inl memory ↦ inl memory
      | inr status ↦ inr (inl (status.0, (name, options, stands, inl rewrite.0, status.1)))
    ]
    | inr (inl from_pcm) ↦ elim from_pcm.1 [
      | inl (inl memory) ↦ inl memory
      | inl (inr status) ↦ inr (inl (status.0, (name, options, stands, inr (inl from_pcm.0), status.1)))
      | inr inexact ↦ inr (inr (
        refused_inj _ _ inexact.0,
        (options, subst (λ n. StandsIn words n options) from_pcm.0 stands, inexact.1),
      ))
    ]
    | inr (inr from_wav) ↦ elim from_wav.1 [
      | inl memory ↦ inl memory
      | inr status ↦ inr (inl (status.0, (name, options, stands, inr (inr from_wav.0), status.1)))
    ]
  ]
  | inr (inl misuse) ↦ inl misuse.2
  | inr (inr memory) ↦ inl (refused_inj _ _ memory)
]

both_parts : {X : Type 0} (f : X → Text) (g : X → List Row) (o : Option X) (name : Text) (options : List Row)
    → Some name ≡ option_map f o
    → Some options ≡ option_map (λ (p : Text × List Row). p.1) (option_map {U = Text × List Row} (λ b. (f b, g b)) o)
    → option_map {U = Text × List Row} (λ b. (f b, g b)) o ≡ Some (name, options)
both_parts f g None name options named rows = absurd (true≢false (ap is_some named))
both_parts f g (Some x) name options named rows = λ i. Some (sym (some_inj _ _ named) i, sym (some_inj _ _ rows) i)

-- the command that the matches hold is the one that stands in the words
pub command_stands : (a : App) (words : List Text) (m : ArgMatches) (name : Text) (options : List Row) → a ≡ command_line
    → (is_simple_and_free a ≡ true → fault_of a words ≡ []) → HasMatchesOf a words m
    → Some name ≡ subcommand_name_of m → Some options ≡ option_map (λ (p : Text × List Row). p.1) (subcommand_rows_of m)
    → StandsIn words name options
command_stands a words m name options is none matches named rows = (
  subst (λ (x : App). fault_of x words ≡ []) is (none (ap is_simple_and_free is ∙ line_is_free)),
  sym (subst (λ (x : App). HasMatchesOf x words m) is matches line_is_simple).1
      ∙ both_parts _ _ (out-ArgMatches m).subcommand name options named rows,
)
