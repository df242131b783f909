-- The values of options by what their texts mean, as the getters of a parse's matches read them.
use Rattle.std.proofs.Common.{◌≡◌, ◌∙◌, Bor, Option, Some, None, ap, false, is_some, refl, subst, sym, true}
use Rattle.std.specs.Prelude.{IfSome, option_and_then}
use Rattle.std.specs.Option.{option_map}
use Rattle.clap.specs.Matches.{first_value, found_of}
use Rattle.clap.specs.Walk.{Text, first_of}
use Rattle.clap.specs.declared.parser.matches.ArgMatches.{ArgMatches}
use Rattle.aes3_cli.specs.Options.{Options, options_of}
use Rattle.aes3_cli.proofs.OptionReads.{text_is}
use Rattle.aes3_capture_runs.specs.Asks.{IsValueBy, value_by}
use Rattle.aes3_capture_runs.specs.Faults.{HasNoValue}

-- an option that does not stand
pub none-is-value : {A : Type 0} (meaning : Text → Option A) (name : Text) (options : Options)
    → first_of name options ≡ None → IsValueBy meaning name options
none-is-value meaning name options none =
    subst (λ (o : Option Text). IfSome o (λ text. is_some (meaning text) ≡ true)) (sym none) tt

pub value-of-none : {A : Type 0} (meaning : Text → Option A) (name : Text) (options : Options)
    → first_of name options ≡ None → value_by meaning name options ≡ None
value-of-none meaning name options none = ap (option_and_then meaning) none

-- one whose text means this, and one whose text means nothing
pub text-is-value : {A : Type 0} (meaning : Text → Option A) (name : Text) (options : Options) (text : Text) (value : A)
    → first_of name options ≡ Some text → meaning text ≡ Some value → IsValueBy meaning name options
text-is-value meaning name options text value given means =
    subst (λ (o : Option Text). IfSome o (λ text. is_some (meaning text) ≡ true)) (sym given) (ap is_some means)

pub value-of-text : {A : Type 0} (meaning : Text → Option A) (name : Text) (options : Options) (text : Text) (value : A)
    → first_of name options ≡ Some text → meaning text ≡ Some value → value_by meaning name options ≡ Some value
value-of-text meaning name options text value given means = ap (option_and_then meaning) given ∙ means

pub no-value-of-text : {A : Type 0} (meaning : Text → Option A) (name : Text) (options : Options) (text : Text)
    → first_of name options ≡ Some text → meaning text ≡ None → HasNoValue meaning name options
no-value-of-text meaning name options text given means = (text, given, means)

-- whether an option stands
pub stands : (m : ArgMatches) (name : Text) (answer : Option (Bor Text))
    → option_map (λ (s : Bor Text). s.now) answer ≡ first_value (found_of m) name
    → is_some (first_of name (options_of m)) ≡ is_some answer
stands m name answer read = ap is_some (text_is m name answer answer read refl) ∙ same answer
  where
    same : (answer : Option (Bor Text)) → is_some (option_map (λ (s : Bor Text). s.now) answer) ≡ is_some answer
    same None = refl
    same (Some text) = refl

pub none-stands : {A : Type 0} (answer : Option A) → is_some answer ≡ false → answer ≡ None
none-stands None is = refl
none-stands (Some value) is = cc
