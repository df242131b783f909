-- What is said of words that are not taken, or whose values are wrong.
use Rattle.std.proofs.Common.{◌≡◌, ◌&&◌, [], Bool, false, inl, inr, refl, subst, true}
use Rattle.clap.specs.Kinds.{HasKind, IsAmong, Kinds}
use Rattle.clap.specs.Values.{kind_of}
use Rattle.clap.specs.Walk.{Text}
use Rattle.clap.specs.declared.error.Error.{Error}
use Rattle.clap.specs.declared.error.kind.ErrorKind.{ErrorKind}
use Rattle.aes3_cli.specs.LineFaults.{IsFaultBy, IsFaultIn, IsValueFault, IsWordsFault}
use Rattle.aes3_cli.specs.declared.fault.LineFault.{LineFault}
use Rattle.aes3_cli.specs.declared.fault.LineFault.TheVariants as fault

-- what is said of an error that `clap` found
pub error_said : (faults : Kinds) (usage : Text) (says : Text → Type 0) (e : Error) (said : LineFault) → HasKind faults e
    → IsFaultBy usage (kind_of e) said → IsFaultIn faults usage says said
error_said faults usage says e (fault.Usage text) kind is = elim kind [
  | inl memory ↦ absurd (is.0 memory)
  | inr among ↦ inl ((kind_of e, among, is.1, is.2), is.3)
]
error_said faults usage says e (fault.Help text) kind is = elim kind [
  | inl memory ↦ elim is [ inl help ↦ cc | inr version ↦ cc ]
  | inr among ↦ elim is [
    | inl help ↦ inl (subst (λ (k : ErrorKind). IsAmong k faults) help among)
    | inr version ↦ inr (subst (λ (k : ErrorKind). IsAmong k faults) version among)
  ]
]
error_said faults usage says e fault.Memory kind is = tt

-- what is said of wrong values
pub value_said : (faults : Kinds) (usage : Text) (says : Text → Type 0) (said : LineFault) → faults ≡ []
    → IsValueFault says said → IsFaultIn faults usage says said
value_said faults usage says (fault.Usage text) none is = inr (none, is)
value_said faults usage says (fault.Help text) none is = absurd is
value_said faults usage says fault.Memory none is = tt

-- what is said of words that are not taken
pub words_said : (faults : Kinds) (usage : Text) (says : Text → Type 0) (said : LineFault)
    → IsWordsFault faults usage said → IsFaultIn faults usage says said
words_said faults usage says (fault.Usage text) (inl not_taken) = inl not_taken
words_said faults usage says (fault.Usage text) (inr value) = absurd value.1
words_said faults usage says (fault.Help text) is = is
words_said faults usage says fault.Memory is = tt

-- a program that is simple and free is simple
pub left_holds : (a b : Bool) → (a && b) ≡ true → a ≡ true
left_holds true b both = refl
left_holds false b both = both
