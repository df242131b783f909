use Rattle.std.proofs.Common.{◌≡◌, ◌∙◌, [], ap, map, subst}
use Rattle.clap.specs.Faults.{fault_of, is_simple_and_free}
use Rattle.clap.specs.Kinds.{HasKind}
use Rattle.clap.specs.Simple.{App, HasMatchesOf}
use Rattle.aes3_cli.proofs.LineFaultLemmas.{error_said, left_holds}
use Rattle.aes3_cli.proofs.found_options.options_of_words.Goals as goal

pub returns-in-Ok-clause-options : goal.returns-in-Ok-clause-options
returns-in-Ok-clause-options c app is free =
    let words = map (λ word. word.now) c.args.words.now in
    let matches = subst (λ (a : App). HasMatchesOf a words c.in-Ok.options) is.0 c.in-Ok.ensures.matches in
    record {
      taken = subst (λ (a : App). fault_of a words ≡ []) is.0
          (c.in-Ok.ensures.kinds (ap is_simple_and_free is.0 ∙ free));
      options = (matches (left_holds _ _ free)).0;
    }

pub returns-in-Err-clause-fault : goal.returns-in-Err-clause-fault
returns-in-Err-clause-fault c app is free =
    let words = map (λ word. word.now) c.args.words.now in
    error_said (fault_of app words) c.args.usage.now (λ text. ⊥) c.in-Err.error c.of_error.result
    (subst (λ (a : App). HasKind (fault_of a words) c.in-Err.error) is.0
    (c.in-Err.ensures.kinds (ap is_simple_and_free is.0 ∙ free))) c.of_error.ensures
