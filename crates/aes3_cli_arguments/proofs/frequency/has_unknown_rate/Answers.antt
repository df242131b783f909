use Rattle.std.proofs.Common.{◌≡◌, ◌∙◌, Option, Some, None, codes, false, not, is_some, refl, sym, ap}
use Rattle.std.specs.Option.{option_map, option_map_or}
use Rattle.clap.specs.Walk.{Text}
use Rattle.aes3_cli_arguments.specs.Jobs.{rate_in}
use Rattle.aes3_cli_arguments.proofs.Misuses.{none_is}
use Rattle.aes3_cli_arguments.proofs.OptionReads.{text_is}
use Rattle.aes3_cli_arguments.proofs.frequency.has_unknown_rate.Goals as goal

pub returns-in_default : goal.returns-in_default
returns-in_default c =
    let none = text_is c.args.options.now (codes "hz") c.get_str.result _ c.get_str.ensures c.in_default.is in
    sym (ap (λ o. option_map_or (λ text. not (is_some (rate_in text))) o false) none)

is_there : {A B : Type 0} (f : A → B) (o : Option A) → is_some o ≡ is_some (option_map f o)
is_there f None = refl
is_there f (Some x) = refl

pub returns : goal.returns
returns c =
    let given = text_is c.args.options.now (codes "hz") c.get_str.result _ c.get_str.ensures c.in-Some.is in
    none_is _ _ c.is_none.ensures
    ∙ (ap not (is_there _ c.rate_of_text.result)
    ∙ ap (λ (o : Option Text). not (is_some o)) c.rate_of_text.ensures
    ∙ sym (ap (λ o. option_map_or (λ text. not (is_some (rate_in text))) o false) given))
