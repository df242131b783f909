use Rattle.std.proofs.Common.{◌∙◌, ℕ, List, Option, codes, false, not, is_some, sym, ap}
use Rattle.std.specs.Option.{option_map_or}
use Rattle.aes3_cli_arguments.specs.Jobs.{preset_in}
use Rattle.aes3_cli_arguments.proofs.Misuses.{none_is}
use Rattle.aes3_cli_arguments.proofs.OptionReads.{text_is}
use Rattle.aes3_cli_arguments.proofs.preset.has_unknown_preset.Goals as goal

pub returns-in_default : goal.returns-in_default
returns-in_default c =
    let none = text_is c.args.options.now (codes "preset") c.get_str.result _ c.get_str.ensures c.in_default.is in
    sym (ap (λ o. option_map_or (λ text. not (is_some (preset_in text))) o false) none)

pub returns : goal.returns
returns c =
    let given = text_is c.args.options.now (codes "preset") c.get_str.result _ c.get_str.ensures c.in-Some.is in
    none_is _ _ c.is_none.ensures
    ∙ (ap (λ (o : Option (List ℕ)). not (is_some o)) c.preset_of_text.ensures
    ∙ sym (ap (λ o. option_map_or (λ text. not (is_some (preset_in text))) o false) given))
