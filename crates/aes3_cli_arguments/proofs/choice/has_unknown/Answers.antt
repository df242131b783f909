use Rattle.std.proofs.Common.{◌∙◌, false, not, is_some, sym, ap}
use Rattle.std.specs.Option.{option_map_or}
use Rattle.aes3_cli_arguments.proofs.Misuses.{none_is}
use Rattle.aes3_cli_arguments.proofs.OptionReads.{text_is}
use Rattle.aes3_cli_arguments.proofs.choice.has_unknown.Goals as goal

pub returns-in-None : goal.returns-in-None
returns-in-None g c =
    let none = text_is c.args.options.now c.args.name.now c.get_str.result _ c.get_str.ensures c.in-None.is in
    (search) ∙ sym (ap (λ o. option_map_or (λ word. not (is_some (g.C.Choice.chosen_by word))) o false) none)

pub returns-in-Some : goal.returns-in-Some
returns-in-Some g c =
    let given = text_is c.args.options.now c.args.name.now c.get_str.result _ c.get_str.ensures c.in-Some.is in
    none_is _ _ c.is_none.ensures ∙ ap (λ o. not (is_some o)) (search)
    ∙ sym (ap (λ o. option_map_or (λ word. not (is_some (g.C.Choice.chosen_by word))) o false) given)
