use Rattle.std.proofs.Common.{◌∙◌, sym, ap}
use Rattle.std.specs.Prelude.{option_and_then}
use Rattle.aes3_cli_arguments.proofs.OptionReads.{text_is}
use Rattle.aes3_cli_arguments.proofs.choice.chosen.Goals as goal

pub returns-in-None : goal.returns-in-None
returns-in-None g c =
    let none = text_is c.args.options.now c.args.name.now c.get_str.result _ c.get_str.ensures c.in-None.is in
    (search) ∙ sym (ap (option_and_then g.C.Choice.chosen_by) none)

pub returns-in-Some : goal.returns-in-Some
returns-in-Some g c =
    let given = text_is c.args.options.now c.args.name.now c.get_str.result _ c.get_str.ensures c.in-Some.is in
    (search) ∙ sym (ap (option_and_then g.C.Choice.chosen_by) given)
