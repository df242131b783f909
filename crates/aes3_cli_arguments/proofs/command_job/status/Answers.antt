use Rattle.std.proofs.Common.{◌∙◌, Some, Option, refl, sym, subst}
use Rattle.std.specs.Option.{option_or}
use Rattle.clap.specs.Walk.{Text}
use Rattle.aes3_cli_arguments.specs.Jobs.{HasStatus, options_of, preset_by}
use Rattle.aes3_cli_arguments.proofs.OptionReads.{text_is}
use Rattle.aes3_cli_arguments.proofs.command_job.status.Goals as goal

pub returns-in_default-clause-status : goal.returns-in_default-clause-status
returns-in_default-clause-status c =
    let none = text_is c.args.options.now c.args.name.now c.get_str.result _ c.get_str.ensures c.in_default.is in
    subst (λ (o : Option Text). HasStatus (option_or (preset_by (options_of c.args.options.now)) c.args.other) o c.preset_or.result)
    (sym none) c.preset_or.ensures

pub returns-in-Some-status_of_text-clause-status : goal.returns-in-Some-status_of_text-clause-status
returns-in-Some-status_of_text-clause-status c =
    let given = text_is c.args.options.now c.args.name.now c.get_str.result _ c.get_str.ensures c.in-Some.is in
    subst
    (λ (o : Option Text). HasStatus (option_or (preset_by (options_of c.args.options.now)) c.args.other) o
    (Some c.in-Some-status_of_text.status))
    (sym given)
    (refl, sym c.status_of_text.ensures.status ∙ c.in-Some-status_of_text.is)

pub returns-in-None-clause-fault : goal.returns-in-None-clause-fault
returns-in-None-clause-fault c =
    let given = text_is c.args.options.now c.args.name.now c.get_str.result _ c.get_str.ensures c.in-Some.is in
    (refl, (c.in-Some.text.now, given, sym c.status_of_text.ensures.status ∙ c.in-None.is))
