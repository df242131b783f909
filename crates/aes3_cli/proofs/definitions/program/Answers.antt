use Rattle.std.proofs.Common.{◌∙◌, ap, true}
use Rattle.std.proofs.lemmas.Result.{IfOk-weaker}
use Rattle.clap.specs.Simple.{app_of_fields, on_top}
use Rattle.clap.specs.declared.builder.command.Command.{Command}
use Rattle.clap.specs.declared.builder.command.Command.TheOpen.{Command-F}
use Rattle.aes3_cli.proofs.definitions.program.Goals as goal

pub returns : goal.returns
returns c =
    let globals = λ (f : Command-F Command). f.has_globals in
    IfOk-weaker c.bin_name.result _ _ (λ named is. (
      ap app_of_fields is.0
          ∙ (ap app_of_fields c.subcommand_required.ensures
          ∙ ap (on_top (λ s. record s { subcommand_required = true }))
          (ap app_of_fields c.disable_help_subcommand.ensures
          ∙ ap (on_top (λ s. record s { disable_help_subcommand = true })) c.bare_program.ensures.0)),
      ap globals is.0 ∙ (ap globals c.subcommand_required.ensures ∙ (ap globals c.disable_help_subcommand.ensures
          ∙ c.bare_program.ensures.1)),
    )) c.bin_name.ensures
