use Rattle.std.proofs.Common.{◌∙◌, [], ap}
use Rattle.clap.specs.Simple.{app_of_fields}
use Rattle.clap.specs.declared.builder.command.Command.{Command}
use Rattle.clap.specs.declared.builder.command.Command.TheOpen.{Command-F}
use Rattle.aes3_cli.specs.CommandLine.{app_with, command}
use Rattle.aes3_cli.proofs.definitions.command.Goals as goal

pub returns : goal.returns
returns c = c.with_arguments.ensures (app_with (command c.args.name.now [])) (
  ap app_of_fields c.after_help-command.ensures ∙ (ap app_of_fields c.override_usage.ensures
      ∙ (ap app_of_fields c.about.ensures ∙ c.new.ensures.app)),
  ap (λ (f : Command-F Command). f.has_globals) c.after_help-command.ensures
      ∙ (ap (λ (f : Command-F Command). f.has_globals) c.override_usage.ensures
      ∙ (ap (λ (f : Command-F Command). f.has_globals) c.about.ensures ∙ c.new.ensures.local)),
)
