use Rattle.aes3_cli_arguments.specs.Jobs.{options_of}
use Rattle.aes3_cli_arguments.proofs.TakenOptions.{options_taken}
use Rattle.aes3_cli_arguments.proofs.command_line.line_of_command.Goals as goal

pub misuse_of_options-requires : goal.misuse_of_options-requires
misuse_of_options-requires c = options_taken c.requires.0 c.args.name.now (options_of c.args.options.now) c.requires.1

pub octets_of_options-requires-clause-taken : goal.octets_of_options-requires-clause-taken
octets_of_options-requires-clause-taken c =
    options_taken c.requires.0 c.args.name.now (options_of c.args.options.now) c.requires.1
