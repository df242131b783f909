use Rattle.std.proofs.Common.{[]}
use Rattle.aes3_cli.specs.CommandLine.{program_with}
use Rattle.aes3_cli.proofs.definitions.program_line.Goals as goal

pub returns : goal.returns
returns g c = c.with_arguments.ensures (program_with c.args.name.now []) c.bare_program.ensures
