use Rattle.std.proofs.Common.{take}
use Rattle.aes3_cli.specs.CommandLine.{IsDefinedAs}
use Rattle.aes3_cli.proofs.Steps.{with_commands}
use Rattle.aes3_cli.proofs.definitions.command_line.Given as goal

abbrev pub invariant-loop-name : goal.invariant-loop-name
invariant-loop-name l = IsDefinedAs (with_commands (take l.name-index l.name-items)) l.line
