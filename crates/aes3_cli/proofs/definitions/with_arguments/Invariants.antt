use Rattle.std.proofs.Common.{map, take}
use Rattle.clap.specs.Simple.{App}
use Rattle.aes3_cli.specs.CommandLine.{IsDefinedAs, with_rules}
use Rattle.aes3_cli.proofs.definitions.with_arguments.Given as goal

-- the command so far has the first arguments
abbrev pub invariant-loop-argument : goal.invariant-loop-argument
invariant-loop-argument g l = (app : App) → IsDefinedAs app l.fn.bare
    → IsDefinedAs (with_rules app (map g.D.Define.rule (take l.argument-index l.arguments))) l.command
