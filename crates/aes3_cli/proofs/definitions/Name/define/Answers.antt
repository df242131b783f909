use Rattle.std.proofs.Common.{ap₂, ◌∙◌, subst}
use Rattle.std.specs.Prelude.{IfOk}
use Rattle.clap.specs.Simple.{Shape}
use Rattle.aes3_cli.specs.CommandLine.{IsDefinedAs, app_with, command}
use Rattle.aes3_cli.proofs.Steps.{shape-is}
use Rattle.aes3_cli.proofs.definitions.Name.define.Goals as goal

pub returns : goal.returns
returns c =
    subst (λ (s : Shape). IfOk c.command.result (IsDefinedAs (app_with s)))
    (ap₂ command c.word.ensures c.arguments.ensures ∙ shape-is c.args.self) c.command.ensures
