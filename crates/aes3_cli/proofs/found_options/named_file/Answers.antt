use Rattle.std.proofs.Common.{◌∙◌, Option, Some, None, cond, sym, ap}
use Rattle.std.specs.Prelude.{option_and_then}
use Rattle.std.specs.Option.{option_map}
use Rattle.clap.specs.Walk.{Text}
use Rattle.aes3_cli.specs.Options.{named_file}
use Rattle.aes3_cli.proofs.found_options.named_file.Goals as goal

pub returns-in_default : goal.returns-in_default
returns-in_default c = sym (ap (λ o. option_and_then named_file (option_map (λ name. name.now) o)) c.in_default.is)

pub returns-then-eq : goal.returns-then-eq
returns-then-eq c =
    sym (ap (λ o. option_and_then named_file (option_map (λ name. name.now) o)) c.in-Some.is
    ∙ ap (λ b. cond {A = Option Text} b None (Some c.in-Some.name.now)) (sym c.if-eq.ensures))

pub returns-else-eq : goal.returns-else-eq
returns-else-eq c =
    sym (ap (λ o. option_and_then named_file (option_map (λ name. name.now) o)) c.in-Some.is
    ∙ ap (λ b. cond {A = Option Text} b None (Some c.in-Some.name.now)) (sym c.if-eq.ensures))
