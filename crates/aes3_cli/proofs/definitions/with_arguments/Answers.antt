use Rattle.std.proofs.Common.{arith, map, subst}
use Rattle.std.proofs.lemmas.List.{take_all}
use Rattle.aes3_cli.specs.CommandLine.{IsDefinedAs, IsOption, with_rules}
use Rattle.aes3_cli.proofs.Steps.{with_argument}
use Rattle.aes3_cli.proofs.definitions.with_arguments.Goals as goal

pub loop-argument-preserved : goal.loop-argument-preserved
loop-argument-preserved g c = λ app is.
    with_argument g.D.Define.rule app c.args.arguments.now c.loop-argument.argument-index c.argument-item.result _ _ _
    c.loop-argument-test.true c.in_ok-command.ensures (c.loop-argument.invariant app is)
    (subst (λ x. IsOption (g.D.Define.rule x) c.define.result) c.argument-item.is c.define.ensures)

pub returns : goal.returns
returns g c = λ app is.
    subst (λ arguments. IsDefinedAs (with_rules app (map g.D.Define.rule arguments)) c.loop-argument.command)
    (take_all c.loop-argument.argument-index c.args.arguments.now (omega arith)) (c.loop-argument.invariant app is)
