use Rattle.aes3_cli.proofs.Steps.{with_name}
use Rattle.aes3_cli.proofs.definitions.command_line.Goals as goal

pub loop-name-preserved : goal.loop-name-preserved
loop-name-preserved c =
    with_name _ _ _ _ _ _ c.loop-name-test.true c.in_ok-line-2.ensures c.loop-name.invariant c.in_ok-define.ensures
