use Rattle.aes3_lock.specs.Reports.{blocks}
use Rattle.aes3_input.proofs.InputRuns.{run-wrote}
use Rattle.aes3_input.proofs.CellRuns.{cells-run}
use Rattle.aes3_lock_runs.specs.BlockRuns.{decided_blocks}
use Rattle.aes3_lock_runs.proofs.BlockRuns.{alike-whole, alike-begun, run-back}
use Rattle.aes3_engine.specs.Carrying.{all_carried, carried}
use Rattle.aes3_engine.proofs.carrying.to_bits.Goals as goal

pub returns-clause-run : goal.returns-clause-run
returns-clause-run g c =
    let f = carried c.args.bits c.args.channel in
    cells-run c.args.input (λ d. all_carried c.args.bits c.args.channel (blocks d))
    (λ d. all_carried c.args.bits c.args.channel (decided_blocks d)) (alike-whole f) (alike-begun f)
    c.run_blocks.ensures

pub returns-clause-bits : goal.returns-clause-bits
returns-clause-bits g c = run-wrote c.run_blocks.result (returns-clause-run g c)

pub returns-clause-back : goal.returns-clause-back
returns-clause-back g c =
    run-back c.args.input (carried c.args.bits c.args.channel) c.run_blocks.result c.run_blocks.ensures
