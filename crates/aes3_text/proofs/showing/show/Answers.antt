use Rattle.aes3_lock.specs.Reports.{blocks}
use Rattle.aes3_input.proofs.InputRuns.{run-wrote}
use Rattle.aes3_input.proofs.CellRuns.{cells-run}
use Rattle.aes3_lock.specs.Reports.{decided}
use Rattle.aes3_lock_runs.specs.BlockRuns.{decided_blocks}
use Rattle.aes3_text.specs.Runs.{status_lines}
use Rattle.aes3_text.proofs.StatusChanges.{plain-lines, plain-whole}
use Rattle.aes3_text.proofs.showing.show.Goals as goal

pub returns-clause-run : goal.returns-clause-run
returns-clause-run g c = cells-run c.args.input (λ d. status_lines (blocks d)) (λ d. status_lines (decided_blocks d))
    plain-whole (λ d. plain-lines (decided d)) c.show_lines.ensures

pub returns-clause-lines : goal.returns-clause-lines
returns-clause-lines g c = run-wrote c.show_lines.result (returns-clause-run g c)
