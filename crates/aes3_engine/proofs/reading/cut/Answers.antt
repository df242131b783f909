use Rattle.aes3_lock.specs.Reports.{blocks}
use Rattle.aes3_input.proofs.InputRuns.{run-wrote}
use Rattle.aes3_input.proofs.CellRuns.{cells-run}
use Rattle.aes3_lock_runs.specs.BlockRuns.{begun_stream, cut_blocks, decided_blocks, written_stream}
use Rattle.aes3_lock_runs.proofs.BlockRuns.{cut-whole, cut-begun}
use Rattle.aes3_engine.proofs.reading.cut.Goals as goal

pub returns-clause-run : goal.returns-clause-run
returns-clause-run g c =
    cells-run c.args.input (λ d. written_stream c.args.output (cut_blocks c.args.from c.args.count (blocks d)))
    (λ d. begun_stream c.args.output (cut_blocks c.args.from c.args.count (decided_blocks d)))
    (cut-whole c.args.output c.args.from c.args.count)
    (cut-begun c.args.output c.args.from c.args.count) c.run_blocks.ensures

pub returns-clause-cut : goal.returns-clause-cut
returns-clause-cut g c = run-wrote c.run_blocks.result (returns-clause-run g c)
