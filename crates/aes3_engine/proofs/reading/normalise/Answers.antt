use Rattle.aes3_cell.specs.Written.{written}
use Rattle.aes3_lock.specs.Reports.{normal}
use Rattle.aes3_input.proofs.InputRuns.{run-wrote, run-input, run-answer, run-fits, run-owed, run-cause, run-sink_quiet}
use Rattle.aes3_input.proofs.InputRuns.{run-refused, run-front, run-few, run-passed}
use Rattle.aes3_input.proofs.CellRuns.{cells-run, no-cell-cause}
use Rattle.aes3_lock_runs.specs.BlockRuns.{begun_stream, decided_blocks}
use Rattle.aes3_lock_runs.proofs.BlockRuns.{normal-whole, normal-begun, run-piece, run-damaged, run-left, run-lost, tells}
use Rattle.aes3_lock_runs.proofs.BlockRuns.{run-again}
use Rattle.aes3_engine.proofs.reading.normalise.Goals as goal

pub returns-clause-run : goal.returns-clause-run
returns-clause-run g c =
    cells-run c.args.input (λ d. written c.args.output (normal d)) (λ d. begun_stream c.args.output (decided_blocks d))
    (normal-whole c.args.output) (normal-begun c.args.output) c.run_blocks.ensures

pub returns-clause-normal : goal.returns-clause-normal
returns-clause-normal g c = run-wrote c.run_blocks.result (returns-clause-run g c)

pub returns-clause-piece : goal.returns-clause-piece
returns-clause-piece g c = run-piece c.args.input c.args.output c.run_blocks.result c.run_blocks.ensures

pub returns-clause-damaged : goal.returns-clause-damaged
returns-clause-damaged g c = run-damaged c.args.input c.args.output c.run_blocks.result c.run_blocks.ensures

pub returns-clause-all_left : goal.returns-clause-all_left
returns-clause-all_left g c = run-left c.args.input c.args.output c.run_blocks.result c.run_blocks.ensures

pub returns-clause-lost : goal.returns-clause-lost
returns-clause-lost g c = run-lost c.args.input c.args.output c.run_blocks.result c.run_blocks.ensures

pub returns-clause-tells : goal.returns-clause-tells
returns-clause-tells g c = tells c.args.output

pub returns-clause-again : goal.returns-clause-again
returns-clause-again g c = run-again c.args.input c.args.output c.run_blocks.result c.run_blocks.ensures

pub returns-clause-input : goal.returns-clause-input
returns-clause-input g c = run-input c.run_blocks.result (returns-clause-run g c)

pub returns-clause-counts : goal.returns-clause-counts
returns-clause-counts g c = run-answer c.run_blocks.result (returns-clause-run g c)

pub returns-clause-fits : goal.returns-clause-fits
returns-clause-fits g c = run-fits c.run_blocks.result (returns-clause-run g c)

pub returns-clause-passed_on : goal.returns-clause-passed_on
returns-clause-passed_on g c = run-passed c.run_blocks.result (returns-clause-run g c)

pub returns-clause-owed : goal.returns-clause-owed
returns-clause-owed g c =
    λ b t i l q k. run-owed (returns-clause-run g c) b t
    (no-cell-cause c.args.input c.args.max_bytes b (g.S.Source.has_ended c.run_blocks.new.source) i l) q k

pub returns-clause-cause : goal.returns-clause-cause
returns-clause-cause g c = run-cause c.run_blocks.result (λ b l. l) (returns-clause-run g c)

pub returns-clause-sink_quiet : goal.returns-clause-sink_quiet
returns-clause-sink_quiet g c = run-sink_quiet c.run_blocks.result (returns-clause-run g c)

pub returns-clause-refused : goal.returns-clause-refused
returns-clause-refused g c = run-refused c.run_blocks.result (returns-clause-run g c)

pub returns-clause-front : goal.returns-clause-front
returns-clause-front g c = run-front c.run_blocks.result (returns-clause-run g c)

pub returns-clause-few : goal.returns-clause-few
returns-clause-few g c = run-few (returns-clause-run g c)
