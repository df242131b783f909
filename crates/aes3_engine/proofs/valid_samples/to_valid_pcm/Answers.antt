use Rattle.aes3_forms_samples.specs.Formats.{narrowed}
use Rattle.aes3_lock.specs.Reports.{blocks}
use Rattle.aes3_input.proofs.InputRuns.{run-wrote}
use Rattle.aes3_input.proofs.CellRuns.{cells-run}
use Rattle.aes3_lock_runs.specs.BlockRuns.{decided_blocks}
use Rattle.aes3_engine.specs.ValidSamples.{valid_block_samples, valid_samples}
use Rattle.aes3_engine.proofs.PcmRuns.{narrowed-back, narrowed-begun, narrowed-whole, valid-whole}
use Rattle.aes3_engine.proofs.ValidSamples.{run-all-valid}
use Rattle.aes3_engine.proofs.valid_samples.to_valid_pcm.Goals as goal

pub returns-clause-run : goal.returns-clause-run
returns-clause-run g c =
    let f = c.args.format in
    cells-run c.args.input (λ d. narrowed f (valid_samples (blocks d)))
    (λ d. narrowed f (valid_samples (decided_blocks d)))
    (narrowed-whole f valid_block_samples valid-whole) (narrowed-begun f valid_block_samples valid-whole)
    c.run_blocks.ensures

pub returns-clause-samples : goal.returns-clause-samples
returns-clause-samples g c = run-wrote c.run_blocks.result (returns-clause-run g c)

pub returns-clause-all : goal.returns-clause-all
returns-clause-all g c = run-all-valid c.args.format c.args.input c.run_blocks.result c.run_blocks.ensures

pub returns-clause-back : goal.returns-clause-back
returns-clause-back g c =
    narrowed-back c.args.format valid_block_samples valid-whole c.args.input c.run_blocks.result
    c.run_blocks.ensures
