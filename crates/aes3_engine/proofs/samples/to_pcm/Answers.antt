use Rattle.aes3_frame.specs.Samples.{block_samples, samples}
use Rattle.aes3_forms_samples.specs.Formats.{narrowed}
use Rattle.aes3_lock.specs.Reports.{blocks}
use Rattle.aes3_input.proofs.InputRuns.{run-wrote}
use Rattle.aes3_input.proofs.CellRuns.{cells-run}
use Rattle.aes3_lock_runs.specs.BlockRuns.{decided_blocks}
use Rattle.aes3_engine.proofs.PcmRuns.{block-whole, narrowed-alike, narrowed-back, narrowed-begun, narrowed-normal}
use Rattle.aes3_engine.proofs.PcmRuns.{narrowed-whole}
use Rattle.aes3_engine.proofs.samples.to_pcm.Goals as goal

pub returns-clause-run : goal.returns-clause-run
returns-clause-run g c =
    let f = c.args.format in
    cells-run c.args.input (λ d. narrowed f (samples (blocks d))) (λ d. narrowed f (samples (decided_blocks d)))
    (narrowed-whole f block_samples block-whole) (narrowed-begun f block_samples block-whole) c.run_blocks.ensures

pub returns-clause-samples : goal.returns-clause-samples
returns-clause-samples g c = run-wrote c.run_blocks.result (returns-clause-run g c)

pub returns-clause-back : goal.returns-clause-back
returns-clause-back g c =
    narrowed-back c.args.format block_samples block-whole c.args.input c.run_blocks.result c.run_blocks.ensures

pub returns-clause-alone : goal.returns-clause-alone
returns-clause-alone g c =
    narrowed-alike c.args.format block_samples block-whole c.args.input c.run_blocks.result c.run_blocks.ensures

pub returns-clause-normal : goal.returns-clause-normal
returns-clause-normal g c =
    narrowed-normal c.args.format block_samples block-whole c.args.input c.run_blocks.result c.run_blocks.ensures
