use Rattle.std.proofs.lemmas.Result.{err_from_is_err_and}
use Rattle.aes3_frame.specs.Samples.{block_samples}
use Rattle.aes3_forms_samples.specs.Formats.{narrowed}
use Rattle.aes3_lock.specs.Reports.{blocks}
use Rattle.aes3_lock_runs.specs.BlockRuns.{decided_blocks}
use Rattle.aes3_wave_runs.specs.ToWav.{begun_wave, wave_of}
use Rattle.aes3_wave_runs.proofs.WrittenRuns.{all-err, all-ok, file-clause, quiet-blocks}
use Rattle.aes3_wave_runs.proofs.wave_writing.to_wav.Goals as goal

pub run_headed-requires-clause-quiet : goal.run_headed-requires-clause-quiet
run_headed-requires-clause-quiet g c = quiet-blocks (λ b. narrowed c.format_of.result (block_samples b))

pub returns-clause-run : goal.returns-clause-run
returns-clause-run g c = all-ok c.args.input c.args.depth c.args.rate (λ k d. Unit {0}) c.format_of.ensures c.in_ok-written.ensures

pub returns-clause-file : goal.returns-clause-file
returns-clause-file g c = file-clause c.args.input (λ d. wave_of c.args.depth c.args.rate (blocks d))
    (λ d. begun_wave c.args.depth c.args.rate (decided_blocks d)) _ (returns-clause-run g c)

pub returns-in_err-written-clause-run : goal.returns-in_err-written-clause-run
returns-in_err-written-clause-run g c =
    let error = err_from_is_err_and c.from_residual.result c.from_residual.ensures.1 in
    rw (error.1, error.2)
    (all-err c.args.input c.args.depth c.args.rate (λ k d. Unit {0}) c.format_of.ensures c.in_err-written.ensures)
