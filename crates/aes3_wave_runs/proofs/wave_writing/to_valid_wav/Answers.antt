use Rattle.std.proofs.Common.{false, rules}
use Rattle.std.proofs.lemmas.Result.{err_from_is_err_and}
use Rattle.aes3_engine.specs.ValidSamples.{valid_block_samples}
use Rattle.aes3_forms_samples.specs.Formats.{narrowed}
use Rattle.aes3_wave_runs.specs.ToWav.{begun_by, file_by, valid_pcm}
use Rattle.aes3_wave_runs.proofs.WrittenRuns.{valid-err, valid-ok, file-clause, quiet-blocks}
use Rattle.aes3_wave_runs.proofs.wave_writing.to_valid_wav.Goals as goal

pub run_headed-requires-clause-quiet : goal.run_headed-requires-clause-quiet
run_headed-requires-clause-quiet g c = quiet-blocks (λ b. narrowed c.format_of.result (valid_block_samples b))

pub returns-clause-run : goal.returns-clause-run
returns-clause-run g c = valid-ok c.args.input c.args.depth c.args.rate (λ k d. Unit {0}) c.format_of.ensures
    (search rules) c.in_ok-valid.ensures

pub returns-clause-file : goal.returns-clause-file
returns-clause-file g c = file-clause c.args.input (file_by c.args.depth c.args.rate false (valid_pcm c.args.depth))
    (begun_by c.args.depth c.args.rate false (valid_pcm c.args.depth)) _ (returns-clause-run g c)

pub returns-in_err-valid-clause-run : goal.returns-in_err-valid-clause-run
returns-in_err-valid-clause-run g c =
    let error = err_from_is_err_and c.from_residual.result c.from_residual.ensures.1 in
    rw (error.1, error.2)
    (valid-err c.args.input c.args.depth c.args.rate (λ k d. Unit {0}) c.format_of.ensures c.in_err-valid.ensures)
