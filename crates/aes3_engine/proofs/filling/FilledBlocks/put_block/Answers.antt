use Rattle.std.proofs.Common.{ap, ◌∙◌}
use Rattle.std.proofs.lemmas.Result.{err_from_is_err_and}
use Rattle.aes3_cell.proofs.Growing.{front-more}
use Rattle.aes3_cell.proofs.Writing.{ok-always, wrote-is, wrote-behind}
use Rattle.aes3_frame.specs.Samples.{block_samples}
use Rattle.aes3_forms_samples.specs.declared.sample_format.SampleFormat.{SampleFormat}
use Rattle.aes3_forms_samples.specs.Formats.{narrowed}
use Rattle.aes3_engine.proofs.filling.FilledBlocks.put_block.Goals as goal

pub returns-clause-progress : goal.returns-clause-progress
returns-clause-progress g c =
    ok-always c.put_narrowed.result (c.note.ensures.progress c.args.block.now c.samples_of_block-samples.ensures)

pub returns-clause-wrote : goal.returns-clause-wrote
returns-clause-wrote g c =
    wrote-behind c.put_narrowed.result c.in_ok-put_filling.ensures.no_failure c.in_ok-put_filling.ensures.grew
    (wrote-is (ap (λ (f : SampleFormat). narrowed f c.samples_of_block-samples.result) c.note.ensures.format
    ∙ ap (narrowed c.args.self.now.format) c.samples_of_block-samples.ensures) c.put_narrowed.ensures)

pub returns-in_err-put_filling-clause-wrote : goal.returns-in_err-put_filling-clause-wrote
returns-in_err-put_filling-clause-wrote g c =
    let p = err_from_is_err_and c.from_residual.result c.from_residual.ensures.1 in
    let f = c.in_err-put_filling.ensures.err in
    rw p.1 (record {
      grew = tt;
      no_failure = tt;
      err = (f.0, front-more f.1 (narrowed c.args.self.now.format (block_samples c.args.block.now)));
    })
