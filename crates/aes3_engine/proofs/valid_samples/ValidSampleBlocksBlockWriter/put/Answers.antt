use Rattle.std.proofs.Common.{map, ap, ◌∙◌}
use Rattle.aes3_cell.proofs.Writing.{wrote-is}
use Rattle.aes3_frame.specs.Samples.{block_samples}
use Rattle.aes3_forms_samples.specs.Formats.{narrowed}
use Rattle.aes3_engine.specs.ValidSamples.{silenced}
use Rattle.aes3_engine.proofs.ValidSamples.{silent-samples}
use Rattle.aes3_engine.proofs.valid_samples.ValidSampleBlocksBlockWriter.put.Goals as goal

pub returns : goal.returns
returns g c =
    wrote-is (ap (narrowed c.args.self.now.format) (c.samples_of_block.ensures
    ∙ ap block_samples (c.silence.ensures ∙ ap (map silenced) c.block-block.ensures) ∙ silent-samples _))
    c.put_narrowed.ensures
