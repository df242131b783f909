use Rattle.std.proofs.Common.{◌/◌, subst}
use Rattle.aes3_forms_words.specs.declared.alsa_am824.Words.{Words}
use Rattle.aes3_c.specs.declared.block_form.BlockForm.TheVariants.{Subframes}
use Rattle.aes3_c.specs.Blocks.{AreBlocks}
use Rattle.aes3_c.proofs.subframes.aes3_subframes_of_blocks.Goals as goal

pub returns-clause-each : goal.returns-clause-each
returns-clause-each c =
    subst (λ (w : Words). AreBlocks (Subframes w) c.args.words.now (c.put_blocks.result / 384) c.put_blocks.new.octets)
    c.words_form.ensures c.put_blocks.ensures.each
