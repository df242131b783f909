use Rattle.std.proofs.Common.{◌∙◌, arith}
use Rattle.aes3_frame.proofs.SampleBlocks.{payload-sample}
use Rattle.aes3_frame.proofs.block.word_of_sample.Goals as goal

pub returns-clause-payload : goal.returns-clause-payload
returns-clause-payload c = c.word_of_payload.ensures.payload ∙ payload-sample c.args.sample (omega arith)
