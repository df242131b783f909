use Rattle.aes3_frame.proofs.WordBits.{payload-test}
use Rattle.aes3_frame.proofs.block.bit_of_word.Goals as goal

pub returns : goal.returns
returns c = payload-test c.args.word c.args.place c.requires
