use Rattle.std.proofs.Common.{◌+◌, ◌*◌, ◌∙◌, ap, set}
use Rattle.aes3_frame.specs.Subframes.{bits_of}
use Rattle.aes3_frame.proofs.BlockLemmas.{payloads-set}
use Rattle.aes3_frame.proofs.block.Block.set_frame.Goals as goal

pub returns : goal.returns
returns c =
    payloads-set c.self.inside.words (2 * c.args.i)
    (2 * c.args.i + 1) c.word_of_payload.result c.word_of_payload-2.result
    (bits_of c.args.frame.first) (bits_of c.args.frame.second)
    (c.word_of_payload.ensures.payload ∙ c.payload.ensures.bits) (c.word_of_payload-2.ensures.payload
    ∙ c.payload-2.ensures.bits)
    ∙ ap (λ x. set (set x (2 * c.args.i) (bits_of c.args.frame.first)) (2 * c.args.i + 1)
    (bits_of c.args.frame.second)) c.self.view_is
