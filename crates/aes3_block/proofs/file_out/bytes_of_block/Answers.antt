use Rattle.std.proofs.Common.{arith, ◌∙◌}
use Rattle.aes3_frame.proofs.BlockLemmas.{block_subframes_384}
use Rattle.aes3_frame.proofs.Files.{bytes-of-payloads}
use Rattle.aes3_block.proofs.file_out.bytes_of_block.Goals as goal

pub returns : goal.returns
returns c =
    let n = block_subframes_384 in
    let k = c.words.ensures.count in
    c.bytes_of_words.ensures.bytes
    ∙ bytes-of-payloads c.words.result.now c.args.block.now c.words.ensures.payloads
    (λ i h. c.bytes_of_words.ensures.fits i (omega arith))
    (λ i h. c.words.ensures.lawful i (omega arith))
