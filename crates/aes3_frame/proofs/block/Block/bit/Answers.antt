use Rattle.std.proofs.Common.{false, get_or, length, ap, ◌∙◌, arith}
use Rattle.std.proofs.lemmas.List.{length-map}
use Rattle.aes3_frame.specs.Files.{payload_of}
use Rattle.aes3_frame.specs.Statuses.{place_of}
use Rattle.aes3_frame.proofs.BlockLemmas.{block_subframes_384, payload-at}
use Rattle.aes3_frame.proofs.StatusBits.{channel-bit}
use Rattle.aes3_frame.proofs.block.Block.bit.Goals as goal

pub returns : goal.returns
returns c =
    let words = c.words.result.now in
    channel-bit (place_of c.args.bit) c.args.self.now c.args.channel c.args.i _ c.place_in_payload.result
    c.bit_of_word.result (omega arith)
    (let l = ap length c.words.ensures.payloads in let m = length-map words payload_of in omega arith)
    c.place_in_payload.ensures.place
    (ap (λ p. get_or p c.place_in_payload.result false)
    (payload-at words c.args.self.now _ c.words.ensures.payloads (omega (arith, block_subframes_384))) ∙ c.bit_of_word.ensures)
