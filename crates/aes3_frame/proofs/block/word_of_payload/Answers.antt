use Rattle.std.proofs.Common.{◌*◌, ◌^◌, ◌%◌, ap, bit_or, ◌∙◌, rules}
use Rattle.aes3_frame.specs.Files.{is_lawful, payload_of}
use Rattle.aes3_frame.proofs.BitLemmas.{word-lawful, word-payload}
use Rattle.aes3_frame.proofs.block.word_of_payload.Goals as goal

pub returns-clause-lawful : goal.returns-clause-lawful
returns-clause-lawful c =
    ap (λ parity. is_lawful (bit_or c.args.payload (parity * 2 ^ 27 % 2 ^ 32) * 16 % 2 ^ 32)) (search rules)
    ∙ word-lawful c.args.payload c.from-parity.result c.payload_parity.result c.requires c.from-parity.ensures
    c.payload_parity.ensures

pub returns-clause-payload : goal.returns-clause-payload
returns-clause-payload c =
    ap (λ parity. payload_of (bit_or c.args.payload (parity * 2 ^ 27 % 2 ^ 32) * 16 % 2 ^ 32)) (search rules)
    ∙ word-payload c.args.payload c.from-parity.result c.payload_parity.result c.requires c.from-parity.ensures
    c.payload_parity.ensures
