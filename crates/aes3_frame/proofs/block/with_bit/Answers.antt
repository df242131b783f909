use Rattle.std.proofs.Common.{◌+◌, ◌*◌, ◌^◌, ◌%◌, ap, bit_and, bit_or, bit_xor, ◌∙◌, rules}
use Rattle.aes3_frame.specs.Files.{is_lawful, payload_of}
use Rattle.aes3_frame.proofs.WordBits.{turned-word, turned-lawful, turned-payload}
use Rattle.aes3_frame.proofs.block.with_bit.Goals as goal

pub returns-clause-lawful : goal.returns-clause-lawful
returns-clause-lawful c =
    let at = 2 ^ (4 + c.args.place) in
    let turned = bit_and (bit_xor c.args.word (c.from.result * at % 2 ^ 32)) (1 * at % 2 ^ 32) in
    ap (λ parity. is_lawful (bit_xor c.args.word (bit_or turned parity))) (search rules)
    ∙ turned-lawful c.args.word _ c.args.place c.args.value c.requires.place
    (turned-word c.args.word c.from.result c.args.place c.args.value c.requires.place c.from.ensures) c.requires.lawful

pub returns-clause-payload : goal.returns-clause-payload
returns-clause-payload c =
    let at = 2 ^ (4 + c.args.place) in
    let turned = bit_and (bit_xor c.args.word (c.from.result * at % 2 ^ 32)) (1 * at % 2 ^ 32) in
    ap (λ parity. payload_of (bit_xor c.args.word (bit_or turned parity))) (search rules)
    ∙ turned-payload c.args.word _ c.args.place c.args.value c.requires.place
    (turned-word c.args.word c.from.result c.args.place c.args.value c.requires.place c.from.ensures)
