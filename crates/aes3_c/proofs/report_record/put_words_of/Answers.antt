use Rattle.std.proofs.Common.{arith, ◌∙◌, ap, map, sym}
use Rattle.aes3_frame.specs.Files.{word_of}
use Rattle.aes3_frame.proofs.BlockLemmas.{block_subframes_384}
use Rattle.aes3_frame.proofs.Files.{words-of-payloads}
use Rattle.aes3_c.proofs.report_record.put_words_of.Goals as goal

pub returns-clause-words : goal.returns-clause-words
returns-clause-words c =
    let n = block_subframes_384 in
    let k = c.words.ensures.count in
    c.put_words.ensures.copied
    ∙ sym (words-of-payloads c.words.result.now (λ i h. c.put_words.ensures.fits i (omega arith))
    (λ i h. c.words.ensures.lawful i (omega arith)))
    ∙ ap (map word_of) c.words.ensures.payloads
