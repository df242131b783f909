use Rattle.std.proofs.Common.{◌≡◌, ◌∙◌, ap, map, rules}
use Rattle.std.specs.List.{flat_map}
use Rattle.aes3_frame.specs.Files.{word_bytes, words_of}
use Rattle.aes3_frame.specs.Sampled.{payload_of_sample}
use Rattle.aes3_c.proofs.SampleWords.{words-back}
use Rattle.aes3_c.proofs.sample_calls.aes3_block_of_samples.Goals as goal

pub returns-clause-payloads : goal.returns-clause-payloads
returns-clause-payloads c =
    let octets : c.octets_of_samples.result ≡ flat_map word_bytes c.args.samples.now
    = search (rules, c.octets_of_samples.ensures) in
    c.words.ensures.payloads ∙ c.of_samples.ensures
    ∙ ap (λ b. map payload_of_sample (words_of b)) octets
    ∙ ap (map payload_of_sample) (words-back c.args.samples.now c.fits-samples)
