use Rattle.std.proofs.Common.{◌∙◌, ap, map}
use Rattle.std.specs.List.{flat_map}
use Rattle.aes3_frame.specs.Files.{word_bytes}
use Rattle.aes3_frame.specs.Samples.{block_samples, sample_of}
use Rattle.aes3_block.proofs.samples_out.samples_of_block.Goals as goal

pub returns : goal.returns
unfolding block_samples
returns c =
    c.bytes_of_samples.ensures ∙ ap (λ b. flat_map word_bytes (map sample_of b)) c.words.ensures.payloads
