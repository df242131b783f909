use Rattle.std.proofs.Common.{ap}
use Rattle.std.specs.List.{flat_map}
use Rattle.aes3_frame.specs.Files.{word_bytes}
use Rattle.aes3_frame.specs.Samples.{block_samples}
use Rattle.aes3_c.proofs.sample_calls.aes3_block_samples.Goals as goal

pub returns-in-Ok-clause-octets : goal.returns-in-Ok-clause-octets
unfolding block_samples
returns-in-Ok-clause-octets c = λ _. ap (flat_map word_bytes) (cc c.in-Ok.ensures.block)
