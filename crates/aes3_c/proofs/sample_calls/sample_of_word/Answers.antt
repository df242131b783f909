use Rattle.std.proofs.Common.{◌∙◌, ap}
use Rattle.aes3_frame.specs.Samples.{sample_of}
use Rattle.aes3_frame.proofs.Samples.{sample-payload}
use Rattle.aes3_c.proofs.sample_calls.sample_of_word.Goals as goal

pub returns : goal.returns
returns c = sample-payload c.payload_of_word.result ∙ ap sample_of c.payload_of_word.ensures.bits
