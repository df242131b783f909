use Rattle.std.proofs.Common.{◌*◌, ap}
use Rattle.aes3_forms_samples.specs.Formats.{block_len}
use Rattle.aes3_forms_samples.proofs.sample_format.SampleFormat.block_len.Goals as goal

pub returns-clause-len : goal.returns-clause-len
unfolding block_len
returns-clause-len c = ap (λ n. 384 * n) c.sample_len.ensures.len
