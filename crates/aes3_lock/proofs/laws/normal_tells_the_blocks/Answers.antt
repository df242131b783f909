use Rattle.aes3_lock.proofs.NormalStreams.{normal-fixed, normal-same, normal-tells}
use Rattle.aes3_lock.proofs.laws.normal_tells_the_blocks.Goals as goal

pub returns : goal.returns
returns c = record {
  fixed = normal-fixed;
  blocks = λ c d. (normal-tells c d, normal-same c d);
}
