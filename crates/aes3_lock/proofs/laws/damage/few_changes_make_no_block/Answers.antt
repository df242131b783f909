use Rattle.aes3_lock.proofs.Changes.{blocks-few-changed}
use Rattle.aes3_lock.proofs.DamageLaws.{few-blocks, few-frames}
use Rattle.aes3_lock.proofs.laws.damage.few_changes_make_no_block.Goals as goal

pub returns : goal.returns
returns c = record {
  blocks = λ s bs i j c e p l a q d t z. few-blocks s bs i j c e p l q d t z a;
  frames = λ s bs i j c e p l a q d t z. few-frames s bs i j c e p l q d t z a;
  left = blocks-few-changed;
}
