use Rattle.aes3_lock.proofs.Frames.{frame-told, blocks-told, blocks-left}
use Rattle.aes3_lock.proofs.laws.damage.changes_tell_all_blocks.Goals as goal

pub returns : goal.returns
returns c = record {
  frames = λ s bs i j c e p l q f r d. frame-told s bs i j c e p l q f r d;
  blocks = blocks-told;
  given = blocks-left;
}
