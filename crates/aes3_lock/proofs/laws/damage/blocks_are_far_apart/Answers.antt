use Rattle.aes3_lock.proofs.OtherLevel.{other-level}
use Rattle.aes3_lock.proofs.DamageLaws.{far-blocks, far-frames, far-level, blocks-apart, nearest, exchanged-is}
use Rattle.aes3_lock.proofs.laws.damage.blocks_are_far_apart.Goals as goal

pub returns : goal.returns
returns c = record {
  other_place = far-blocks;
  off_frames = far-frames;
  stream_level = far-level;
  other_level = other-level;
  other_block = blocks-apart;
  nearest = nearest;
  exchanged = exchanged-is;
}
