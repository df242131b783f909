use Rattle.aes3_watch_laws.proofs.LockedLines.{blocks-follow}
use Rattle.aes3_watch_laws.proofs.blocks_follow_or_are_told.Goals as goal

pub returns : goal.returns
returns c = blocks-follow
