use Rattle.aes3_block.proofs.StatusLaws.{status-by-frames}
use Rattle.aes3_block.proofs.laws.status_by_frames.Goals as goal

pub returns : goal.returns
returns c = status-by-frames
