use Rattle.aes3_lock.proofs.NormalStreams.{stream-blocks}
use Rattle.aes3_frame.proofs.CellLaws.{stream-unique}
use Rattle.aes3_lock.proofs.laws.stream_gives_its_blocks.Goals as goal

pub returns : goal.returns
returns c = record { blocks = stream-blocks; differ = stream-unique }
