use Rattle.aes3_frame.proofs.CellLaws.{stream-append, stream-unique}
use Rattle.aes3_block.proofs.laws.streams_of_blocks.Goals as goal

pub returns-clause-joined : goal.returns-clause-joined
returns-clause-joined c = stream-append

pub returns-clause-told : goal.returns-clause-told
returns-clause-told c = stream-unique
