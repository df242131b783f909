use Rattle.aes3_block.proofs.Feeding.{blocks-fed, accepted, accepted-only}
use Rattle.aes3_block.proofs.laws.blocks_read.Goals as goal

pub returns-clause-blocks : goal.returns-clause-blocks
returns-clause-blocks c = blocks-fed

pub returns-clause-accepted : goal.returns-clause-accepted
returns-clause-accepted c = λ bytes. (accepted bytes, accepted-only bytes)
