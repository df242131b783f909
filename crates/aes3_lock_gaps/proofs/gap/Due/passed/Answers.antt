use Rattle.aes3_lock.proofs.Deciding.{block_len_24576}
use Rattle.std.proofs.Common.{arith}
use Rattle.aes3_lock_gaps.proofs.gap.Due.passed.Goals as goal

pub returns-clause-to : goal.returns-clause-to
returns-clause-to c = rw block_len_24576 (omega arith)
