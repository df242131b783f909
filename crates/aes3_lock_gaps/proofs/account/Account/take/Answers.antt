use Rattle.std.proofs.Common.{arith}
use Rattle.aes3_lock.proofs.Deciding.{block_len_24576}
use Rattle.aes3_lock_gaps.proofs.account.Account.take.Goals as goal

pub returns-in-Whole-clause-place : goal.returns-in-Whole-clause-place
returns-in-Whole-clause-place c = rw (c.in-Whole.is, block_len_24576) (λ block near. omega arith)
