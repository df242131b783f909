use Rattle.std.proofs.Common.{refl}
use Rattle.aes3_lock.proofs.Deciding.{block_len_24576}
use Rattle.aes3_watch.proofs.period.Period.count_whole.Goals as goal

pub returns-clause-place : goal.returns-clause-place
returns-clause-place c = rw block_len_24576 refl
