use Rattle.std.proofs.Common.{refl}
use Rattle.aes3_lock.proofs.Deciding.{block_len_24576}
use Rattle.aes3_info.proofs.inspector.Inspector.place_behind.Goals as goal

pub returns-in-Whole : goal.returns-in-Whole
returns-in-Whole c = rw (c.in-Whole.is, block_len_24576) refl
