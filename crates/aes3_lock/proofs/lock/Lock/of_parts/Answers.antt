use Rattle.aes3_lock.proofs.lock.Lock.of_parts.Goals as goal

pub invariant_of-lock : goal.invariant_of-lock
invariant_of-lock c = (c.requires, c.keep_all.ensures.len)
