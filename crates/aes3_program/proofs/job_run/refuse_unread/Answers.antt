use Rattle.std.proofs.Common.{rules}
use Rattle.aes3_program.proofs.Flushes.{read-refused}
use Rattle.aes3_program.proofs.job_run.refuse_unread.Goals as goal

pub returns-clause-refused : goal.returns-clause-refused
returns-clause-refused g c =
    read-refused {told = c.flush_after.result} (search (rules, c.flush_after.ensures.told)) c.refuse.ensures.aside.refusal
