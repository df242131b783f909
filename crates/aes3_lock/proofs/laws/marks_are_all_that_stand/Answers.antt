use Rattle.aes3_lock.proofs.AllMarks.{marks-all_standing}
use Rattle.aes3_lock.proofs.laws.marks_are_all_that_stand.Goals as goal

pub returns : goal.returns
returns c = marks-all_standing
