use Rattle.aes3_lock.proofs.TrueMarks.{marks-true}
use Rattle.aes3_lock.proofs.laws.marks_are_true.Goals as goal

pub returns : goal.returns
returns c = marks-true
