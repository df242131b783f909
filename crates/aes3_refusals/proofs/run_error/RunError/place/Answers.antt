use Rattle.std.proofs.Common.{rules}
use Rattle.aes3_refusals.proofs.run_error.RunError.place.Goals as goal

pub returns-in-BadLength : goal.returns-in-BadLength
returns-in-BadLength c = search rules
