use Rattle.std.proofs.Common.{rules}
use Rattle.aes3_refusals.proofs.run_error.RunError.number.Goals as goal

pub returns-in-BadSample : goal.returns-in-BadSample
returns-in-BadSample c = search rules
