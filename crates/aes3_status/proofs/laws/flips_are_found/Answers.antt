use Rattle.aes3_status.proofs.Flips.{one-flip, two-flips}
use Rattle.aes3_status.proofs.laws.flips_are_found.Goals as goal

pub returns : goal.returns
returns c = record { one = one-flip; two = two-flips }
