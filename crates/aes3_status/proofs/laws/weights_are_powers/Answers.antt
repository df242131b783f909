use Rattle.aes3_status.proofs.Weights.{weights-step, weight-last}
use Rattle.aes3_status.proofs.laws.weights_are_powers.Goals as goal

pub returns : goal.returns
returns c = (weight-last, weights-step)
