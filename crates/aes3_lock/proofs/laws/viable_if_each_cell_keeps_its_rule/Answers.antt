use Rattle.aes3_lock.proofs.Viability.{viable-keeps, keeps-viable, viable-front, front-viable}
use Rattle.aes3_lock.proofs.laws.viable_if_each_cell_keeps_its_rule.Goals as goal

pub returns : goal.returns
returns c = record {
  each = λ s c l. (viable-keeps s c, keeps-viable s c l);
  front = λ s c. (viable-front s c, front-viable s c);
}
