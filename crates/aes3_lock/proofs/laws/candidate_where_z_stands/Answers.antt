use Rattle.aes3_slot.specs.declared.mark.Mark.TheVariants.{Z}
use Rattle.aes3_slot.specs.Preambles.{entry}
use Rattle.aes3_slot.proofs.Beginnings.{begins-stands, stands-begins}
use Rattle.aes3_lock.proofs.laws.candidate_where_z_stands.Goals as goal

pub returns : goal.returns
returns c = λ c. (λ e. (entry c, begins-stands Z c e), λ z. stands-begins Z z.0 c z.1)
