use Rattle.aes3_lock.proofs.Overlap.{viable-once, viable-level, viable-stands}
use Rattle.aes3_lock.proofs.laws.preamble_stands_once.Goals as goal

pub returns : goal.returns
returns c = λ s c v l p t. (
  λ z. (viable-once s c v p t z, viable-level s c v l p t z),
  λ h. viable-stands s c v l p t h.0 h.1,
)
