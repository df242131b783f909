use Rattle.aes3_slot.specs.Preambles.{begins_with_any}
use Rattle.aes3_slot.proofs.Windows.{says-or}
use Rattle.aes3_slot.proofs.search.preambles.Goals as goal

pub returns : goal.returns
unfolding begins_with_any
returns c = λ k h.
    (says-or (record { is = c.mark_places-places.ensures.x k h })
    (says-or (record { is = c.mark_places-places.ensures.y k h })
    (record { is = c.mark_places-places.ensures.z k h }))).is
