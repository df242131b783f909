use Rattle.std.proofs.Common.{ap, ◌∙◌, subst, ◌<◌, sym}
use Rattle.aes3_lock.specs.Outcomes.{marked}
use Rattle.aes3_lock.proofs.StandingBlocks.{standing-begins, standing-marked, marked-standing}
use Rattle.aes3_lock.proofs.laws.marked_where_subframes_stand.Goals as goal

pub returns : goal.returns
returns c = λ n s c. (
  λ h. let r = marked-standing s n c h.1 in
      record { slots = r.2.0; stand = r.2.1; wrong = r.2.2; some = r.1; closed = r.0 },
  λ h. (
    standing-begins h.slots s c h.stand,
    standing-marked h.slots s c h.stand h.closed (subst (λ k. 0 < k) (sym h.wrong) h.some) ∙ ap (marked s) h.wrong,
  ),
)
