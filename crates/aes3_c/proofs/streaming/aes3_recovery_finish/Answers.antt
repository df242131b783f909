use Rattle.std.proofs.Common.{◌∙◌, ◌++◌, take, arith, inl, inr}
use Rattle.aes3_c.specs.Streaming.{IsEnded, IsTaking}
use Rattle.aes3_c.proofs.Streams.{ended-drained, ends-more, waits-drained}
use Rattle.aes3_c.proofs.streaming.aes3_recovery_finish.Goals as goal

pub returns-clause-ends : goal.returns-clause-ends
returns-clause-ends g c = λ over period levels k.
    let t : IsEnded period levels (g.octets ++ take c.finish_in-ended.new.put c.finish_in-ended.new.cells) c.finish_in-ended.new.recovery
    = elim c.finish_in-ended.ensures.ended [
      | inl d ↦ absurd (over (d.ended_is ∙ k.goes_on))
      | inr t ↦ ends-more period levels g.octets _ _ _ k t
    ] in
    record { now = t.now; kept_is = t.kept_is; cells = t.cells; ended = t.ended }

pub returns-clause-waits : goal.returns-clause-waits
returns-clause-waits g c = λ waits period levels k.
    let t : IsTaking period levels (g.octets ++ take c.finish_in-ended.new.put c.finish_in-ended.new.cells) c.finish_in-ended.new.recovery
    = elim c.finish_in-ended.ensures.ended [
      | inl d ↦ waits-drained period levels g.octets _ _ _ k d
      | inr t ↦ let is = t.is in absurd (omega (arith, is, waits))
    ] in
    record { first = t.first; fresh = t.fresh; now = t.now; kept_is = t.kept_is; took = t.took; goes_on = t.goes_on }

pub returns-clause-ended : goal.returns-clause-ended
returns-clause-ended g c = λ period levels k.
    let t : IsEnded period levels (g.octets ++ take c.finish_in-ended.new.put c.finish_in-ended.new.cells) c.finish_in-ended.new.recovery
    = elim c.finish_in-ended.ensures.ended [
      | inl d ↦ ended-drained period levels g.octets _ _ _ k d
      | inr t ↦ let was = t.was in let ended = k.ended in absurd (omega (arith, was, ended))
    ] in
    record { now = t.now; kept_is = t.kept_is; cells = t.cells; ended = t.ended }
