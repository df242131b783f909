use Rattle.std.proofs.Common.{◌∙◌, ◌++◌, [], Some, ap, append-nil, refl, subst, sym}
use Rattle.aes3_capture_recovery.specs.declared.recovery.Recovery.{Recovery}
use Rattle.aes3_capture_recovery.proofs.Taking.{took-none}
use Rattle.aes3_c.specs.Owed.{owed_in}
use Rattle.aes3_c.specs.Streaming.{EndedOctets}
use Rattle.aes3_c.proofs.Captures.{ran-over}
use Rattle.aes3_c.proofs.Streams.{ended-octets}
use Rattle.aes3_c.proofs.streaming.finish_samples.Goals as goal
use Rattle.aes3_capture_recovery.proofs.Unfailing.{ok-unless}

pub returns-clause-ended : goal.returns-clause-ended
returns-clause-ended g c = λ is. record {
  each = λ first kept.
      let told = g.K.Before.told in
      let old = c.of_parts-recovery.result in
      let now = c.finish.new.self in
      let sink = c.finish.new.sink in (
        now,
        sym c.parts.ensures,
        subst (λ (r : Recovery). EndedOctets r now told (told ++ owed_in sink.owed) []) (c.of_parts-recovery.ensures first kept)
            (ended-octets (λ s. Some (told ++ s.given.octets)) old now c.new-sink.result sink told (told ++ owed_in sink.owed) []
            (ap (λ l. Some (told ++ l)) c.new-sink.ensures.none ∙ ap Some (append-nil told))
            (ap (λ l. Some (told ++ l)) (sym (sink.owes c.if-not-fits.false)))
            (ok-unless c.finish.result c.finish.ensures.one_failure
            (ran-over c.finish.result old now c.new-sink.result sink
            (took-none (λ s. Some (told ++ s.given.octets)) old c.new-sink.result)
            c.finish.ensures.samples c.finish.ensures.recovered c.finish.ensures.up c.finish.ensures.begun
            c.finish.ensures.writes c.finish.ensures.kept))),
      );
}

pub returns-then-not-fits-clause-many : goal.returns-then-not-fits-clause-many
returns-then-not-fits-clause-many g c = λ _. record {
  each = λ first kept.
      let told = g.K.Before.told in
      let old = c.of_parts-recovery.result in
      let now = c.finish.new.self in
      let sink = c.finish.new.sink in (
        now,
        sink.given.octets,
        subst (λ (r : Recovery). EndedOctets r now told (told ++ sink.given.octets) []) (c.of_parts-recovery.ensures first kept)
            (ended-octets (λ s. Some (told ++ s.given.octets)) old now c.new-sink.result sink told (told ++ sink.given.octets) []
            (ap (λ l. Some (told ++ l)) c.new-sink.ensures.none ∙ ap Some (append-nil told)) refl
            (ok-unless c.finish.result c.finish.ensures.one_failure
            (ran-over c.finish.result old now c.new-sink.result sink
            (took-none (λ s. Some (told ++ s.given.octets)) old c.new-sink.result)
            c.finish.ensures.samples c.finish.ensures.recovered c.finish.ensures.up c.finish.ensures.begun
            c.finish.ensures.writes c.finish.ensures.kept))),
        sink.many c.if-not-fits.true,
      );
}
