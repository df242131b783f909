use Rattle.std.proofs.Common.{◌∙◌, ◌++◌, Some, ap, append-nil, refl, subst, sym}
use Rattle.aes3_capture_recovery.specs.Levels.{levels_of_samples}
use Rattle.aes3_capture_recovery.specs.declared.recovery.Recovery.{Recovery}
use Rattle.aes3_c.specs.Owed.{owed_in}
use Rattle.aes3_c.specs.Streaming.{TookOctets}
use Rattle.aes3_c.proofs.Streams.{took-octets}
use Rattle.aes3_c.proofs.streaming.take_samples.Goals as goal
use Rattle.aes3_capture_recovery.proofs.Unfailing.{ok-unless}

pub returns-clause-took : goal.returns-clause-took
returns-clause-took g c = λ is. record {
  each = λ first kept.
      let told = g.K.Before.told in
      let now = c.feed.new.recovery in
      let sink = c.feed.new.sink in
      let levels = levels_of_samples c.args.unit c.args.samples.now in (
        now,
        sym c.parts.ensures,
        subst (λ (r : Recovery). TookOctets r now told (told ++ owed_in sink.owed) levels) (c.of_parts-recovery.ensures first kept)
            (took-octets _ c.of_parts-recovery.result now c.new-sink.result sink told (told ++ owed_in sink.owed) levels
            (ap (λ l. Some (told ++ l)) c.new-sink.ensures.none ∙ ap Some (append-nil told))
            (ap (λ l. Some (told ++ l)) (sym (sink.owes c.if-not-fits.false)))
            (ok-unless c.feed.result c.feed.ensures.one_failure (c.feed.ensures.took c.requires.bit))),
      );
}

pub returns-then-not-fits-clause-many : goal.returns-then-not-fits-clause-many
returns-then-not-fits-clause-many g c = λ _. record {
  each = λ first kept.
      let told = g.K.Before.told in
      let now = c.feed.new.recovery in
      let sink = c.feed.new.sink in
      let levels = levels_of_samples c.args.unit c.args.samples.now in (
        now,
        sink.given.octets,
        subst (λ (r : Recovery). TookOctets r now told (told ++ sink.given.octets) levels) (c.of_parts-recovery.ensures first kept)
            (took-octets (λ s. Some (told ++ s.given.octets)) c.of_parts-recovery.result now c.new-sink.result sink told
            (told ++ sink.given.octets) levels
            (ap (λ l. Some (told ++ l)) c.new-sink.ensures.none ∙ ap Some (append-nil told)) refl
            (ok-unless c.feed.result c.feed.ensures.one_failure (c.feed.ensures.took c.requires.bit))),
        sink.many c.if-not-fits.true,
      );
}
