use Rattle.std.proofs.Common.{◌<◌, ◌∙◌, sym, subst, refl}
use Rattle.aes3_capture_recovery.specs.Levels.{bit_of_line, bits_of_sample, levels_of_samples}
use Rattle.aes3_capture_recovery.specs.declared.edges.Unit.{Unit}
use Rattle.aes3_c.specs.Capturing.{unit_of}
use Rattle.aes3_c.proofs.Captures.{Gave, gave, is-captured, unit-has-bit}
use Rattle.aes3_c.proofs.recovering.recover_to.Goals as goal
use Rattle.aes3_capture_recovery.proofs.Unfailing.{ok-unless}

-- what the recovery gave the sink
given : (c : goal.After-put_found) → Gave c.args.period
    (levels_of_samples (unit_of c.args.unit c.args.bit) c.args.samples.now) c.recover_all.new.recovery c.args.sink.now c.recover_all.new.sink
given c =
    let unit = c.unit_of.ensures in
    let samples = c.args.samples.now in
    subst (λ (u : Unit). Gave c.args.period (levels_of_samples u samples) c.recover_all.new.recovery c.args.sink.now
    c.recover_all.new.sink) unit
    (gave c.args.period (levels_of_samples c.unit_of.result samples) c.new-recovery.result c.recover_all.new.recovery
    c.args.sink.now c.recover_all.new.sink c.requires.none
    (λ w form known. c.new-recovery.ensures.recovered w form (known ∙ sym c.known_of.ensures))
    (λ w form known none. c.new-recovery.ensures.awaits w form (known ∙ sym c.known_of.ensures)
    (c.known_of.ensures ∙ none))
    (ok-unless c.recover_all.result c.recover_all.ensures.one_failure (c.recover_all.ensures.ran
    (subst (λ (u : Unit). bit_of_line u < bits_of_sample u) (sym unit) (unit-has-bit c.args.unit c.args.bit)))))

pub returns-clause-same_reference : goal.returns-clause-same_reference
returns-clause-same_reference c = (given c).same.reference

pub returns-clause-captured : goal.returns-clause-captured
returns-clause-captured c =
    is-captured c.args.unit c.args.bit c.args.period c.args.samples.now c.args.sink.now.was.octets
    c.recover_all.new.sink.memory.now c.put_found.new.found c.recover_all.new.recovery c.args.sink.now
    c.recover_all.new.sink refl (given c) refl c.put_found.ensures.octets c.put_found.ensures.figures
