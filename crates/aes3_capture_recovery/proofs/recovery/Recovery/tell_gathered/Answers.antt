use Rattle.std.proofs.Common.{refl, sym, ap, ◌∙◌, ◌++◌, arith, take, subst}
use Rattle.std.proofs.lemmas.List.{length-take-le}
use Rattle.aes3_level.specs.Cells.{after, other}
use Rattle.aes3_level.proofs.Runs.{after-append}
use Rattle.aes3_capture_recovery.specs.Recovering.{AreTold}
use Rattle.aes3_capture_recovery.proofs.Telling.{ok-map, told-all}
use Rattle.aes3_capture_recovery.specs.Endings.{level_if}
use Rattle.aes3_capture_recovery.proofs.Writing.{gave-none, none-before}
use Rattle.aes3_capture_recovery.proofs.recovery.Recovery.tell_gathered.Goals as goal

pub returns-then-count-lt-FEW-clause-told : goal.returns-then-count-lt-FEW-clause-told
returns-then-count-lt-FEW-clause-told g c = λ setting level done past none w turns.
    let old = c.args.self.now in
    let runs = take c.args.count old.runs in
    let new = c.release.new.self in
    let k = c.release.ensures.keeps in
    ok-map c.release.result _ _
    (λ t. told-all old new c.args.sink.now c.release.new.sink setting level done past runs w none t k.found_is
    k.known_is k.measured_is)
    (c.release.ensures.told (after level done) (turns ∙ ap other (after-append level done runs)))

pub returns-else-count-lt-FEW-clause-told : goal.returns-else-count-lt-FEW-clause-told
returns-else-count-lt-FEW-clause-told g c = λ setting level done past none w turns.
    let old = c.args.self.now in
    let runs = take c.args.count old.runs in
    let many = c.if-count-lt-FEW.false in
    let within = c.requires.within in
    let long = length-take-le c.args.count old.runs (omega (arith, within)) in
    let zero_past = none (omega (arith, long, many)) in
    ok-map c.decide.result _ _
    (λ t. subst (λ n. AreTold (g.T.Sink.taken c.decide.new.sink) setting level (done ++ runs) n c.decide.new.self)
    (sym zero_past) t)
    (c.decide.ensures.told setting level done (omega (arith, many))
    (subst (λ n. AreTold (g.T.Sink.taken c.args.sink.now) setting level done n old) zero_past w) turns)

pub returns-then-count-lt-FEW-clause-none : goal.returns-then-count-lt-FEW-clause-none
returns-then-count-lt-FEW-clause-none g c = λ none found.
    let old = c.args.self.now in
    let high = level_if old.line.edges.high in
    ok-map c.release.result _ _
    (λ t. gave-none old.line c.release.new.self.line c.args.sink.now c.release.new.sink (other high) c.args.count old.runs none
    (t.found found))
    (c.release.ensures.told (other high) (none-before high (other high) c.args.count old.runs none refl))

pub returns-else-count-lt-FEW-clause-none : goal.returns-else-count-lt-FEW-clause-none
returns-else-count-lt-FEW-clause-none g c = λ none found.
    let many = c.if-count-lt-FEW.false in absurd (omega (arith, none, many))
