use Rattle.std.proofs.Common.{◌≡◌, ◌*◌, [], List, ap, arith, length, rules, subst}
use Rattle.std.specs.List.{flat_map}
use Rattle.aes3_level.specs.declared.level.Level.{Level}
use Rattle.aes3_level.specs.Words.{word_cells}
use Rattle.aes3_capture_recovery.specs.Beginning.{Awaits}
use Rattle.aes3_capture_recovery.specs.Endings.{level_if}
use Rattle.aes3_capture_recovery.specs.Recovering.{Recovered}
use Rattle.aes3_capture_recovery.proofs.States.{still-apart}
use Rattle.aes3_capture_recovery.proofs.StillWords.{levels-two}
use Rattle.aes3_capture_recovery.proofs.recovery.Recovery.take_still.Goals as goal

pub returns-clause-recovered : goal.returns-clause-recovered
returns-clause-recovered g c = λ setting seen w.
    let most = c.last_waiting-last.ensures in
    let some = c.requires.some in
    let samples = c.wait_on.ensures.samples in
    subst (λ (l : List Level). Recovered (g.T.Sink.taken c.wait_on-2.new.sink) setting l [] c.wait_on-2.new.self)
    (levels-two (level_if c.args.self.now.line.edges.high) (level_if c.wait_on.new.self.line.edges.high) seen
    (flat_map word_cells c.args.words.now) _ _ (64 * length c.args.words.now) (ap level_if c.wait_on.ensures.high)
    (omega (arith, most)) (search (rules, c.are_all_equal.ensures, c.if-not-are_all_equal.false, c.is_high.ensures)))
    (c.in_ok-wait_on-2.ensures.recovered (omega (arith, some, samples)) setting _
    (c.in_ok-wait_on.ensures.recovered some setting seen w))

pub returns-clause-awaits : goal.returns-clause-awaits
returns-clause-awaits g c = λ setting seen a.
    let most = c.last_waiting-last.ensures in
    let some = c.requires.some in
    let samples = c.wait_on.ensures.samples in
    let none : c.args.self.now.count ≡ 0 = a.recovered.stands.holds.order.none_wait
    (λ m. still-apart c.args.self.now.state c.requires.still m) in
    subst (λ (l : List Level). Awaits (g.T.Sink.taken c.wait_on-2.new.sink) setting l [] c.wait_on-2.new.self)
    (levels-two (level_if c.args.self.now.line.edges.high) (level_if c.wait_on.new.self.line.edges.high) seen
    (flat_map word_cells c.args.words.now) _ _ (64 * length c.args.words.now) (ap level_if c.wait_on.ensures.high)
    (omega (arith, most)) (search (rules, c.are_all_equal.ensures, c.if-not-are_all_equal.false, c.is_high.ensures)))
    (c.in_ok-wait_on-2.ensures.awaits (omega (arith, some, samples)) (c.wait_on.ensures.still c.requires.still none) setting _
    (c.in_ok-wait_on.ensures.awaits some c.requires.still setting seen a))
