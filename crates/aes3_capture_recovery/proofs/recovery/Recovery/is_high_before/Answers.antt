use Rattle.std.proofs.Common.{ap, ◌∙◌, arith, take, not}
use Rattle.std.proofs.lemmas.List.{length-take-le}
use Rattle.aes3_level.specs.Cells.{after, other}
use Rattle.aes3_level.proofs.Runs.{other-other}
use Rattle.aes3_capture_recovery.specs.Endings.{level_if}
use Rattle.aes3_capture_recovery.proofs.Telling.{after-even, after-odd}
use Rattle.aes3_capture_recovery.proofs.SameLevels.{level-not}
use Rattle.aes3_capture_recovery.proofs.recovery.Recovery.is_high_before.Goals as goal

pub returns-then-count-eq1 : goal.returns-then-count-eq1
returns-then-count-eq1 c = λ level e.
    let runs = take c.args.count c.args.self.now.runs in
    let many = length-take-le c.args.count c.args.self.now.runs (omega (arith, c.requires.within)) in
    ap level_if c.is_high.ensures ∙ e ∙ ap other (after-odd level runs (omega (arith, many, c.if-count-eq1.true)))
    ∙ other-other level

pub returns-else-count-eq1 : goal.returns-else-count-eq1
returns-else-count-eq1 c = λ level e.
    let runs = take c.args.count c.args.self.now.runs in
    let many = length-take-le c.args.count c.args.self.now.runs (omega (arith, c.requires.within)) in
    ap (λ b. level_if (not b)) c.is_high-else-count-eq1.ensures ∙ level-not c.args.self.now.line.edges.high ∙ ap other e
    ∙ other-other (after level runs) ∙ after-even level runs (omega (arith, many, c.if-count-eq1.false))
