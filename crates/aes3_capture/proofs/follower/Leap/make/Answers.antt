use Rattle.std.proofs.Common.{set, ◌∙◌, arith}
use Rattle.std.proofs.lemmas.List.{get_or-set_same, length-set}
use Rattle.aes3_capture.proofs.Leaping.{no-steps, steps-more}
use Rattle.aes3_capture.proofs.follower.Leap.make.Goals as goal

pub loop-i-init : goal.loop-i-init
loop-i-init c =
    let before = c.args.self.now in
    let sames_long = before.sames_long in
    let others_long = before.others_long in
    let periods_long = before.periods_long in
    no-steps c.args.middle c.args.runs.now c.args.cells.now before.places (set before.sames 0 c.args.same)
    (set before.others 0 c.args.other) (set before.periods 0 c.args.period) c.args.same c.args.other c.args.period
    before.places_long (length-set before.sames 0 c.args.same ∙ sames_long)
    (length-set before.others 0 c.args.other ∙ others_long) (length-set before.periods 0 c.args.period ∙ periods_long)
    (get_or-set_same before.sames 0 c.args.same 0 (omega (arith, sames_long)))
    (get_or-set_same before.others 0 c.args.other 0 (omega (arith, others_long)))
    (get_or-set_same before.periods 0 c.args.period 0 (omega (arith, periods_long)))

pub loop-i-preserved : goal.loop-i-preserved
loop-i-preserved c =
    let few = c.loop-i-test.true in
    steps-more c.args.middle c.args.runs.now c.args.cells.now c.loop-i.self.places c.loop-i.self.sames c.loop-i.self.others
    c.loop-i.self.periods c.args.same c.args.other c.args.period c.loop-i.i c.loop-i.same c.loop-i.other c.loop-i.period _ _ _ _
    (omega (arith, few)) c.loop-i.invariant (record {
      place_is = omega arith;
      other_is = omega arith;
      same_is = omega arith;
      period_is = omega arith;
    })

pub returns-clause-begins : goal.returns-clause-begins
returns-clause-begins c =
    (c.loop-i.invariant.same_begins, c.loop-i.invariant.other_begins, c.loop-i.invariant.period_begins)

pub returns-clause-steps : goal.returns-clause-steps
returns-clause-steps c i few =
    let all = c.loop-i-test.false in
    c.loop-i.invariant.each i (omega (arith, few, all))
