use Rattle.std.proofs.Common.{◌∙◌, refl, sym, arith}
use Rattle.aes3_info.specs.Levels.{decade}
use Rattle.aes3_info.proofs.LevelSteps.{decade-is, steps-all, steps-begin, steps-next, steps-stop}
use Rattle.aes3_info.proofs.decibels.steps_below.Goals as goal

pub loop-steps-init : goal.loop-steps-init
loop-steps-init c = record { steps = steps-begin decade c.args.power c.args.full; few = omega arith }

pub returns-then-power-times-clause-steps : goal.returns-then-power-times-clause-steps
returns-then-power-times-clause-steps c =
    let l = c.loop-steps in
    let d = decade-is in
    let a = c.times-power.ensures in
    let b = c.times.ensures in
    sym (steps-stop decade l.steps l.limit c.args.power c.args.full _ l.invariant.steps (omega arith) (omega arith))

pub loop-steps-preserved : goal.loop-steps-preserved
loop-steps-preserved c =
    let l = c.loop-steps in
    let d = decade-is in
    let a = c.times-power.ensures in
    let b = c.times.ensures in
    let f = l.invariant.few in
    record {
      steps = steps-next decade l.steps l.limit _ c.args.power c.args.full _ l.invariant.steps (omega arith)
          (omega arith) refl;
      few = omega arith;
    }

pub returns-clause-steps : goal.returns-clause-steps
returns-clause-steps c =
    let l = c.loop-steps in
    let d = decade-is in
    sym (steps-all decade l.steps l.limit c.args.power c.args.full _ l.invariant.steps (omega arith) (omega arith)
    ∙ decade-is)
