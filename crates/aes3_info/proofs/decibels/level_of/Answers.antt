use Rattle.std.proofs.Common.{◌+◌, ◌*◌, ◌∙◌, sym, ap, arith}
use Rattle.aes3_info.specs.Levels.{decades}
use Rattle.aes3_info.proofs.LevelSteps.{decades-is, product, tenths-all, tenths-begin, tenths-next, tenths-stop}
use Rattle.aes3_info.proofs.decibels.level_of.Goals as goal

pub loop-decade-init : goal.loop-decade-init
loop-decade-init c = record { level = tenths-begin c.args.power c.args.full }

pub returns-then-times-clause-level : goal.returns-then-times-clause-level
returns-then-times-clause-level c =
    let l = c.loop-decade in
    let d = decades-is in
    let a = c.times.ensures in
    let b = c.times-in-loop-decade.ensures in
    tenths-stop decades l.decade l.power c.times-more.result c.args.full _ c.steps_below.result l.invariant.level
    (omega arith) (c.times-more.ensures ∙ product l.power 10) (omega arith) c.steps_below.ensures.steps

pub loop-decade-preserved : goal.loop-decade-preserved
loop-decade-preserved c =
    let l = c.loop-decade in
    let d = decades-is in
    let a = c.times.ensures in
    let b = c.times-in-loop-decade.ensures in
    record {
      level = tenths-next decades l.decade l.power c.times-more.result c.args.full _ l.invariant.level (omega arith)
          (c.times-more.ensures ∙ product l.power 10) (omega arith);
    }

pub returns-clause-level : goal.returns-clause-level
returns-clause-level c =
    let l = c.loop-decade in
    let d = decades-is in
    ap (λ n. 100 * n + c.steps_below-2.result) (sym decades-is)
    ∙ tenths-all decades l.decade l.power c.args.full _ c.steps_below-2.result l.invariant.level (omega arith)
    (omega arith) c.steps_below-2.ensures.steps
