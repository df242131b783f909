use Rattle.std.proofs.Common.{arith, refl, sym}
use Rattle.std.proofs.lemmas.List.{take_all, take_more}
use Rattle.aes3_capture_recovery.proofs.TurnedRuns.{cells-alone, turned-more, turned-none}
use Rattle.aes3_capture_recovery.proofs.queue.bits_of_runs.Goals as goal
use Rattle.aes3_capture_recovery.proofs.queue.bits_of_runs.Goals.{then-high, else-high}

pub loop-i-preserved : goal.loop-i-preserved
loop-i-preserved c =
    let v = c.loop-i.invariant in
    let below = c.loop-i-test.true in
    let few = c.requires.few in
    let short = c.requires.short c.loop-i.i below in
    let most = v.most in
    record {
      turned = λ before level. turned-more c.loop-i.levels c.loop-i.len _ _ _ before _ _
          (take_more c.args.runs.now c.loop-i.i 0 below) (omega arith) (omega (arith, most, short, below, few)) refl (v.turned before level);
      most = omega (arith, most, short);
    }

pub loop-i-init : goal.loop-i-init
loop-i-init c = record {
  turned = λ before level. turned-none c.args.high c.if-high.levels before level
      (elim c.if-high.branch [ then-high w ↦ rw w.if-high.true w.levels-is | else-high w ↦ rw w.if-high.false w.levels-is ]);
  most = omega arith;
}

pub returns-clause-cells : goal.returns-clause-cells
returns-clause-cells c before level =
    let v = c.loop-i.invariant in
    let all = c.loop-i-test.false in
    let last = c.loop-i.auto.i-end in
    let few = c.requires.few in
    let most = v.most in
    rw (
      cells-alone c.loop-i.levels c.loop-i.len (omega (arith, most, last, few)),
      sym (take_all c.loop-i.i c.args.runs.now all),
    ) (v.turned before level).cells
