use Rattle.std.proofs.Common.{arith, rules}
use Rattle.aes3_cell.proofs.ClosedGaps.{closing-none, closing-some, closing-fits, closing-more, closing-all}
use Rattle.aes3_cell.proofs.scattered.close_up.Goals as goal

pub loop-gaps-init : goal.loop-gaps-init
loop-gaps-init c = search (rules, closing-none c.args.kept c.args.levels c.ranges.kept.fits c.ranges.levels.fits)

pub overflow_add-word : goal.overflow_add-word
overflow_add-word c = record {
  fits = closing-fits c.args.kept c.args.levels c.loop-gaps.gaps c.loop-gaps.word c.loop-gaps.len (omega arith)
      c.loop-gaps.invariant;
}

pub overflow_sub-len : goal.overflow_sub-len
overflow_sub-len c =
    let s = closing-some c.args.kept c.args.levels c.loop-gaps.gaps c.loop-gaps.word c.loop-gaps.len (omega arith)
    c.loop-gaps.invariant in
    omega arith

pub loop-gaps-preserved : goal.loop-gaps-preserved
loop-gaps-preserved c =
    search (
      rules,
      closing-more c.args.kept c.args.levels c.loop-gaps.gaps c.loop-gaps.word c.loop-gaps.len (omega arith)
          c.loop-gaps.invariant,
    )

pub invariant_of-result : goal.invariant_of-result
invariant_of-result c = record { few = c.loop-gaps.invariant.few; bound = c.loop-gaps.invariant.word_bound }

pub returns : goal.returns
returns c =
    closing-all c.args.kept c.args.levels c.loop-gaps.gaps c.loop-gaps.word c.loop-gaps.len (omega arith)
    c.loop-gaps.invariant
