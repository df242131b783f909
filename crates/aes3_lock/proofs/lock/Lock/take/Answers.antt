use Rattle.std.proofs.Common.{sym, ◌∙◌}
use Rattle.aes3_lock.proofs.TakenCells.{took-more, took-none, took-nothing, took-same}
use Rattle.aes3_lock.proofs.lock.Lock.take.Goals as goal

pub loop-self-init : goal.loop-self-init
loop-self-init c = record { took = took-none c.args.self.now _ }

pub returns-then-is_some-clause-took : goal.returns-then-is_some-clause-took
returns-then-is_some-clause-took c =
    took-more (took-more c.loop-self.invariant.took c.take_whole.ensures)
    (took-same c.begin_word.ensures.all c.take_some-ending.ensures.took)

-- some more cells decide nothing
pub loop-self-preserved : goal.loop-self-preserved
loop-self-preserved c = record {
  took = took-more (took-more c.loop-self.invariant.took c.take_whole.ensures)
      (took-same c.begin_word.ensures.all
      (took-nothing c.take_some-ending.result (sym c.is_some.ensures ∙ c.if-is_some.false) c.take_some-ending.ensures.took));
}
