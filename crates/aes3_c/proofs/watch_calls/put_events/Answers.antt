use Rattle.std.proofs.Common.{◌∙◌, arith, length-set}
use Rattle.aes3_c.proofs.WatchCalls.{fewer-left, more-events}
use Rattle.aes3_c.proofs.watch_calls.put_events.Goals as goal

pub loop-i-preserved : goal.loop-i-preserved
loop-i-preserved c = record {
  len = length-set c.loop-i.events c.loop-i.i c.numbers_of.result ∙ c.loop-i.invariant.len;
  put = more-events c.args.told.now c.loop-i.events c.loop-i.i c.numbers_of.result _ (omega arith) (omega arith)
      c.numbers_of.ensures c.loop-i.invariant.put;
  left = fewer-left c.loop-i.events c.args.events.now c.loop-i.i c.numbers_of.result c.loop-i.invariant.left;
}
