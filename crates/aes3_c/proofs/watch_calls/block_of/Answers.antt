use Rattle.std.proofs.Common.{[], ◌∙◌, ap, arith, get_or, length, length-set}
use Rattle.aes3_c.proofs.WatchCalls.{all-payloads, two-payloads}
use Rattle.aes3_c.proofs.watch_calls.block_of.Goals as goal

pub loop-i-preserved : goal.loop-i-preserved
loop-i-preserved c = record {
  len = ap length c.set_frame.ensures ∙ length-set _ _ _ ∙ length-set _ _ _ ∙ c.loop-i.invariant.len;
  payloads = λ k h.
      ap (λ b. get_or b k []) c.set_frame.ensures
      ∙ two-payloads c.loop-i.block c.args.words.now c.loop-i.i _ _ (omega arith)
      (c.of_payload.ensures ∙ c.payload_of_word.ensures.bits)
      (c.of_payload-in-loop-i.ensures ∙ c.payload_of_word-in-loop-i.ensures.bits) c.loop-i.invariant.payloads k h;
}

pub returns : goal.returns
returns c = all-payloads c.loop-i.block c.args.words.now (omega arith)
    (λ k h. c.loop-i.invariant.payloads k (omega arith))
