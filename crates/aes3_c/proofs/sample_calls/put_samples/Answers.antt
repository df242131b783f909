use Rattle.std.proofs.Common.{◌∙◌, arith, length-set}
use Rattle.aes3_c.proofs.SampleWords.{more-samples, samples-all}
use Rattle.aes3_c.proofs.sample_calls.put_samples.Goals as goal

pub loop-slot-preserved : goal.loop-slot-preserved
loop-slot-preserved c = record {
  len = length-set c.loop-slot.samples c.loop-slot.slot c.sample_of_word.result ∙ c.loop-slot.invariant.len;
  put = more-samples c.loop-slot.samples c.args.words.now c.loop-slot.slot c.sample_of_word.result (omega arith)
      c.sample_of_word.ensures c.loop-slot.invariant.put;
}

pub returns : goal.returns
returns c = samples-all c.loop-slot.samples c.args.words.now (omega arith)
    (λ k h. c.loop-slot.invariant.put k (omega arith))
