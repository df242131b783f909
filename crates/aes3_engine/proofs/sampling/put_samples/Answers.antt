use Rattle.std.proofs.Common.{sym, arith}
use Rattle.aes3_engine.proofs.PcmWords.{all-wide}
use Rattle.aes3_engine.proofs.sampling.put_samples.Goals as goal

pub returns-in-S32-clause-bytes : goal.returns-in-S32-clause-bytes
returns-in-S32-clause-bytes g c =
    rw (sym (all-wide c.args.format c.args.samples.now c.in-S32.is (omega arith))) c.put_widened.ensures.grew

pub returns-in-S32-clause-err : goal.returns-in-S32-clause-err
returns-in-S32-clause-err g c =
    rw (sym (all-wide c.args.format c.args.samples.now c.in-S32.is (omega arith))) c.put_widened.ensures.err
