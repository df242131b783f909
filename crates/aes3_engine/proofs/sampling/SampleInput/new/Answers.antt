use Rattle.std.proofs.Common.{arith}
use Rattle.aes3_engine.proofs.PcmWords.{no-byte}
use Rattle.aes3_engine.proofs.SampleReads.{starts}
use Rattle.aes3_engine.proofs.sampling.SampleInput.new.Goals as goal

pub returns-clause-start : goal.returns-clause-start
returns-clause-start c = starts c.args.format c.args.exact _

pub invariant_of-result : goal.invariant_of-result
invariant_of-result c = record { few = no-byte c.args.format; room = omega arith }
