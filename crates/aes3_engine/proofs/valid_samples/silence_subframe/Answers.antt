use Rattle.std.proofs.Common.{rules}
use Rattle.aes3_engine.proofs.ValidSamples.{silent-bits, valid-bits}
use Rattle.aes3_engine.proofs.valid_samples.silence_subframe.Goals as goal

pub returns-then-not-subframe : goal.returns-then-not-subframe
returns-then-not-subframe c = search (rules, valid-bits c.args.subframe c.if-not-subframe.true)

pub returns : goal.returns
returns c = silent-bits c.args.subframe c.if-not-subframe.false
