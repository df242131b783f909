use Rattle.aes3_engine.proofs.ExactSamples.{exact-all, exact-is}
use Rattle.std.proofs.Common.{sym}
use Rattle.aes3_engine.proofs.exact_samples.to_exact_pcm.Goals as goal

pub returns-in-S16-clause-run : goal.returns-in-S16-clause-run
returns-in-S16-clause-run g c = exact-is c.args.input (sym c.in-S16.is) c.to_exact_16.ensures

pub returns-in-S16-clause-all : goal.returns-in-S16-clause-all
returns-in-S16-clause-all g c =
    exact-all c.args.input c.args.format c.to_exact_16.result (returns-in-S16-clause-run g c)

pub returns-in_default-clause-all : goal.returns-in_default-clause-all
returns-in_default-clause-all g c =
    exact-all c.args.input c.args.format c.to_exact_24.result c.to_exact_24.ensures
