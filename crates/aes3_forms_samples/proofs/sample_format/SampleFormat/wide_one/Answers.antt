use Rattle.std.proofs.Common.{arith, rules}
use Rattle.aes3_forms_samples.proofs.Formats.{one-s16, one-s24, one-s24in32, one-s32}
use Rattle.aes3_forms_samples.proofs.sample_format.SampleFormat.wide_one.Goals as goal

pub returns-in-S32 : goal.returns-in-S32
returns-in-S32 c = rw (c.in-S32.is) (search (rules, one-s32 c.args.octets.now (omega arith) c.args.i c.requires))

pub returns-in-S24 : goal.returns-in-S24
returns-in-S24 c = rw (c.in-S24.is) (search (rules, one-s24 c.args.octets.now (omega arith) c.args.i c.requires))

pub returns-in-S24In32 : goal.returns-in-S24In32
returns-in-S24In32 c = rw (c.in-S24In32.is) (search (rules, one-s24in32 c.args.octets.now (omega arith) c.args.i c.requires))

pub returns-in-S16 : goal.returns-in-S16
returns-in-S16 c = rw (c.in-S16.is) (search (rules, one-s16 c.args.octets.now (omega arith) c.args.i c.requires))
