use Rattle.std.proofs.Common.{◌∙◌, length, arith}
use Rattle.std.proofs.lemmas.List.{take_all}
use Rattle.aes3_forms_samples.proofs.Formats.{narrowed-s16, narrowed-s24, narrowed-s24in32, narrowed-s32}
use Rattle.aes3_forms_samples.proofs.sample_format.SampleFormat.narrow.Goals as goal

pub returns-in-S32-clause-octets : goal.returns-in-S32-clause-octets
returns-in-S32-clause-octets c =
    take_all (length c.args.samples.now) c.args.samples.now (omega arith)
    ∙ narrowed-s32 c.args.self c.args.samples.now c.in-S32.is

pub returns-in-S24-clause-octets : goal.returns-in-S24-clause-octets
returns-in-S24-clause-octets c =
    c.narrow_each.ensures.octets ∙ narrowed-s24 c.args.self c.args.samples.now c.in-S24.is

pub returns-in-S24In32-clause-octets : goal.returns-in-S24In32-clause-octets
returns-in-S24In32-clause-octets c =
    c.narrow_each-in-S24In32.ensures.octets ∙ narrowed-s24in32 c.args.self c.args.samples.now c.in-S24In32.is

pub returns-in-S16-clause-octets : goal.returns-in-S16-clause-octets
returns-in-S16-clause-octets c =
    c.narrow_each-in-S16.ensures.octets ∙ narrowed-s16 c.args.self c.args.samples.now c.in-S16.is
