use Rattle.std.proofs.Common.{◌∙◌, arith}
use Rattle.aes3_info.proofs.Magnitudes.{word-magnitude}
use Rattle.aes3_info.proofs.samples.magnitude_at.Goals as goal

pub returns-clause-magnitude : goal.returns-clause-magnitude
returns-clause-magnitude c =
    let f = c.first_subframe.ensures.few in
    c.magnitude_of_word.ensures.magnitude
    ∙ word-magnitude c.args.words.now c.args.channel c.args.i _
    (let s = c.first_subframe.ensures.subframe in omega arith) (omega arith)
