use Rattle.std.proofs.Common.{◌∙◌, ◌%◌, ◌-◌, ap, refl}
use Rattle.std.proofs.lemmas.Bool.{cond_above, cond_below}
use Rattle.aes3_info.specs.Facts.{magnitude}
use Rattle.aes3_info.proofs.Magnitudes.{magnitude-bits}
use Rattle.aes3_info.proofs.samples.magnitude_of_word.Goals as goal

pub returns-then-sample-clause-magnitude : goal.returns-then-sample-clause-magnitude
returns-then-sample-clause-magnitude c =
    let p = c.payload_of_word-sample.result in
    cond_below (p % 16777216) 8388608 (p % 16777216) (16777216 - p % 16777216) c.if-sample.true
    ∙ magnitude-bits p ∙ ap magnitude c.payload_of_word-sample.ensures.bits

pub returns-else-sample-clause-magnitude : goal.returns-else-sample-clause-magnitude
returns-else-sample-clause-magnitude c =
    let p = c.payload_of_word-sample.result in
    cond_above (p % 16777216) 8388608 (p % 16777216) (16777216 - p % 16777216) (16777216 - p % 16777216)
    c.if-sample.false refl
    ∙ magnitude-bits p ∙ ap magnitude c.payload_of_word-sample.ensures.bits
