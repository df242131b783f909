use Rattle.std.proofs.Common.{◌^◌, ap, ◌∙◌, arith}
use Rattle.aes3_status.specs.declared.field.Place.{Place}
use Rattle.aes3_status.proofs.SetFields.{small, few-codes}
use Rattle.aes3_status.proofs.field.Field.codes.Goals as goal

pub returns-clause-count : goal.returns-clause-count
returns-clause-count c =
    let i = c.place.ensures.inside in
    omega (arith, small c.place.result.count (omega arith)) ∙ ap (λ (p : Place). 2 ^ p.count) c.place.ensures.place

pub returns-clause-few : goal.returns-clause-few
returns-clause-few c =
    let i = c.place.ensures.inside in
    omega (arith, small c.place.result.count (omega arith), few-codes c.place.result.count (omega arith))
