use Rattle.std.proofs.Common.{◌≡◌, refl, take, arith}
use Rattle.std.proofs.lemmas.List.{take_all}
use Rattle.aes3_status.specs.declared.field.Field.TheVariants.{Use}
use Rattle.aes3_status.proofs.SettingTexts.{more-none}
use Rattle.aes3_status.proofs.named_settings.setting_in.Goals as goal

pub loop-field-preserved : goal.loop-field-preserved
loop-field-preserved c =
    more-none c.args.text.now c.args.fields.now c.loop-field.field-index Use (omega arith) c.loop-field.invariant
    (λ under code few. c.codes_of-codes.ensures.none under code few (c.if-has_code.ensures.none refl under few))

pub returns-clause-none : goal.returns-clause-none
returns-clause-none c =
    let all : take c.loop-field.field-index c.args.fields.now ≡ c.args.fields.now =
    take_all c.loop-field.field-index c.args.fields.now (omega arith) in
    λ _. rw all at c.loop-field.invariant
