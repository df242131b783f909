use Rattle.std.proofs.Common.{◌++◌, ap, ◌∙◌, sym}
use Rattle.aes3_status.specs.declared.field.Field.{Field}
use Rattle.aes3_status.specs.NamedSettings.{code_text}
use Rattle.aes3_status.proofs.named_settings.put_code.Goals as goal

pub returns-in-Use-clause-code : goal.returns-in-Use-clause-code
returns-in-Use-clause-code c =
    c.word_field.ensures.field
    ∙ ap (λ (f : Field). c.args.line.now ++ code_text f c.args.under c.args.code) (sym c.in-Use.is)
