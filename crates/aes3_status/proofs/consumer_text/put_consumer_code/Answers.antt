use Rattle.std.proofs.Common.{◌++◌, ap, ◌∙◌, sym}
use Rattle.aes3_status.specs.declared.field.ConField.{ConField}
use Rattle.aes3_status.specs.FieldTexts.{field_text}
use Rattle.aes3_status.specs.Words.{word_for}
use Rattle.aes3_status.specs.ConsumerText.{con_name, con_word, rate_words}
use Rattle.aes3_status.proofs.consumer_text.put_consumer_code.Goals as goal

pub returns-in-Rate-clause-code : goal.returns-in-Rate-clause-code
returns-in-Rate-clause-code c =
    c.word_field-in-Rate.ensures.field
    ∙ ap (λ name. c.args.line.now ++ field_text name
    (word_for rate_words c.args.code)) c.consumer_name-name.ensures.name
    ∙ ap (λ (f : ConField). c.args.line.now ++ field_text (con_name c.args.field) (con_word f c.args.under c.args.code))
    (sym c.in-Rate.is)
