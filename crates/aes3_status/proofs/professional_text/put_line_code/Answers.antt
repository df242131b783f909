use Rattle.std.proofs.Common.{◌++◌, ap, ◌∙◌, sym}
use Rattle.aes3_status.specs.declared.field.ProField.{ProField}
use Rattle.aes3_status.specs.FieldTexts.{field_text}
use Rattle.aes3_status.specs.Words.{word_for}
use Rattle.aes3_status.specs.ProfessionalText.{pro_name, pro_word, emphasis_words, mode_words, rate_words, user_words}
use Rattle.aes3_status.proofs.professional_text.put_line_code.Goals as goal

pub returns-in-Emphasis-clause-code : goal.returns-in-Emphasis-clause-code
returns-in-Emphasis-clause-code c =
    c.word_field-in-Emphasis.ensures.field
    ∙ ap (λ name. c.args.line.now ++ field_text name
    (word_for emphasis_words c.args.code)) c.professional_name-name.ensures.name
    ∙ ap (λ (f : ProField). c.args.line.now ++ field_text (pro_name c.args.field) (pro_word f c.args.under c.args.code))
    (sym c.in-Emphasis.is)

pub returns-in-Rate-clause-code : goal.returns-in-Rate-clause-code
returns-in-Rate-clause-code c =
    c.word_field-in-Rate.ensures.field
    ∙ ap (λ name. c.args.line.now ++ field_text name
    (word_for rate_words c.args.code)) c.professional_name-name.ensures.name
    ∙ ap (λ (f : ProField). c.args.line.now ++ field_text (pro_name c.args.field) (pro_word f c.args.under c.args.code))
    (sym c.in-Rate.is)

pub returns-in-Mode-clause-code : goal.returns-in-Mode-clause-code
returns-in-Mode-clause-code c =
    c.word_field-in-Mode.ensures.field
    ∙ ap (λ name. c.args.line.now ++ field_text name
    (word_for mode_words c.args.code)) c.professional_name-name.ensures.name
    ∙ ap (λ (f : ProField). c.args.line.now ++ field_text (pro_name c.args.field) (pro_word f c.args.under c.args.code))
    (sym c.in-Mode.is)

pub returns-in-User-clause-code : goal.returns-in-User-clause-code
returns-in-User-clause-code c =
    c.word_field-in-User.ensures.field
    ∙ ap (λ name. c.args.line.now ++ field_text name
    (word_for user_words c.args.code)) c.professional_name-name.ensures.name
    ∙ ap (λ (f : ProField). c.args.line.now ++ field_text (pro_name c.args.field) (pro_word f c.args.under c.args.code))
    (sym c.in-User.is)
