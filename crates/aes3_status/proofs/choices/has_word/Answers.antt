use Rattle.std.proofs.Common.{◌∙◌, ◌++◌, ap, ap₂, append_assoc}
use Rattle.std.specs.Prelude.{codes, decimal, not}
use Rattle.std.specs.Str.{bytes_eq}
use Rattle.aes3_status.specs.Names.{name_of}
use Rattle.aes3_status.specs.FieldTexts.{field_text}
use Rattle.aes3_status.specs.NamedSettings.{code_text}
use Rattle.aes3_status.proofs.choices.has_word.Goals as goal

pub returns : goal.returns
unfolding field_text
returns c =
    let head = codes " " ++ name_of c.args.field ++ codes "=" in
    let word = c.as_bytes.ensures
    ∙ (c.put_code.ensures.code ∙ ap (λ l. l ++ code_text c.args.field c.args.under c.args.code) c.new-line.ensures) in
    let named = c.field.ensures.name
    ∙ ap₂ (λ l n. l ++ (codes " " ++ n ++ codes "=")) c.new-number.ensures c.name_of.ensures.name in
    let number =
    c.as_bytes-2.ensures
    ∙ (c.number.ensures.digits
    ∙ ap₂ (λ l n. l ++ decimal n) (c.text.ensures.text ∙ ap (λ l. l ++ codes "code") named) c.from.ensures)
    ∙ append_assoc head (codes "code") (decimal c.args.code) in
    c.ne.ensures ∙ ap₂ (λ a b. not (bytes_eq a b)) word number
