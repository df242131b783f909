use Rattle.std.proofs.Common.{append_assoc}
use Rattle.aes3_status.specs.ProfessionalText.{professional_text}
use Rattle.aes3_status.proofs.professional_text.put_professional.Goals as goal

pub returns-clause-text : goal.returns-clause-text
unfolding professional_text
returns-clause-text c =
    rw (
      c.text_field.ensures.field,
      c.check_word.ensures.word,
      c.put_addresses.ensures.fields,
      c.put_names.ensures.fields,
      c.put_mode.ensures.fields,
      c.put_signal.ensures.fields,
      c.text.ensures.text,
    )
    (simp append_assoc)
