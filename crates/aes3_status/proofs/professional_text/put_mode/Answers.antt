use Rattle.std.proofs.Common.{append_assoc}
use Rattle.aes3_status.specs.ProfessionalText.{mode_fields}
use Rattle.aes3_status.proofs.professional_text.put_mode.Goals as goal

pub returns-clause-fields : goal.returns-clause-fields
unfolding mode_fields
returns-clause-fields c =
    rw (
      c.put_field-5.ensures.field,
      c.put_field-4.ensures.field,
      c.put_field-3.ensures.field,
      c.put_field-2.ensures.field,
      c.put_field.ensures.field,
    )
    (rw c.code.ensures (simp append_assoc))
