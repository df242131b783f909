use Rattle.std.proofs.Common.{append_assoc}
use Rattle.aes3_status.specs.ProfessionalText.{signal_fields}
use Rattle.aes3_status.proofs.professional_text.put_signal.Goals as goal

pub returns-clause-fields : goal.returns-clause-fields
unfolding signal_fields
returns-clause-fields c =
    rw (
      c.put_field-4.ensures.field,
      c.put_field-3.ensures.field,
      c.put_field-2.ensures.field,
      c.put_field.ensures.field,
    )
    (simp append_assoc)
