use Rattle.std.proofs.Common.{append_assoc}
use Rattle.aes3_status.specs.ConsumerText.{rate_fields}
use Rattle.aes3_status.proofs.consumer_text.put_rate.Goals as goal

pub returns-clause-fields : goal.returns-clause-fields
unfolding rate_fields
returns-clause-fields c =
    rw (c.put_field-3.ensures.field, c.put_field-2.ensures.field, c.put_field.ensures.field)
    (simp append_assoc)
