use Rattle.std.proofs.Common.{ap, ◌∙◌, sym, arith, rules}
use Rattle.aes3_status.specs.Statuses.{is_professional}
use Rattle.aes3_c.specs.Consumer.{consumer_bytes, consumer_fields}
use Rattle.aes3_c.proofs.Consumers.{bytes-back, bytes-consumer, fields-back}
use Rattle.aes3_c.proofs.consumer_calls.aes3_status_of_consumer.Goals as goal

pub returns-clause-consumer : goal.returns-clause-consumer
returns-clause-consumer c = λ _.
    search (rules, ap is_professional c.bytes_of.ensures ∙ bytes-consumer c.args.fields.now)

pub returns-clause-fields : goal.returns-clause-fields
returns-clause-fields c = λ _.
    search (
      rules,
      ap consumer_fields c.bytes_of.ensures
          ∙ fields-back c.args.fields.now (c.fits.ensures.fits c.if-not-fits.false) (omega arith),
    )

pub returns-clause-only : goal.returns-clause-only
returns-clause-only c = λ _ bytes len small kind same.
    search (rules, bytes-back bytes len small kind ∙ ap consumer_bytes same ∙ sym c.bytes_of.ensures)
