use Rattle.std.proofs.Common.{arith}
use Rattle.aes3_status.proofs.BitFields.{field-fits}
use Rattle.aes3_status.proofs.field.Field.under.Goals as goal

pub returns-in-Professional-Word-clause-few : goal.returns-in-Professional-Word-clause-few
returns-in-Professional-Word-clause-few c = omega (arith, field-fits 2 0 3 c.args.bytes.now)

pub returns-in-Consumer-Emphasis-clause-few : goal.returns-in-Consumer-Emphasis-clause-few
returns-in-Consumer-Emphasis-clause-few c = omega (arith, field-fits 0 1 1 c.args.bytes.now)

pub returns-in-Consumer-Word-clause-few : goal.returns-in-Consumer-Word-clause-few
returns-in-Consumer-Word-clause-few c = omega (arith, field-fits 4 0 1 c.args.bytes.now)
