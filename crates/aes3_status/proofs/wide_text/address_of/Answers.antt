use Rattle.std.proofs.Common.{◌∙◌, Some, ap}
use Rattle.aes3_status.proofs.WideNumbers.{addressed, unaddressed}
use Rattle.aes3_status.proofs.wide_text.address_of.Goals as goal

pub returns-in-Ok : goal.returns-in-Ok
returns-in-Ok c = ap Some c.to_le_bytes.ensures ∙ addressed c.args.word.now c.in-Ok.number c.in-Ok.ensures.value.0

pub returns-in-Err : goal.returns-in-Err
returns-in-Err c = unaddressed c.args.word.now c.in-Err.ensures.value.0
