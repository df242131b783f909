use Rattle.std.proofs.Common.{sym, ap, ◌∙◌}
use Rattle.aes3_frame.specs.Statuses.{place_of}
use Rattle.aes3_frame.proofs.StatusBits.{validity_place_24, user_place_25, status_place_26}
use Rattle.aes3_frame.proofs.block.place_in_payload.Goals as goal

pub returns-in-Validity-clause-place : goal.returns-in-Validity-clause-place
returns-in-Validity-clause-place c = sym (ap place_of c.in-Validity.is ∙ validity_place_24)

pub returns-in-User-clause-place : goal.returns-in-User-clause-place
returns-in-User-clause-place c = sym (ap place_of c.in-User.is ∙ user_place_25)

pub returns-in-Status-clause-place : goal.returns-in-Status-clause-place
returns-in-Status-clause-place c = sym (ap place_of c.in-Status.is ∙ status_place_26)
