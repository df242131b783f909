use Rattle.aes3_text.proofs.StatusChanges.{detail-behind, plain-changes, plain-lines}
use Rattle.aes3_text.proofs.laws.details_stand_behind.Goals as goal

pub returns : goal.returns
returns c = record { status = plain-lines; change = plain-changes; behind = detail-behind }
