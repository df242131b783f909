use Rattle.std.proofs.Common.{rules}
use Rattle.aes3_text.proofs.StatusFlips.{exchanged-status}
use Rattle.aes3_text.proofs.laws.changed_status_is_found.Goals as goal

pub returns : goal.returns
returns c = search (rules, exchanged-status)
