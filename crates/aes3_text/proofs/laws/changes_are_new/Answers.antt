use Rattle.aes3_text.proofs.NewLines.{changes-new, lines-of-each}
use Rattle.aes3_text.proofs.laws.changes_are_new.Goals as goal

pub returns : goal.returns
returns c = record { each = lines-of-each; new = changes-new }
