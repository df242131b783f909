use Rattle.std.proofs.Common.{rules}
use Rattle.aes3_input.proofs.InputRuns.{run-wrote}
use Rattle.aes3_text.proofs.showing.show_changes.Goals as goal

pub returns-clause-lines : goal.returns-clause-lines
returns-clause-lines g c = search (rules, run-wrote c.show_lines.result c.show_lines.ensures)
