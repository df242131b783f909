use Rattle.std.proofs.Common.{sym}
use Rattle.aes3_cell.specs.declared.form.Form.TheVariants.{Text}
use Rattle.aes3_cell.proofs.WrittenForms.{bytes-nothing}
use Rattle.aes3_cell.proofs.word.fill_lines.Goals as goal

pub loop-i-init : goal.loop-i-init
loop-i-init c = record { lines = sym (bytes-nothing Text) }
