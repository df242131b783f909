use Rattle.aes3_capture_recovery.proofs.WordBits.{line-end}
use Rattle.aes3_capture_recovery.proofs.queue.last_line_of.Goals as goal

pub returns : goal.returns
returns c = line-end c.args.len c.args.word _ c.requires.few c.line_of_word-line.ensures
