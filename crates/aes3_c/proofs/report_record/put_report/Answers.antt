use Rattle.std.proofs.Common.{map}
use Rattle.aes3_slot.specs.ReadWords.{read_words}
use Rattle.aes3_frame.specs.Files.{payload_of}
use Rattle.aes3_lock.specs.Outcomes.{payloads_of}
use Rattle.aes3_c.proofs.Told.{coded-words, told-without}
use Rattle.aes3_c.proofs.report_record.put_report.Goals as goal

pub returns-then-out-eq1-clause-codes : goal.returns-then-out-eq1-clause-codes
returns-then-out-eq1-clause-codes c =
    coded-words _ c.put_ending.new.out c.put_block.new.words
    (c.put_ending.ensures.codes (read_words c.args.cells.now))

pub returns-else-out-eq1-clause-told : goal.returns-else-out-eq1-clause-told
returns-else-out-eq1-clause-told c =
    let out = c.put_ending.new.out in
    let slots = read_words c.args.cells.now in
    told-without out (payloads_of slots) (map payload_of out.words) _ c.if-out-eq1.false
    (c.put_ending.ensures.told slots)

pub returns-else-out-eq1-clause-codes : goal.returns-else-out-eq1-clause-codes
returns-else-out-eq1-clause-codes c = c.put_ending.ensures.codes (read_words c.args.cells.now)
