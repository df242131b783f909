use Rattle.std.proofs.Common.{arith, ap}
use Rattle.aes3_slot.specs.ReadWords.{read_words}
use Rattle.aes3_lock.specs.Reports.{ending_report}
use Rattle.aes3_lock.proofs.Tallies.{tallies-few, push-whole, push-marked, push-fault, push-unfinished}
use Rattle.aes3_lock.proofs.tally.Tally.count.Goals as goal

pub overflow_add-self : goal.overflow_add-self
overflow_add-self c = let h = c.requires in let l = h.1 in let f = (tallies-few h.2).few_blocks in omega arith

pub overflow_add-self-in-Marked : goal.overflow_add-self-in-Marked
overflow_add-self-in-Marked c = let h = c.requires in let l = h.1 in let f = (tallies-few h.2).few_faults in omega arith

pub overflow_add-self-in-Fault : goal.overflow_add-self-in-Fault
overflow_add-self-in-Fault c = let h = c.requires in let l = h.1 in let f = (tallies-few h.2).few_faults in omega arith

pub overflow_add-self-in-Unfinished : goal.overflow_add-self-in-Unfinished
overflow_add-self-in-Unfinished c = let h = c.requires in let l = h.1 in
    let f = (tallies-few h.2).few_unfinished in omega arith

pub returns-in-Whole : goal.returns-in-Whole
returns-in-Whole c = λ r h. push-whole _ (ap (ending_report (read_words c.args.lock.now.words)) c.in-Whole.is) h

pub returns-in-Marked : goal.returns-in-Marked
returns-in-Marked c = λ r h. push-marked _ (ap (ending_report (read_words c.args.lock.now.words)) c.in-Marked.is) h

pub returns-in-Fault : goal.returns-in-Fault
returns-in-Fault c = λ r h. push-fault _ (ap (ending_report (read_words c.args.lock.now.words)) c.in-Fault.is) h

pub returns-in-Unfinished : goal.returns-in-Unfinished
returns-in-Unfinished c =
    λ r h. push-unfinished _ (ap (ending_report (read_words c.args.lock.now.words)) c.in-Unfinished.is) h
