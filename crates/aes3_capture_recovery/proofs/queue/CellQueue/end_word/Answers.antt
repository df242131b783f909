use Rattle.std.proofs.Common.{arith, refl}
use Rattle.aes3_level.specs.Words.{low_cells}
use Rattle.aes3_capture_recovery.proofs.Queueing.{written-puts, full-words}
use Rattle.aes3_capture_recovery.proofs.queue.CellQueue.end_word.Goals as goal

pub returns-else-self-lt-WORDS-clause-cells : goal.returns-else-self-lt-WORDS-clause-cells
returns-else-self-lt-WORDS-clause-cells g c = λ added e.
    let q = c.args.self.now in
    written-puts q _ c.put_words.result _ added refl
    (full-words q.words q.count c.args.word (low_cells q.len q.word) added (low_cells c.args.len c.args.rest)
    (omega arith) q.words_left c.if-self-lt-WORDS.false e)
    c.put_words.ensures
