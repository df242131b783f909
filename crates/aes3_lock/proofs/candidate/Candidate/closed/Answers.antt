use Rattle.aes3_slot.specs.ReadWords.{read_words}
use Rattle.aes3_lock.proofs.Codes.{block-whole}
use Rattle.aes3_lock.proofs.candidate.Candidate.closed.Goals as goal

pub returns-then-wrong-eq0 : goal.returns-then-wrong-eq0
returns-then-wrong-eq0 c =
    block-whole c.args.self.at c.args.self.before
    (read_words c.args.words.now) c.wrong_parities-wrong.result c.wrong_parities-wrong.ensures c.if-wrong-eq0.true
