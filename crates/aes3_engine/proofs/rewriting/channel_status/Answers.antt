use Rattle.aes3_engine.proofs.ChangedStatus.{block-of-words}
use Rattle.aes3_engine.proofs.rewriting.channel_status.Goals as goal

pub returns-clause-whole : goal.returns-clause-whole
returns-clause-whole c = block-of-words _ _ c.words-words.ensures.count c.words-words.ensures.payloads
