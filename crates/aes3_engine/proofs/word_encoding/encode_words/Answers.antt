use Rattle.aes3_engine.proofs.WordsBack.{decoded-back}
use Rattle.aes3_engine.proofs.word_encoding.encode_words.Goals as goal

pub returns-clause-decoded : goal.returns-clause-decoded
returns-clause-decoded g c = decoded-back c.args.words c.args.output c.encode_in.result c.encode_in.ensures
