use Rattle.std.proofs.Common.{rules}
use Rattle.aes3_input.proofs.InputRuns.{run-wrote}
use Rattle.aes3_engine.proofs.reading.decode.Goals as goal

pub returns-clause-file : goal.returns-clause-file
returns-clause-file g c = search (rules, run-wrote c.decode_words.result c.decode_words.ensures.run)
