use Rattle.std.proofs.Common.{arith}
use Rattle.aes3_engine.proofs.WordRuns.{left-out-is, words-counted}
use Rattle.aes3_engine.proofs.word_encoding.answer_of.Goals as goal

pub returns-clause-counts : goal.returns-clause-counts
returns-clause-counts c = λ b e. words-counted b c.args.bytes e

pub returns-clause-left_out : goal.returns-clause-left_out
returns-clause-left_out c = λ form b e file. omega (arith, left-out-is form b c.args.bytes e file)
