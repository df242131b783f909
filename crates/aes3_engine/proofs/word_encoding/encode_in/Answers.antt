use Rattle.std.proofs.Common.{arith, rules}
use Rattle.std.proofs.lemmas.Result.{err_from_is_err_and}
use Rattle.aes3_input.proofs.InputRuns.{run-ok, run-err}
use Rattle.aes3_engine.proofs.WordRuns.{none-left-out, own-gives}
use Rattle.aes3_engine.proofs.WordsBack.{words-is}
use Rattle.aes3_engine.proofs.word_encoding.encode_in.Goals as goal

pub returns-in_ok-counts-in-Own : goal.returns-in_ok-counts-in-Own
returns-in_ok-counts-in-Own g c =
    words-is c.args.output c.in-Own.is
    (run-ok (own-gives c.args.output) (λ b i h. (h, omega (arith, none-left-out b))) c.in_ok-counts-in-Own.ensures.run)

pub returns-in_err-counts-in-Own : goal.returns-in_err-counts-in-Own
returns-in_err-counts-in-Own g c =
    let error = err_from_is_err_and c.from_residual.result c.from_residual.ensures.1 in
    rw (error.1, error.2)
    (words-is c.args.output c.in-Own.is (run-err (own-gives c.args.output) c.in_err-counts-in-Own.ensures.run))

pub returns-in-Alsa : goal.returns-in-Alsa
returns-in-Alsa g c =
    words-is c.args.output c.in-Alsa.is (search (rules, c.encode_other.ensures))

pub returns-in-Am824 : goal.returns-in-Am824
returns-in-Am824 g c =
    words-is c.args.output c.in-Am824.is (search (rules, c.encode_other-in-Am824.ensures))
