use Rattle.std.proofs.Common.{[], refl, rules, sym}
use Rattle.std.proofs.lemmas.Result.{err_from_is_err_and}
use Rattle.aes3_input.proofs.InputRuns.{run-ok, run-err}
use Rattle.aes3_engine.proofs.WordRuns.{starts-words, whole-file, words-gives}
use Rattle.aes3_engine.proofs.word_encoding.encode_other.Goals as goal

pub convert-requires-clause-start : goal.convert-requires-clause-start
convert-requires-clause-start g c =
    search (
      rules,
      starts-words c.args.words c.new-file.result c.new-file.ensures.seen c.new-file.ensures.words
          c.new-file.ensures.bytes c.new-file.ensures.open [] refl,
    )

pub returns : goal.returns
returns g c =
    run-ok (words-gives c.args.words c.args.output _)
    (λ b i h. (
      c.answer_of.ensures.counts b (sym h.1),
      c.answer_of.ensures.left_out c.args.words b (sym h.1)
          (whole-file c.args.words c.args.output b i.clean i.end_clean),
    ))
    c.in_ok-bytes.ensures.run.run

pub returns-in_err-bytes : goal.returns-in_err-bytes
returns-in_err-bytes g c =
    let error = err_from_is_err_and c.from_residual.result c.from_residual.ensures.1 in
    rw (error.1, error.2) (run-err (words-gives c.args.words c.args.output _) c.in_err-bytes.ensures.run.run)
