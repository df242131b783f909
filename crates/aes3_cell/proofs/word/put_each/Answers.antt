use Rattle.std.proofs.Common.{◌+◌, ◌∙◌, sym, ap, refl, arith, drop}
use Rattle.std.specs.List.{flat_map}
use Rattle.std.proofs.lemmas.Result.{err_from_is_err_and}
use Rattle.aes3_level.specs.Words.{word_cells}
use Rattle.aes3_cell.specs.Written.{bytes_of}
use Rattle.aes3_cell.proofs.Growing.{grew-none, grew-join, grew-is, front-is, front-join, front-more}
use Rattle.aes3_cell.proofs.ManyWords.{bytes-words, bytes-split}
use Rattle.aes3_cell.proofs.WrittenForms.{bytes-nothing}
use Rattle.aes3_cell.proofs.word.put_each.Goals as goal

pub loop-word-init : goal.loop-word-init
loop-word-init g c = record { grew = grew-is (sym (bytes-nothing c.args.form)) (grew-none refl); quiet = refl }

pub loop-word-preserved : goal.loop-word-preserved
loop-word-preserved g c = record {
  grew = grew-is (bytes-words c.args.form c.args.words.now c.loop-word.word-index c.loop-word-test.true)
      (grew-join c.loop-word.invariant.grew c.in_ok-put_word.ensures.grew);
  quiet = c.in_ok-put_word.ensures.no_failure ∙ c.loop-word.invariant.quiet;
}

pub returns-in_err-put_word : goal.returns-in_err-put_word
returns-in_err-put_word g c =
    let words = c.args.words.now in
    let i = c.loop-word.word-index in
    let error = err_from_is_err_and c.from_residual.result c.from_residual.ensures.1 in
    rw error.1 (record {
      grew = tt;
      no_failure = tt;
      err = (
        c.in_err-put_word.ensures.err.0 ∙ ap (λ n. n + 1) c.loop-word.invariant.quiet,
        front-is (bytes-split c.args.form words (i + 1) (omega arith))
            (front-more (front-is (bytes-words c.args.form words i c.loop-word-test.true)
            (front-join c.loop-word.invariant.grew c.in_err-put_word.ensures.err.1))
            (bytes_of c.args.form (flat_map word_cells (drop (i + 1) words)))),
      );
    })
