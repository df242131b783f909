use Rattle.std.proofs.Common.{◌≡◌, rules}
use Rattle.std.proofs.lemmas.Result.{err_from_is_err_and}
use Rattle.aes3_cell.specs.Written.{bytes_of}
use Rattle.aes3_capture_recovery.specs.Endings.{finished}
use Rattle.aes3_input.proofs.InputRuns.{run-told}
use Rattle.aes3_input.proofs.CellRuns.{drove-ok, drove-err}
use Rattle.aes3_spoil.specs.Spoiled.{spoiled}
use Rattle.aes3_spoil.specs.Spoiling.{spoil_counts, whole_words}
use Rattle.aes3_spoil.proofs.Writings.{before-words, counted, with-all}
use Rattle.aes3_spoil.proofs.spoiling.spoil.Goals as goal

pub returns-clause-run : goal.returns-clause-run
returns-clause-run g c =
    let o = c.args.output in
    let e = c.args.errors.now in
    let k = c.new-taker.ensures in
    let same : c.new-taker.result.errors ≡ e = search (rules, k.errors) in
    drove-ok (λ d. finished o (spoiled e d)) (λ d. bytes_of o (whole_words (spoiled e d))) (spoil_counts c.args.input)
    (record { bytes = c.in_ok-bytes.bytes; cells = c.in_ok-bytes.cells; blocks = 0; faults = 0; unfinished = 0; marks = 0 })
    (rw (k.form, same) (with-all o e)) (rw (k.form, same) (before-words o e))
    (λ b p q h. counted c.args.input b c.in_ok-bytes.bytes c.in_ok-bytes.cells p q)
    c.in_ok-bytes.ensures

pub returns-clause-cells : goal.returns-clause-cells
returns-clause-cells g c = λ b t. (run-told (returns-clause-run g c) b t).4

pub returns-in_err-bytes-clause-run : goal.returns-in_err-bytes-clause-run
returns-in_err-bytes-clause-run g c =
    let o = c.args.output in
    let e = c.args.errors.now in
    let k = c.new-taker.ensures in
    let same : c.new-taker.result.errors ≡ e = search (rules, k.errors) in
    let p = err_from_is_err_and c.from_residual.result c.from_residual.ensures.1 in
    rw (p.1, p.2) (drove-err (λ d. finished o (spoiled e d)) (λ d. bytes_of o (whole_words (spoiled e d)))
    (spoil_counts c.args.input) (rw (k.form, same) (with-all o e)) (rw (k.form, same) (before-words o e))
    c.in_err-bytes.ensures)
