use Rattle.std.proofs.Common.{◌≡◌, rules}
use Rattle.std.proofs.lemmas.Result.{err_from_is_err_and}
use Rattle.aes3_cell.specs.declared.form.Form.TheVariants.{Text, Packed}
use Rattle.aes3_input.proofs.PackedRuns.{packed-starts, packed-ok, packed-err}
use Rattle.aes3_input.proofs.TextRuns.{starts, text-ok, text-err}
use Rattle.aes3_input.proofs.taker.drive.Goals as goal

pub convert-requires-clause-start : goal.convert-requires-clause-start
convert-requires-clause-start g c
    = starts (g.K.Taker.state c.args.taker.now).follows c.new-text.ensures.text c.new-text.ensures.cells
    c.requires.start

pub returns-in_err-bytes-in-Text : goal.returns-in_err-bytes-in-Text
returns-in_err-bytes-in-Text g c =
    let form : c.args.input ≡ Text = search rules in
    let error = err_from_is_err_and c.from_residual.result c.from_residual.ensures.1 in
    rw (form, error.1, error.2) (text-err (g.K.Taker.state c.args.taker.now)
    (g.K.Taker.state c.convert.new.taker) c.in_err-bytes-in-Text.ensures.run)

pub returns-in_ok-bytes-in-Text : goal.returns-in_ok-bytes-in-Text
returns-in_ok-bytes-in-Text g c =
    let form : c.args.input ≡ Text = search rules in
    rw form (text-ok (g.K.Taker.state c.args.taker.now)
    (g.K.Taker.state c.convert.new.taker) c.in_ok-bytes-in-Text.ensures.run)

pub convert-requires-in-Packed-clause-start : goal.convert-requires-in-Packed-clause-start
convert-requires-in-Packed-clause-start g c
    = packed-starts (g.K.Taker.state c.args.taker.now).follows
    c.new-packed.ensures.packed c.new-packed.ensures.cells c.requires.start

pub returns-in_err-bytes-in-Packed : goal.returns-in_err-bytes-in-Packed
returns-in_err-bytes-in-Packed g c =
    let form : c.args.input ≡ Packed = search rules in
    let error = err_from_is_err_and c.from_residual-in_err-bytes-in-Packed.result
    c.from_residual-in_err-bytes-in-Packed.ensures.1 in
    rw (form, error.1, error.2) (packed-err (g.K.Taker.state c.args.taker.now)
    (g.K.Taker.state c.convert-in-Packed.new.taker) c.in_err-bytes-in-Packed.ensures.run)

pub returns-in_ok-bytes-in-Packed : goal.returns-in_ok-bytes-in-Packed
returns-in_ok-bytes-in-Packed g c =
    let form : c.args.input ≡ Packed = search rules in
    rw form (packed-ok (g.K.Taker.state c.args.taker.now)
    (g.K.Taker.state c.convert-in-Packed.new.taker) c.in_ok-bytes-in-Packed.ensures.run)
