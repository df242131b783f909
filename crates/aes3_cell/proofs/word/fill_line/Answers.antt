use Rattle.std.proofs.Common.{arith, ap, ◌∙◌, ◌≡◌, ◌+◌, ◌*◌, ◌-◌, get_or, length}
use Rattle.aes3_cell.specs.declared.form.Form.TheVariants.{Text}
use Rattle.aes3_cell.proofs.ManyWords.{put-more, line-bytes, length-line}
use Rattle.aes3_cell.proofs.word.fill_line.Goals as goal

pub returns : goal.returns
returns c =
    let i = c.args.i in
    let ys = c.put_line.new.line in
    let size : length ys ≡ 65 = ap length (c.put_line.ensures) ∙ length-line (get_or c.args.words.now i 0) in
    let len = c.requires.room in
    let told = c.told-words in
    put-more Text c.args.words.now c.args.text.now ys i (65 * i) (65 * (i + 1)) (65 * i + 65 - 65 * i)
    (omega (arith, told)) (omega (arith, size)) (omega (arith, len))
    c.requires.before (c.put_line.ensures ∙ line-bytes (get_or c.args.words.now i 0))
