use Rattle.std.proofs.Common.{◌*◌, ◌∙◌, ap, arith, length, take, length-drop, sym}
use Rattle.std.proofs.lemmas.Slice.{between_to_end}
use Rattle.aes3_cell.specs.declared.form.Form.TheVariants.{Text}
use Rattle.aes3_cell.proofs.ManyWords.{lines-more}
use Rattle.aes3_cell.proofs.WrittenForms.{bytes-nothing}
use Rattle.aes3_cell.proofs.cell_text.words_of_lines.Goals as goal

pub loop-i-init : goal.loop-i-init
loop-i-init c = record { within = omega arith; lines = sym (bytes-nothing Text) }

pub loop-i-preserved : goal.loop-i-preserved
loop-i-preserved c = record {
  within = let b = c.in-Some.ensures.bound in let l = length-drop (65 * c.loop-i.i) c.args.text.now in omega
      (arith, b, l);
  lines = lines-more c.loop-i.words c.args.text.now c.loop-i.i c.in-Some.word (omega arith) c.loop-i.invariant.lines
      (ap (take 65) (sym (between_to_end c.args.text.now (65 * c.loop-i.i) (length c.args.text.now) (omega arith)))
      ∙ c.in-Some.ensures.cells);
}

pub returns-in-None-clause-stops : goal.returns-in-None-clause-stops
returns-in-None-clause-stops c = λ _ word fits same.
    let rest = between_to_end c.args.text.now (65 * c.loop-i.i) (length c.args.text.now) (omega arith) in
    let e = c.in-None.ensures.owed word fits (ap (take 65) rest ∙ same) in
    cc
