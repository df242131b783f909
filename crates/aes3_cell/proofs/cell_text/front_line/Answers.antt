use Rattle.std.proofs.Common.{◌∙◌, sym, arith}
use Rattle.std.proofs.lemmas.Option.{IfSome_then}
use Rattle.aes3_cell.proofs.TextLines.{line-long, line-feed, line-cells, line-whole}
use Rattle.aes3_cell.proofs.cell_text.front_line.Goals as goal
use Rattle.aes3_cell.proofs.cell_text.front_line.Goals.{then-text-lt-LINE_LEN-via-then-text-lt-LINE_LEN}
use Rattle.aes3_cell.proofs.cell_text.front_line.Goals.{then-text-lt-LINE_LEN-via-else-text-lt-LINE_LEN+then-text-ne10}

pub returns-then-text-lt-LINE_LEN-clause-owed : goal.returns-then-text-lt-LINE_LEN-clause-owed
returns-then-text-lt-LINE_LEN-clause-owed c = λ w h e.
    let no : ⊥ = elim c.then-text-lt-LINE_LEN.branch [
      | then-text-lt-LINE_LEN-via-then-text-lt-LINE_LEN b ↦ let l = line-long c.args.text.now w e in
          let t = b.if-text-lt-LINE_LEN.true in omega (arith, l, t)
      | then-text-lt-LINE_LEN-via-else-text-lt-LINE_LEN+then-text-ne10 b ↦ b.if-text-ne10.true
          (line-feed c.args.text.now w e)
    ] in absurd no

pub returns-clause-cells : goal.returns-clause-cells
returns-clause-cells c =
    IfSome_then c.word_of_text.result c.word_of_text.ensures.cells
    (λ word e. line-whole c.args.text.now word (let l = c.if-text-lt-LINE_LEN.false in omega (arith, l))
    (sym c.in_ok-first_chunk.ensures.cases.same ∙ e) c.if-text-ne10.false)

pub returns-clause-owed : goal.returns-clause-owed
returns-clause-owed c = λ w h e. c.word_of_text.ensures.owed w h
    (c.in_ok-first_chunk.ensures.cases.same ∙ line-cells c.args.text.now w e)
