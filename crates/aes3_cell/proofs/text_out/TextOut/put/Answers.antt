use Rattle.std.proofs.Common.{◌<◌, arith, refl, sym, ap, ◌∙◌, rules}
use Rattle.aes3_cell.proofs.Growing.{grew-none, grew-is}
use Rattle.aes3_cell.proofs.Writing.{wrote-is, ok-always}
use Rattle.aes3_cell.proofs.Lines.{put-short, put-begun, put-full, put-done}
use Rattle.aes3_cell.proofs.text_out.TextOut.put.Goals as goal

pub returns-then-self-lt-WORD_LEN-clause-wrote : goal.returns-then-self-lt-WORD_LEN-clause-wrote
returns-then-self-lt-WORD_LEN-clause-wrote g c =
    record {
      grew = grew-is (sym
          (put-short _ _ _ c.args.level (ap (λ v. v.cells) c.self.view_is) c.if-self-lt-WORD_LEN.true))
          (grew-none refl);
      no_failure = refl;
      err = tt;
    }

pub returns-then-self-lt-WORD_LEN-clause-begun : goal.returns-then-self-lt-WORD_LEN-clause-begun
returns-then-self-lt-WORD_LEN-clause-begun g c =
    c.with_cell-word.ensures.cells
    ∙ sym (put-begun _ _ _ c.args.level (ap (λ v. v.cells) c.self.view_is) c.if-self-lt-WORD_LEN.true)

pub returns-clause-wrote : goal.returns-clause-wrote
returns-clause-wrote g c =
    let i : c.self.inside.len < 64 = c.self.invariant.0 in
    wrote-is
    (c.line_of_word.ensures
    ∙ put-full _ _ c.self.inside.word _ c.args.level (ap (λ v. v.cells) c.self.view_is) (omega arith)
    c.with_cell-word.ensures.cells)
    c.write_all-wrote.ensures

pub returns-clause-begun : goal.returns-clause-begun
returns-clause-begun g c =
    let i : c.self.inside.len < 64 = c.self.invariant.0 in
    let cells = ap (λ v. v.cells) c.self.view_is in
    ok-always _ (sym (put-done _ c.self.inside.len c.self.inside.word c.args.level cells (omega arith)))

pub returns-clause-failed : goal.returns-clause-failed
returns-clause-failed g c = search rules
