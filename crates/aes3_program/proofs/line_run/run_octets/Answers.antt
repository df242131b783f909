use Rattle.std.proofs.Common.{◌≡◌, ◌∙◌, ap, rules, subst, sym}
use Rattle.aes3_cell_octets.proofs.Ends.{same-reversed}
use Rattle.aes3_program.proofs.line_run.run_octets.Goals as goal

pub returns-then-writes_packed : goal.returns-then-writes_packed
returns-then-writes_packed g c =
    let ran = c.run_source-ran.ensures in
    let is = c.into_sink.ensures in record {
      ran = search (rules, ran.ran);
      passed_on = λ h. subst (λ s. g.T.Sink.passed s ≡ g.T.Sink.taken s) (sym is)
          (same-reversed _ _ (ran.passed_on (ap g.T.Sink.failed (sym is) ∙ h ∙ ap g.T.Sink.failed (sym c.new.ensures))));
      aside = ran.aside;
    }
