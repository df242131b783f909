use Rattle.std.proofs.Common.{[], refl}
use Rattle.aes3_cell.proofs.Growing.{grew-is, grew-none}
use Rattle.aes3_lock_runs.proofs.ReportLemmas.{ends-is}
use Rattle.aes3_text_reports.specs.Lines.{told_line}
use Rattle.aes3_text.proofs.checking.ReportLinesReporter.finish.Goals as goal

pub returns : goal.returns
returns g c = λ r h. record {
  grew = grew-is (ends-is (λ _. told_line c.args.self.now.lines) [] r) (grew-none refl);
  no_failure = refl;
  err = tt;
}
