use Rattle.std.proofs.Common.{refl}
use Rattle.aes3_cell.proofs.Growing.{grew-is, grew-none}
use Rattle.aes3_text.proofs.StatusChanges.{no-ends}
use Rattle.aes3_text.proofs.showing.StatusLinesReporter.finish.Goals as goal

pub returns : goal.returns
returns g c = λ r h. record {
  grew = grew-is (no-ends c.args.self.now.changes c.args.self.now.detail r) (grew-none refl);
  no_failure = refl;
  err = tt;
}
