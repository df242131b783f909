use Rattle.std.proofs.Common.{refl}
use Rattle.aes3_cell.proofs.Growing.{grew-none, grew-is}
use Rattle.aes3_text_reports.proofs.Scans.{ends-lines}
use Rattle.aes3_text_reports.proofs.scanning.MarkLinesTaker.finish.Goals as goal

pub returns-clause-grew : goal.returns-clause-grew
returns-clause-grew g c = λ d h. grew-is (ends-lines d) (grew-none refl)
