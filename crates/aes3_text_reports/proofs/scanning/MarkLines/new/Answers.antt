use Rattle.std.proofs.Common.{refl}
use Rattle.aes3_text_reports.proofs.Scans.{scan-starts}
use Rattle.aes3_text_reports.proofs.scanning.MarkLines.new.Goals as goal

pub returns-clause-scanned : goal.returns-clause-scanned
returns-clause-scanned c = scan-starts c.new.ensures refl
