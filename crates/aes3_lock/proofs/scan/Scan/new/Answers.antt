use Rattle.std.proofs.Common.{refl, sym}
use Rattle.aes3_lock.proofs.LastEight.{last_eight-nil}
use Rattle.aes3_lock.proofs.Scanning.{scan-nil}
use Rattle.aes3_lock.proofs.scan.Scan.new.Goals as goal

pub returns : goal.returns
returns c = scan-nil _ refl (sym last_eight-nil)
