use Rattle.aes3_watch_laws.proofs.LockedLines.{locks-once, piece-stays, row-stays}
use Rattle.aes3_watch_laws.proofs.lawful_lines_stay_locked.Goals as goal

pub returns : goal.returns
returns c = record { once = locks-once; row = row-stays; piece = piece-stays }
