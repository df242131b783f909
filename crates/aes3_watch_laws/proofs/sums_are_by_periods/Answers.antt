use Rattle.aes3_watch_laws.proofs.PeriodSums.{sums-by-periods}
use Rattle.aes3_watch_laws.proofs.sums_are_by_periods.Goals as goal

pub returns : goal.returns
returns c = sums-by-periods
