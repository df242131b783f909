use Rattle.aes3_watch_laws.proofs.PeriodTotals.{all-blocks, all-cells, causes, periods-add-up}
use Rattle.aes3_watch_laws.proofs.sums_add_up.Goals as goal

pub returns : goal.returns
returns c = record { all = periods-add-up; blocks = all-blocks; cells = all-cells; faults = causes }
