use Rattle.aes3_watch_laws.proofs.SumEvents.{begun-stay, events-stay}
use Rattle.aes3_watch_laws.proofs.sums_leave_events.Goals as goal

pub returns-clause-all : goal.returns-clause-all
returns-clause-all c = events-stay

pub returns-clause-begun : goal.returns-clause-begun
returns-clause-begun c = begun-stay
