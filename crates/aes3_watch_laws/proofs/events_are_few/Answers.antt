use Rattle.aes3_watch_laws.proofs.FewEvents.{cells-few, events-few}
use Rattle.aes3_watch_laws.proofs.events_are_few.Goals as goal

pub returns : goal.returns
returns c = record { blocks = events-few; cells = cells-few }
