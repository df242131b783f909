use Rattle.aes3_spoil.proofs.Refuting.{fault-told, lost-given, preamble-untold, changed-given}
use Rattle.aes3_spoil.proofs.laws.one_error_is_told.Goals as goal

pub returns-clause-fault : goal.returns-clause-fault
returns-clause-fault c = fault-told

pub returns-clause-preamble : goal.returns-clause-preamble
returns-clause-preamble c = preamble-untold

pub returns-clause-changed : goal.returns-clause-changed
returns-clause-changed c = changed-given

pub returns-clause-lost : goal.returns-clause-lost
returns-clause-lost c = lost-given
