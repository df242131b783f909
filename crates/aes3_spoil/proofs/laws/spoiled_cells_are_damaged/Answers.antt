use Rattle.aes3_spoil.proofs.Damaged.{changed-one, doubled-one, inverted-one, lost-one, none-same}
use Rattle.aes3_spoil.proofs.laws.spoiled_cells_are_damaged.Goals as goal

pub returns-clause-none : goal.returns-clause-none
returns-clause-none c = none-same

pub returns-clause-changed : goal.returns-clause-changed
returns-clause-changed c = changed-one

pub returns-clause-lost : goal.returns-clause-lost
returns-clause-lost c = lost-one

pub returns-clause-inverted : goal.returns-clause-inverted
returns-clause-inverted c = inverted-one

pub returns-clause-doubled : goal.returns-clause-doubled
returns-clause-doubled c = doubled-one
