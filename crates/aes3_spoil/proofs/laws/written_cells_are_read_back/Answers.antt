use Rattle.aes3_spoil.proofs.ReadBack.{read-back}
use Rattle.aes3_spoil.proofs.laws.written_cells_are_read_back.Goals as goal

pub returns : goal.returns
returns c = read-back
