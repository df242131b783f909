use Rattle.aes3_cell.proofs.FedLists.{text-put, packed-put}
use Rattle.aes3_cell.proofs.laws.cells_put_one_by_one.Goals as goal

pub returns : goal.returns
returns c = λ cells. (text-put cells, packed-put cells)
