use Rattle.std.proofs.Common.{ap}
use Rattle.aes3_cell.specs.Written.{bytes_of}
use Rattle.aes3_cell.proofs.Writing.{wrote-is}
use Rattle.aes3_block.proofs.cells_out.put_block.Goals as goal

pub returns : goal.returns
returns g c = wrote-is (ap (bytes_of c.args.form) c.fill_block_cells.ensures) c.put_words.ensures
