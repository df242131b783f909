use Rattle.aes3_cell.proofs.Writing.{wrote-is}
use Rattle.aes3_block.proofs.file_out.put_block_file.Goals as goal

pub returns : goal.returns
returns g c = wrote-is c.bytes_of_block.ensures c.write_all.ensures
