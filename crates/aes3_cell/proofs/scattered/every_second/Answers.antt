use Rattle.std.proofs.Common.{rules}
use Rattle.aes3_cell.proofs.SecondCells.{from-first}
use Rattle.aes3_cell.proofs.scattered.every_second.Goals as goal

pub returns : goal.returns
returns c = search (rules, from-first c.even_bits.result c.args.levels c.even_bits.ensures.bits)
