use Rattle.std.proofs.Common.{rules}
use Rattle.aes3_cell.proofs.ScatteredText.{separators-at}
use Rattle.aes3_cell.proofs.scattered.separators_of.Goals as goal

pub returns : goal.returns
returns c = search (rules, separators-at c.args.bytes.now c.told-bytes)
