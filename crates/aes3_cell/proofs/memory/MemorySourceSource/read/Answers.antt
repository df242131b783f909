use Rattle.std.proofs.Common.{◌∙◌, arith, drop, length, rules}
use Rattle.std.proofs.lemmas.List.{length-take-le}
use Rattle.aes3_cell.proofs.Growing.{grew-take}
use Rattle.aes3_cell.proofs.memory.MemorySourceSource.read.Goals as goal

pub returns-clause-bytes : goal.returns-clause-bytes
returns-clause-bytes c =
    search (
      rules,
      grew-take c.args.self.now.bytes.now c.args.self.now.at c.smallest-n.result
          c.copy_from_slice.new.self (drop (length c.copy_from_slice.new.self) c.args.buf.now)
          (c.copy_from_slice.ensures.after) (c.copy_from_slice.ensures.len ∙ length-take-le _ _ (omega arith)),
    )
