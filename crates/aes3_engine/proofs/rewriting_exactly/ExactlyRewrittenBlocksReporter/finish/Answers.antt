use Rattle.aes3_cell.proofs.Writing.{wrote-is}
use Rattle.aes3_engine.proofs.RewritingExactly.{ends-is}
use Rattle.aes3_engine.proofs.rewriting_exactly.ExactlyRewrittenBlocksReporter.finish.Goals as goal

pub returns : goal.returns
returns g c = λ r h.
    wrote-is (ends-is c.args.self.now.output c.args.self.now.change r) c.put_ending.ensures
