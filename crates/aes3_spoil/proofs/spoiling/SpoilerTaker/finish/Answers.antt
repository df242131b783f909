use Rattle.aes3_spoil.proofs.Taking.{ends-front, ends-grew}
use Rattle.aes3_spoil.proofs.spoiling.SpoilerTaker.finish.Goals as goal

pub returns-clause-grew : goal.returns-clause-grew
returns-clause-grew g c = ends-grew c.args.self.now c.finish.result c.finish.ensures

pub returns-clause-err_grew : goal.returns-clause-err_grew
returns-clause-err_grew g c = ends-front c.args.self.now c.finish.result c.finish.ensures
