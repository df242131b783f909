use Rattle.std.proofs.Common.{take, ap, arith}
use Rattle.aes3_spoil.specs.Errors.{errors_of}
use Rattle.aes3_spoil.proofs.errors.Errors.set_every.Goals as goal

pub returns-clause-list : goal.returns-clause-list
unfolding errors_of
returns-clause-list c = ap (λ n. take n c.args.self.now.list) (omega arith)
