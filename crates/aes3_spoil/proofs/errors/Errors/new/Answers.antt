use Rattle.std.proofs.Common.{rules}
use Rattle.aes3_spoil.specs.Errors.{errors_of}
use Rattle.aes3_spoil.proofs.errors.Errors.new.Goals as goal

pub returns-clause-none : goal.returns-clause-none
unfolding errors_of
returns-clause-none c = search rules
