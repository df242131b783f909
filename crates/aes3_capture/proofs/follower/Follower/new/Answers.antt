use Rattle.std.proofs.Common.{arith, refl}
use Rattle.aes3_capture.proofs.follower.Follower.new.Goals as goal

pub returns-clause-line : goal.returns-clause-line
returns-clause-line c = λ displaced.
    c.at.ensures.line displaced displaced displaced refl refl (record { below = omega arith; above = omega arith })
