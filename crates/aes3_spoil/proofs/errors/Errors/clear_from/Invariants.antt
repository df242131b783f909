use Rattle.std.proofs.Common.{◌+◌, take}
use Rattle.aes3_spoil.specs.Errors.{ClearOf, listed}
use Rattle.aes3_spoil.proofs.errors.Errors.clear_from.Given as goal

abbrev pub invariant-loop-error : goal.invariant-loop-error
invariant-loop-error l =
    ClearOf (λ kind i. listed kind i (take l.error-index l.error-items)) l.place (l.place + l.clear)
