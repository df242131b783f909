-- Calls on a sink that never fails.
use Rattle.std.proofs.Common.{◌≡◌, ◌+◌, IfOk, OnErr, Result, Ok, Err, arith}

-- a call that would have told a fault, had there been one
pub ok-unless : {R E : Type 0} {P : Type 0} (result : Result R E) → OnErr result (0 ≡ 0 + 1) → IfOk result (λ x. P) → P
ok-unless (Ok v) none is = is
ok-unless (Err e) none is = absurd (omega (arith, none))
