use Rattle.std.proofs.Common.{refl}
use Rattle.aes3_capture_recovery.proofs.Awaiting.{awaits-new}
use Rattle.aes3_capture_recovery.proofs.Beginning.{not-both}
use Rattle.aes3_capture_recovery.proofs.recovery.Recovery.new.Goals as goal

pub returns-in-None-clause-awaits : goal.returns-in-None-clause-awaits
returns-in-None-clause-awaits c = λ setting form known none.
    let made = c.with_follower-in-None in
    awaits-new _ setting made.result
    (made.ensures.recovered setting form known (λ found. absurd (not-both _ found refl)))
    made.ensures.found made.ensures.none.0 made.ensures.none.1
