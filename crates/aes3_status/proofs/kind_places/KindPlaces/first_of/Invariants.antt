use Rattle.std.proofs.Common.{◌≡◌, List}
use Rattle.aes3_status.specs.KindPlaces.{AreFirstsOf, Met, Rising, first_met}
use Rattle.aes3_status.proofs.FirstPlaces.{below}
use Rattle.aes3_status.proofs.kind_places.KindPlaces.first_of.Given as goal

abbrev pub invariant-loop-kind : goal.invariant-loop-kind
invariant-loop-kind l =
    (met : List Met) → Rising (λ (x : Met). x.place) 0 met → AreFirstsOf l.self met
    → l.first ≡ first_met (below l.kinds l.kind) met
