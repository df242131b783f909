use Rattle.std.proofs.Common.{◌≡◌}
use Rattle.aes3_capture_places.proofs.placing.Capture.find.Given as goal

abbrev pub invariant-pieces : goal.invariant-pieces
invariant-pieces g l = g.S.Source.failed l.samples ≡ g.S.Source.failed l.fn.samples
