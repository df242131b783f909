use Rattle.std.proofs.Common.{◌≡◌}
use Rattle.aes3_status.specs.Taken.{taken_by}
use Rattle.aes3_status.proofs.TakenKinds.{examples}
use Rattle.aes3_status.proofs.taken.Kinds.taken_by.Given as goal

abbrev pub invariant-loop-kind : goal.invariant-loop-kind
invariant-loop-kind l = l.taken ≡ taken_by l.settings (examples l.self.met l.kind)
