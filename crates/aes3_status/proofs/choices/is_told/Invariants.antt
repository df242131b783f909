use Rattle.std.proofs.Common.{◌≡◌, false}
use Rattle.std.specs.List.{list_any}
use Rattle.aes3_status.specs.Choices.{below, is_printed}
use Rattle.aes3_status.proofs.choices.is_told.Given as goal

abbrev pub invariant-loop-lower : goal.invariant-loop-lower
invariant-loop-lower l = list_any (is_printed l.line l.field) (below l.lower) ≡ false
