use Rattle.std.proofs.Common.{◌≡◌, ◌≤◌, take}
use Rattle.aes3_spoil.specs.Errors.{listed}
use Rattle.aes3_spoil.proofs.errors.Errors.count.Given as goal

abbrev pub invariant-loop-error : goal.invariant-loop-error
invariant-loop-error l = record {
  count : l.count ≡ listed l.kind l.place (take l.error-index l.error-items);
  few : l.count ≤ l.error-index;
}
