use Rattle.std.proofs.Common.{◌≡◌, ◌≤◌, ◌*◌, take}
use Rattle.aes3_frame.specs.Ones.{ones_in}
use Rattle.aes3_frame.proofs.block.ones_in.Given as goal

abbrev pub invariant-loop-byte : goal.invariant-loop-byte
invariant-loop-byte l = record {
  sum : l.found ≡ ones_in (take l.byte-index l.bytes);
  few : l.found ≤ 256 * l.byte-index;
}
