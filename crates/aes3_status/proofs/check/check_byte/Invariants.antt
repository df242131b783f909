use Rattle.std.proofs.Common.{◌≡◌, ◌<◌, take}
use Rattle.aes3_status.specs.Bits.{status_bits}
use Rattle.aes3_status.specs.Register.{polynomial, after_bits}
use Rattle.aes3_status.proofs.check.check_byte.Given as goal

abbrev pub invariant-loop-byte : goal.invariant-loop-byte
invariant-loop-byte l = record {
  fits : l.register < 256;
  shifted : polynomial l.register ≡ after_bits 255 (status_bits (take l.byte-index l.byte-items));
}
