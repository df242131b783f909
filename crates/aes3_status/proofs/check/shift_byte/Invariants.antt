use Rattle.std.proofs.Common.{◌≡◌, take}
use Rattle.aes3_status.specs.Bits.{byte_bits}
use Rattle.aes3_status.specs.Register.{polynomial, after_bits}
use Rattle.aes3_status.proofs.check.shift_byte.Given as goal

abbrev pub invariant-loop-place : goal.invariant-loop-place
invariant-loop-place l = polynomial l.register ≡ after_bits (polynomial l.fn.register) (take l.place (byte_bits l.byte))
