use Rattle.std.proofs.lemmas.Nat.{one_shl}
use Rattle.aes3_capture_recovery.proofs.LaneBits.{lane-bits}
use Rattle.aes3_capture_recovery.proofs.edges.bits_of.Goals as goal

pub returns : goal.returns
returns c = λ i h. lane-bits c.args.octets.now c.args.bit _ i c.told-octets (one_shl c.args.bit 8 c.requires.within) h
