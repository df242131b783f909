use Rattle.std.proofs.Common.{◌≡◌, ◌*◌, take, drop}
use Rattle.aes3_bits.specs.Bits.{number}
use Rattle.aes3_frame.specs.Statuses.{place_of, bits_at}
use Rattle.aes3_frame.proofs.block.Block.byte.Given as goal

abbrev pub invariant-loop-j : goal.invariant-loop-j
invariant-loop-j l = record
    { byte : l.byte ≡ number (take l.j (drop (8 * l.k) (bits_at (place_of l.bit) l.self l.channel))) }
