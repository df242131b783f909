use Rattle.std.proofs.Common.{◌≡◌, ◌+◌, ◌*◌, take}
use Rattle.aes3_frame.specs.Statuses.{place_of, with_bits_at, bits_of_bytes}
use Rattle.aes3_frame.proofs.block.Block.set_bytes.Given as goal

abbrev pub invariant-loop-j : goal.invariant-loop-j
invariant-loop-j l = record {
  frames : l.self ≡ with_bits_at (place_of l.fn.bit) l.fn.channel l.fn.self (take (8 * l.k + l.j) (bits_of_bytes l.bytes));
}

abbrev pub invariant-loop-k : goal.invariant-loop-k
invariant-loop-k l = record
    { frames : l.self ≡ with_bits_at (place_of l.fn.bit) l.fn.channel l.fn.self (take (8 * l.k) (bits_of_bytes l.bytes)) }
