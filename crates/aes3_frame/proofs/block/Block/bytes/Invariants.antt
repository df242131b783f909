use Rattle.std.proofs.Common.{◌≡◌, take, length}
use Rattle.aes3_frame.specs.Statuses.{place_of, bits_at, bytes_in}
use Rattle.aes3_frame.proofs.block.Block.bytes.Given as goal

abbrev pub invariant-loop-k : goal.invariant-loop-k
invariant-loop-k l = record {
  bytes : take l.k l.bytes ≡ bytes_in l.k (bits_at (place_of l.bit) l.self l.channel);
  len : length l.bytes ≡ 24;
}
