use Rattle.std.proofs.Common.{◌≡◌, ◌*◌, ◌<◌, ℕ, drop, get_or, length, take, true}
use Rattle.std.specs.List.{flat_map}
use Rattle.aes3_frame.specs.Files.{blocks_in, is_lawful}
use Rattle.aes3_c.specs.Blocks.{AreBlocks, form_len, octets_in}
use Rattle.aes3_c.proofs.blocks.put_blocks.Given as goal

abbrev pub invariant-loop-i : goal.invariant-loop-i
invariant-loop-i l = record {
  len : length l.octets ≡ length l.fn.octets;
  at : l.at ≡ form_len l.form * l.i;
  right : (k : ℕ) → k < 384 * l.i → is_lawful (get_or l.words k 0) ≡ true;
  all : take (form_len l.form * l.i) l.octets ≡ flat_map (octets_in l.form) (blocks_in l.i l.words);
  each : AreBlocks l.form l.words l.i l.octets;
  others : drop (form_len l.form * l.i) l.octets ≡ drop (form_len l.form * l.i) l.fn.octets;
}
