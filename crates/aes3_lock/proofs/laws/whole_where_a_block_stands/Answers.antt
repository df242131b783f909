use Rattle.std.specs.Prelude.{map}
use Rattle.aes3_slot.specs.Slots.{with_parity}
use Rattle.aes3_lock.proofs.StandingBlocks.{block-stands, standing-begins, standing-entry, standing-whole}
use Rattle.aes3_lock.proofs.StandingBlocks.{whole-standing}
use Rattle.aes3_lock.proofs.laws.whole_where_a_block_stands.Goals as goal

pub returns : goal.returns
returns c = record {
  whole = λ b s c. (
    λ h. whole-standing b s c h.1,
    λ h. (standing-begins (map with_parity b) s c (block-stands b s c h), standing-whole b s c h),
  );
  level = λ b s c h. standing-entry (map with_parity b) s c (block-stands b s c h);
}
