-- What changed cells that leave a block do to its channel status.
use Rattle.std.specs.Prelude.{ℕ, suc, List, Bool, true, ◌≡◌, ◌≢◌, ◌<◌}
use Rattle.aes3_frame.specs.declared.block.Channel.{Channel}
use Rattle.aes3_frame.specs.Blocks.{block_len, IsBlock}
use Rattle.aes3_frame.specs.Statuses.{status_of}
use Rattle.aes3_status.specs.declared.check.Check.TheVariants.{Good}
use Rattle.aes3_status.specs.Check.{check_state_of}
use Rattle.aes3_lock.specs.Damage.{between_slots, exchanged}

-- a channel status whose check is good, and that two changed cells between two slots change, isn't good
abbrev pub ExchangedStatusIsFound : Type 0
ExchangedStatusIsFound =
    (b : List (List Bool)) (x : ℕ) (channel : Channel) → IsBlock b → suc x < block_len → between_slots x ≡ true
    → check_state_of (status_of b channel) ≡ Good → status_of (exchanged x b) channel ≢ status_of b channel
    → check_state_of (status_of (exchanged x b) channel) ≢ Good
