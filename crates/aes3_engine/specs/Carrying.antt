-- The bits that subframes carry behind their audio, as octets.
use Rattle.std.specs.Prelude.{ℕ, List, Bool, Option, Some, None, ◌≡◌, ◌≢◌}
use Rattle.std.specs.List.{flat_map, All}
use Rattle.aes3_cell.specs.declared.form.Form.{Form}
use Rattle.aes3_frame.specs.declared.block.Channel.{Channel}
use Rattle.aes3_frame.specs.declared.block.Channel.TheVariants.{First, Second}
use Rattle.aes3_frame.specs.Blocks.{IsBlock}
use Rattle.aes3_frame.specs.Statuses.{status_of, user_of, validity_of}
use Rattle.aes3_lock.specs.Reports.{blocks}
use Rattle.aes3_input.specs.Inputs.{cells_of}
use Rattle.aes3_frame.specs.declared.block.CarriedBits.{CarriedBits}
use Rattle.aes3_frame.specs.declared.block.CarriedBits.TheVariants.{Validity, User, Status}
use Rattle.aes3_status.specs.declared.change.Change.{Change}
use Rattle.aes3_lock_runs.specs.BlockRuns.{written_stream}
use Rattle.aes3_engine.specs.Rewriting.{all_bits, cleared, rewritten_blocks}

-- the 192 bits of a channel in a block as 24 octets, bit 0 first, the lowest of each octet first
abbrev pub carried : CarriedBits → Channel → List (List Bool) → List ℕ
carried Validity channel b = validity_of b channel
carried User channel b = user_of b channel
carried Status channel b = status_of b channel

-- and of blocks one behind the other
abbrev pub all_carried : CarriedBits → Channel → List (List (List Bool)) → List ℕ
all_carried bits channel bs = flat_map (carried bits channel) bs

-- what `to_bits` writes of a line
abbrev pub bits_of_line : Form → CarriedBits → Channel → List ℕ → List ℕ
bits_of_line form bits channel b = all_carried bits channel (blocks (cells_of form b))

-- the V or U bit that a change gives each subframe of a channel, if one
abbrev pub bit_given : Change → CarriedBits → Channel → Option Bool
bit_given change Validity First = change.validity1
bit_given change Validity Second = change.validity2
bit_given change User First = cleared change.clear_user1
bit_given change User Second = cleared change.clear_user2
bit_given change Status channel = None

-- octets in which each bit is the one that is given; where none is, they stay
abbrev pub given_bits : Option Bool → List ℕ → List ℕ
given_bits None octets = octets
given_bits (Some bit) octets = all_bits bit

-- the V and U bits that `rewrite` sets come back, and those that it does not set come back as they were
abbrev pub BitsComeBack : Type 0
BitsComeBack =
    (form : Form) (change : Change) (bits : CarriedBits) (channel : Channel) (bs : List (List (List Bool)))
    → All IsBlock bs → bits ≢ Status
    → bits_of_line form bits channel (written_stream form (rewritten_blocks change bs))
    ≡ flat_map (λ b. given_bits (bit_given change bits channel) (carried bits channel b)) bs
