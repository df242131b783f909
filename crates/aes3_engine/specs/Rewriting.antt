-- Blocks with other channel status, and with other V and U bits.
use Rattle.std.specs.Prelude.{ℕ, List, Bool, false, Option, Some, None, map, take, replicate, slice_set}
use Rattle.std.specs.Prelude.{if◌then◌else◌, ◌≡◌, All, length}
use Rattle.aes3_block.specs.Laws.{IsByte}
use Rattle.aes3_cell.specs.declared.form.Form.{Form}
use Rattle.aes3_frame.specs.declared.block.Channel.{Channel}
use Rattle.aes3_frame.specs.declared.block.Channel.TheVariants.{First, Second}
use Rattle.aes3_frame.specs.Statuses.{status_len, status_of, with_status, with_user, with_validity}
use Rattle.aes3_status.specs.Statuses.{is_professional}
use Rattle.aes3_status.specs.Check.{check_byte_of}
use Rattle.aes3_status.specs.declared.setting.Settings.{Settings}
use Rattle.aes3_status.specs.Settings.{set_all}
use Rattle.aes3_status.specs.declared.change.Change.{Change}
use Rattle.aes3_lock_runs.specs.BlockRuns.{normal_block}

-- the bytes of a channel's bits that are all this one
abbrev pub all_bits : Bool → List ℕ
all_bits bit = replicate status_len (if bit then 255 else 0)

-- the bit 0, where that is asked for
abbrev pub cleared : Bool → Option Bool
cleared asked = if asked then Some false else None

-- each V bit, or each U bit, of a channel set to this one, where one is given
abbrev pub set_validity : Channel → Option Bool → List (List Bool) → List (List Bool)
set_validity channel None b = b
set_validity channel (Some bit) b = with_validity b channel (all_bits bit)

abbrev pub set_user : Channel → Option Bool → List (List Bool) → List (List Bool)
set_user channel None b = b
set_user channel (Some bit) b = with_user b channel (all_bits bit)

-- the V and the U bits of a change set
abbrev pub with_bits_given : Change → List (List Bool) → List (List Bool)
with_bits_given change b =
    set_user Second (cleared change.clear_user2) (set_user First (cleared change.clear_user1)
    (set_validity Second change.validity2 (set_validity First change.validity1 b)))

-- the status of a channel set, where one is given
abbrev pub set_status : Channel → Option (List ℕ) → List (List Bool) → List (List Bool)
set_status channel None b = b
set_status channel (Some status) b = with_status b channel status

-- fields set in the status of a channel, where some are given
abbrev pub set_settings : Channel → Option Settings → List (List Bool) → List (List Bool)
set_settings channel None b = b
set_settings channel (Some settings) b = with_status b channel (set_all settings (status_of b channel))

-- professional status with the check byte of its bytes 0 to 22; consumer status stays
abbrev pub checked : List ℕ → List ℕ
checked status = slice_set status 23 (check_byte_of (take 23 status))

abbrev pub mended : Channel → List (List Bool) → List (List Bool)
mended channel b =
    if is_professional (status_of b channel) then with_status b channel (checked (status_of b channel)) else b

-- 24 bytes
pub record IsStatus (bytes : List ℕ) : Type 0 where
  pub long : length bytes ≡ 24
  pub fit : All IsByte bytes

abbrev pub mended_status : List ℕ → List ℕ
mended_status status = if is_professional status then checked status else status

-- what a change sets in the status of one channel
abbrev pub with_status_changed : Channel → Option (List ℕ) → Option Settings → Bool → List (List Bool)
    → List (List Bool)
with_status_changed channel status settings mend b =
    let c = set_settings channel settings (set_status channel status b) in if mend then mended channel c else c

-- the V and the U bits of a change set, then its statuses, then its fields
abbrev pub changed : Change → List (List Bool) → List (List Bool)
changed change b =
    set_settings Second change.settings2 (set_settings First change.settings1
    (set_status Second change.status2 (set_status First change.status1 (with_bits_given change b))))

-- a block with a change, and then the check bytes mended where that is asked for
abbrev pub rewritten : Change → List (List Bool) → List (List Bool)
rewritten change b = if change.mend then mended Second (mended First (changed change b)) else changed change b

abbrev pub rewritten_block : Form → Change → ℕ → List (List Bool) → List ℕ
rewritten_block form change n b = normal_block form n (rewritten change b)

abbrev pub rewritten_blocks : Change → List (List (List Bool)) → List (List (List Bool))
rewritten_blocks change bs = map (rewritten change) bs
