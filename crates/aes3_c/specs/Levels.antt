-- What C keeps of the samples of blocks, and their levels as numbers.
use Rattle.std.specs.Prelude.{ℕ, Bool, List, length, min, ◌≡◌, ◌+◌, ◌-◌, ◌*◌, ◌^◌, ◌==◌, if◌then◌else◌}
use Rattle.aes3_frame.specs.declared.block.Channel.{Channel}
use Rattle.aes3_frame.specs.declared.block.Channel.TheVariants.{First, Second}
use Rattle.aes3_info.specs.declared.samples.SampleFacts.{SampleFacts}
use Rattle.aes3_info.specs.Facts.{most_count, sample_facts, square}
use Rattle.aes3_info.specs.Levels.{level_of}
use Rattle.aes3_info.specs.Pages.{full_energy, full_power}
use Rattle.aes3_c.specs.declared.audio_level_calls.Aes3ChannelLevels.{Aes3ChannelLevels}
use Rattle.aes3_c.specs.declared.audio_level_calls.Aes3Levels.{Aes3Levels}

-- the sum of squares that these numbers keep, the samples counted, and those of a channel
abbrev pub energy_in : Aes3ChannelLevels → ℕ
energy_in k = k.energy_high * 2 ^ 64 + k.energy_low

abbrev pub samples_in : Aes3ChannelLevels → SampleFacts
samples_in k = record { greatest = k.peak; energy = energy_in k }

abbrev pub kept_levels : Aes3Levels → Channel → Aes3ChannelLevels
kept_levels k First = k.first
kept_levels k Second = k.second

-- the counts of these blocks: how many there are, and their samples as the page of a recording counts them
pub record HasLevels (k : Aes3Levels) (blocks : List (List (List Bool))) : Type 0 where
  pub blocks_is : k.blocks ≡ min (length blocks) most_count
  pub samples_is : (channel : Channel) → samples_in (kept_levels k channel) ≡ sample_facts channel blocks

-- the tenths of a decibel that the page tells of a power, where it tells a level (level_value)
abbrev pub level_number : ℕ → ℕ → ℕ
level_number power full = if power == 0 then 2 ^ 32 - 1 else level_of power full

-- those of the page's peak_dbfs and rms_dbfs, of these blocks; with the number of whole blocks that the page tells
abbrev pub peak_number : Channel → List (List (List Bool)) → ℕ
peak_number channel blocks = level_number (square (sample_facts channel blocks).greatest) full_power

abbrev pub rms_number_of : Channel → List (List (List Bool)) → ℕ → ℕ
rms_number_of channel blocks whole = level_number (sample_facts channel blocks).energy (full_energy whole)

abbrev pub rms_number : Channel → List (List (List Bool)) → ℕ
rms_number channel blocks = rms_number_of channel blocks (min (length blocks) most_count)
