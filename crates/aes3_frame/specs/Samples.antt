-- Samples as sound programs have them: words of 32 bits, lowest byte first, with the 24 audio bits in the highest ones.
use Rattle.std.specs.Prelude.{ℕ, List, Bool, ◌*◌, map, take}
use Rattle.std.specs.List.{flat_map}
use Rattle.aes3_bits.specs.Bits.{number}
use Rattle.aes3_frame.specs.Files.{word_bytes}
use Rattle.aes3_frame.specs.Subframes.{audio_len}

-- the word of a payload's audio: its lowest 8 bits are zero
abbrev pub sample_of : List Bool → ℕ
sample_of payload = 256 * number (take audio_len payload)

-- the samples of a block, channel 1 and then channel 2 of each frame, and those of blocks one behind the other
unfoldable pub block_samples : List (List Bool) → List ℕ
block_samples b = flat_map word_bytes (map sample_of b)

abbrev pub samples : List (List (List Bool)) → List ℕ
samples bs = flat_map block_samples bs
