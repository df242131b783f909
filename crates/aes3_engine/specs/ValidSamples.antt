-- Samples, with zero in place of each that is not valid.
use Rattle.std.specs.Prelude.{ℕ, List, Bool, false, ◌≡◌, ◌++◌, drop, map, replicate, slice_index_or, if◌then◌else◌}
use Rattle.std.specs.List.{flat_map, All}
use Rattle.aes3_frame.specs.Files.{word_bytes}
use Rattle.aes3_frame.specs.Samples.{sample_of}
use Rattle.aes3_frame.specs.Statuses.{validity_place}
use Rattle.aes3_frame.specs.Subframes.{audio_len}

-- the V bit of a payload
abbrev pub validity_bit : List Bool → Bool
validity_bit payload = slice_index_or payload validity_place false

-- the sample of a payload; 0 where its V bit is 1
abbrev pub valid_sample : List Bool → ℕ
valid_sample payload = if validity_bit payload then 0 else sample_of payload

-- those of a block, and of blocks one behind the other
unfoldable pub valid_block_samples : List (List Bool) → List ℕ
valid_block_samples b = flat_map word_bytes (map valid_sample b)

abbrev pub valid_samples : List (List (List Bool)) → List ℕ
valid_samples bs = flat_map valid_block_samples bs

-- no V bit of a block is 1
abbrev pub IsAllValid : List (List Bool) → Type 0
IsAllValid b = All (λ payload. validity_bit payload ≡ false) b

-- a payload with its audio zero where its V bit is 1
abbrev pub silenced : List Bool → List Bool
silenced payload =
    if validity_bit payload then replicate audio_len false ++ drop audio_len payload else payload
