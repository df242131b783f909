-- Blocks made of samples: words of 32 bits of which the 24 highest are the sample, channel 1 and then channel 2 of each
-- frame.
use Rattle.std.specs.Prelude.{ℕ, ◌≡◌, ◌<◌, ◌^◌, zero, suc, List, [], ◌∷◌, ◌++◌, Bool, false, length, ◌-◌, ◌/◌, ◌%◌, map}
use Rattle.std.specs.Prelude.{take, drop, replicate}
use Rattle.aes3_bits.specs.Bits.{low_bits}
use Rattle.aes3_frame.specs.Blocks.{block_subframes}
use Rattle.aes3_frame.specs.Subframes.{audio_len}

-- the payload of a sample: its audio, and V, U and C zero
abbrev pub payload_of_sample : ℕ → List Bool
payload_of_sample w = low_bits audio_len (w / 256) ++ false ∷ false ∷ false ∷ []

-- a word that is a sample of 24 bits
abbrev pub IsSample : ℕ → Type 0
IsSample w = (w < 2 ^ 32) × (w % 256 ≡ 0)

-- the first n blocks of samples, and all that are whole
abbrev pub sample_blocks : ℕ → List ℕ → List (List (List Bool))
sample_blocks zero words = []
sample_blocks (suc n) words = map payload_of_sample (take block_subframes words) ∷ sample_blocks n (drop block_subframes words)

unfoldable pub sampled : List ℕ → List (List (List Bool))
sampled words = sample_blocks (length words / block_subframes) words

-- samples, and zero samples behind them up to the end of a block
abbrev pub filled : List ℕ → List ℕ
filled words = words ++ replicate ((block_subframes - length words % block_subframes) % block_subframes) 0
