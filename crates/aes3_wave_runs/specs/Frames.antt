-- The samples of frames: those of two channels of each, as samples of 32 bits.
use Rattle.std.specs.Prelude.{ℕ, zero, suc, List, [], ◌++◌, Some, ◌≡◌, ◌/◌, ◌%◌, drop, length, take}
use Rattle.aes3_forms_samples.specs.declared.sample_format.SampleFormat.{SampleFormat}
use Rattle.aes3_forms_samples.specs.declared.sample_format.SampleFormat.TheVariants.{S32, S24, S24In32, S16}
use Rattle.aes3_wave.specs.declared.wave_format.Container.TheVariants.{Octets2, Octets3, Octets4}
use Rattle.aes3_wave.specs.declared.wave_format.Width.TheVariants.{Bits16, Bits24, Bits32}
use Rattle.aes3_wave.specs.declared.wave_format.WaveFormat.{WaveFormat}
use Rattle.aes3_wave.specs.declared.channels.Channels.{Channels}
use Rattle.aes3_wave.specs.Formats.{frame_len}
use Rattle.aes3_wave.specs.Samples.{two_samples}

-- what is made of each of the first n parts of octets, of so many octets each
unfoldable pub parts_of : (List ℕ → List ℕ) → ℕ → ℕ → List ℕ → List ℕ
parts_of made len zero b = []
parts_of made len (suc n) b = made (take len b) ++ parts_of made len n (drop len b)

-- and of all whole ones
unfoldable pub all_parts : (List ℕ → List ℕ) → ℕ → List ℕ → List ℕ
all_parts made len b = parts_of made len (length b / len) b

-- the samples of all whole frames in octets
abbrev pub frame_samples : WaveFormat → Channels → List ℕ → List ℕ
frame_samples f channels b = all_parts (two_samples f channels) (frame_len f) b

-- how many octets come after the last whole frame
abbrev pub left_over : WaveFormat → List ℕ → ℕ
left_over f b = length b % frame_len f

-- the octets of frames are samples in a form: both channels of two in their order, and all bits count
abbrev pub HasBits : WaveFormat → SampleFormat → Type 0
HasBits f S16 = (f.container ≡ Octets2) × (f.width ≡ Bits16)
HasBits f S24 = (f.container ≡ Octets3) × (f.width ≡ Bits24)
HasBits f S24In32 = ⊥
HasBits f S32 = (f.container ≡ Octets4) × (f.width ≡ Bits32)

pub record IsForm (f : WaveFormat) (channels : Channels) (form : SampleFormat) : Type 0 where
  pub two : f.channels ≡ 2
  pub order : channels ≡ record { first = 0; second = Some 1 }
  pub bits : HasBits f form
