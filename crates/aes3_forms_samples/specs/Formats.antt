-- Samples in the forms of sound programs, the lowest octet first; those of 32 bits have the 24 bits of a sample in the
-- highest ones.
use Rattle.std.specs.Prelude.{ℕ, ◌*◌, List, [], ◌∷◌, ◌++◌, Bool, true, false, nat_lt, ◌==◌, ◌&&◌, if◌then◌else◌}
use Rattle.aes3_forms_samples.specs.declared.sample_format.SampleFormat.{SampleFormat}
use Rattle.aes3_forms_samples.specs.declared.sample_format.SampleFormat.TheVariants.{S32, S24, S24In32, S16}

-- how many octets a sample has, a frame of two and the 384 of a block
abbrev pub sample_len : SampleFormat → ℕ
sample_len S32 = 4
sample_len S24 = 3
sample_len S24In32 = 4
sample_len S16 = 2

abbrev pub frame_len : SampleFormat → ℕ
frame_len format = 2 * sample_len format

unfoldable pub block_len : SampleFormat → ℕ
block_len format = 384 * sample_len format

-- whether samples of more bits than 24 are refused, where that is asked: only samples of 32 bits can have them
abbrev pub asks_exact : SampleFormat → Bool → Bool
asks_exact S32 exact = exact
asks_exact S24 exact = false
asks_exact S24In32 exact = false
asks_exact S16 exact = false

-- an octet that is the sign of the number below, whose highest octet is d
abbrev pub sign_octet : ℕ → ℕ
sign_octet d = if nat_lt d 128 then 0 else 255

-- the octets of a sample of which a, b, c, d are those of 32 bits
abbrev pub narrow_one : SampleFormat → ℕ → ℕ → ℕ → ℕ → List ℕ
narrow_one S32 a b c d = a ∷ b ∷ c ∷ d ∷ []
narrow_one S24 a b c d = b ∷ c ∷ d ∷ []
narrow_one S24In32 a b c d = b ∷ c ∷ d ∷ sign_octet d ∷ []
narrow_one S16 a b c d = c ∷ d ∷ []

-- each four octets that are whole, made others
abbrev pub fours : (ℕ → ℕ → ℕ → ℕ → List ℕ) → List ℕ → List ℕ
fours f (a ∷ b ∷ c ∷ d ∷ rest) = f a b c d ++ fours f rest
fours f _ = []

-- samples of 32 bits in a form
abbrev pub narrowed : SampleFormat → List ℕ → List ℕ
narrowed S32 b = b
narrowed S24 b = fours (narrow_one S24) b
narrowed S24In32 b = fours (narrow_one S24In32) b
narrowed S16 b = fours (narrow_one S16) b

-- whether each sample of 32 bits has the second octet 0
abbrev pub seconds_are_zero : List ℕ → Bool
seconds_are_zero (a ∷ b ∷ c ∷ d ∷ rest) = (b == 0) && seconds_are_zero rest
seconds_are_zero _ = true

-- whether samples whose lowest octets are 0 lose nothing in a form
abbrev pub fits : SampleFormat → List ℕ → Bool
fits S32 b = true
fits S24 b = true
fits S24In32 b = true
fits S16 b = seconds_are_zero b

-- the whole samples that octets in a form have, as samples of 32 bits
abbrev pub wide_threes : List ℕ → List ℕ
wide_threes (a ∷ b ∷ c ∷ rest) = 0 ∷ a ∷ b ∷ c ∷ wide_threes rest
wide_threes _ = []

abbrev pub wide_twos : List ℕ → List ℕ
wide_twos (a ∷ b ∷ rest) = 0 ∷ 0 ∷ a ∷ b ∷ wide_twos rest
wide_twos _ = []

abbrev pub widened : SampleFormat → List ℕ → List ℕ
widened S32 b = b
widened S24 b = wide_threes b
widened S24In32 b = fours (λ a b c d. 0 ∷ a ∷ b ∷ c ∷ []) b
widened S16 b = wide_twos b
