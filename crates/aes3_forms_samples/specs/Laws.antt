-- What becomes of samples in a form that are made samples of 32 bits, and put into it again.
use Rattle.std.specs.Prelude.{ℕ, List, ◌∷◌, true, ◌≡◌, ◌%◌, length}
use Rattle.aes3_forms_samples.specs.declared.sample_format.SampleFormat.{SampleFormat}
use Rattle.aes3_forms_samples.specs.declared.sample_format.SampleFormat.TheVariants.{S32, S24, S24In32, S16}
use Rattle.aes3_forms_samples.specs.Formats.{fits, narrowed, sample_len, sign_octet, widened}

-- the highest octet of each word is its sign, which has to be so only where samples of 24 bits stand in 32
abbrev pub AreSigned : List ℕ → Type 0
AreSigned (a ∷ b ∷ c ∷ d ∷ rest) = (d ≡ sign_octet c) × AreSigned rest
AreSigned _ = Unit {0}

abbrev pub HaveSigns : SampleFormat → List ℕ → Type 0
HaveSigns S32 b = Unit {0}
HaveSigns S24 b = Unit {0}
HaveSigns S24In32 b = AreSigned b
HaveSigns S16 b = Unit {0}

-- each sample of 32 bits has the lowest octet 0, as one of 24 bits has
abbrev pub HaveLowZeros : List ℕ → Type 0
HaveLowZeros (a ∷ b ∷ c ∷ d ∷ rest) = (a ≡ 0) × HaveLowZeros rest
HaveLowZeros _ = Unit {0}

-- samples of 24 bits that fit a form are the same again when they were in it
abbrev pub FittingComeBack : Type 0
FittingComeBack =
    (format : SampleFormat) (b : List ℕ) → length b % 4 ≡ 0 → HaveLowZeros b → fits format b ≡ true
    → widened format (narrowed format b) ≡ b

-- whole samples stay what they were
abbrev pub WidenedAreNarrowed : Type 0
WidenedAreNarrowed =
    (format : SampleFormat) (b : List ℕ) → length b % sample_len format ≡ 0 → HaveSigns format b
    → narrowed format (widened format b) ≡ b
