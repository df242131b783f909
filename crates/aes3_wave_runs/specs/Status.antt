-- The channel status that the format of samples asks for (AES3-2, IEC 60958-3).
use Rattle.std.specs.Prelude.{ℕ, List, [], ◌∷◌, Bool, true, false, Option, Some, None, ◌≡◌, ◌+◌, ◌*◌, ◌==◌, ◌&&◌}
use Rattle.std.specs.Prelude.{if◌then◌else◌, replicate, slice_set, take}
use Rattle.std.specs.Option.{option_or}
use Rattle.aes3_status.specs.Check.{CheckHolds, check_byte_of}
use Rattle.aes3_status.specs.Bits.{status_bits}
use Rattle.aes3_status.specs.Consumer as con
use Rattle.aes3_status.specs.Professional as pro
use Rattle.aes3_status.specs.Statuses.{is_professional}
use Rattle.aes3_wave.specs.declared.wave_format.WaveFormat.{WaveFormat}
use Rattle.aes3_wave.specs.declared.wave_format.Width.{Width}
use Rattle.aes3_wave.specs.declared.wave_format.Width.TheVariants.{Bits8, Bits16, Bits20, Bits24, Bits32}
use Rattle.aes3_wave_runs.specs.declared.status_use.StatusUse.{StatusUse}
use Rattle.aes3_wave_runs.specs.declared.status_use.StatusUse.TheVariants.{Consumer, Professional}

-- ---- the codes

-- sampling frequencies in hertz, each with its code: for consumer use, for professional use in byte 0, and in byte 4,
-- which has those that byte 0 has not
abbrev pub consumer_rates : List (ℕ × ℕ)
consumer_rates =
    (44100, 0) ∷ (48000, 2) ∷ (32000, 3) ∷ (22050, 4) ∷ (24000, 6) ∷ (88200, 8) ∷ (768000, 9) ∷ (96000, 10)
    ∷ (176400, 12) ∷ (192000, 14) ∷ []

abbrev pub professional_rates : List (ℕ × ℕ)
professional_rates = (44100, 1) ∷ (48000, 2) ∷ (32000, 3) ∷ []

abbrev pub professional_frequencies : List (ℕ × ℕ)
professional_frequencies =
    (24000, 1) ∷ (96000, 2) ∷ (192000, 3) ∷ (22050, 9) ∷ (88200, 10) ∷ (176400, 11) ∷ []

-- the code of a sampling frequency, or another one where it has none
abbrev pub code_in : List (ℕ × ℕ) → ℕ → ℕ → ℕ
code_in [] other rate = other
code_in (row ∷ rows) other rate = if rate == row.0 then row.1 else code_in rows other rate

-- the sampling frequency of a code, if it has one
abbrev pub rate_in : List (ℕ × ℕ) → ℕ → Option ℕ
rate_in [] code = None
rate_in (row ∷ rows) code = if code == row.1 then Some row.0 else rate_in rows code

-- where none is indicated the code is 1 for consumer use, and 0 for professional use
abbrev pub consumer_rate : ℕ → ℕ
consumer_rate rate = code_in consumer_rates 1 rate

abbrev pub professional_rate : ℕ → ℕ
professional_rate rate = code_in professional_rates 0 rate

abbrev pub professional_frequency : ℕ → ℕ
professional_frequency rate = code_in professional_frequencies 0 rate

-- of the greatest sample word length for consumer use, 20 bits or 24, and of the length under it; of 8 bits none is
-- indicated, and of 32 only 24 are audio
abbrev pub greatest_code : Width → ℕ
greatest_code Bits8 = 0
greatest_code Bits16 = 0
greatest_code Bits20 = 0
greatest_code Bits24 = 1
greatest_code Bits32 = 1

abbrev pub word_code : Width → ℕ
word_code Bits8 = 0
word_code Bits16 = 1
word_code Bits20 = 5
word_code Bits24 = 5
word_code Bits32 = 5

-- of the use of the auxiliary bits for professional use: audio where the words have 24 bits
abbrev pub aux_code : Width → ℕ
aux_code w = 4 * greatest_code w

-- ---- the statuses

-- for consumer use: linear PCM, no copyright asserted, no emphasis
abbrev pub consumer_status : WaveFormat → List ℕ
consumer_status f = 4 ∷ 0 ∷ 0 ∷ consumer_rate f.rate ∷ (greatest_code f.width + 2 * word_code f.width) ∷ replicate 19 0

-- for professional use: linear PCM, no emphasis, two channels, with its check byte
abbrev pub professional_front : WaveFormat → List ℕ
professional_front f =
    (5 + 64 * professional_rate f.rate) ∷ 8 ∷ (aux_code f.width + 8 * word_code f.width) ∷ 0
    ∷ (8 * professional_frequency f.rate) ∷ replicate 19 0

abbrev pub professional_status : WaveFormat → List ℕ
professional_status f = slice_set (professional_front f) 23 (check_byte_of (take 23 (professional_front f)))

abbrev pub status_for : StatusUse → WaveFormat → List ℕ
status_for Consumer f = consumer_status f
status_for Professional f = professional_status f

-- what they say, by the fields of the standards
pub record SaysConsumer (f : WaveFormat) (status : List ℕ) : Type 0 where
  pub kind : is_professional status ≡ false
  pub payload : con.payload status ≡ 0
  pub copyright : con.copyright status ≡ 1
  pub emphasis : con.emphasis status ≡ 0
  pub rate : con.rate status ≡ consumer_rate f.rate
  pub greatest : con.greatest status ≡ greatest_code f.width
  pub word : con.word status ≡ word_code f.width

pub record SaysProfessional (f : WaveFormat) (status : List ℕ) : Type 0 where
  pub kind : is_professional status ≡ true
  pub payload : pro.payload status ≡ 0
  pub emphasis : pro.emphasis status ≡ 1
  pub mode : pro.mode status ≡ 8
  pub rate : pro.rate status ≡ professional_rate f.rate
  pub frequency : pro.frequency status ≡ professional_frequency f.rate
  pub aux : pro.aux status ≡ aux_code f.width
  pub word : pro.word status ≡ word_code f.width
  pub check : CheckHolds (status_bits status)

abbrev pub Says : StatusUse → WaveFormat → List ℕ → Type 0
Says Consumer f status = SaysConsumer f status
Says Professional f status = SaysProfessional f status

-- what such a status can't say: the sampling frequency where it has no code for it, and the width of samples of 8 bits,
-- for which there is no code, and of 32, of which 24 are left
abbrev pub lacks_rate : StatusUse → ℕ → Bool
lacks_rate Consumer rate = consumer_rate rate == 1
lacks_rate Professional rate = professional_rate rate == 0 && professional_frequency rate == 0

abbrev pub lacks_width : Width → Bool
lacks_width Bits8 = true
lacks_width Bits16 = false
lacks_width Bits20 = false
lacks_width Bits24 = false
lacks_width Bits32 = true

-- ---- read back

-- the sampling frequency that a status names, in hertz
abbrev pub rate_of_consumer : ℕ → Option ℕ
rate_of_consumer code = rate_in consumer_rates code

abbrev pub rate_of_frequency : ℕ → Option ℕ
rate_of_frequency code = rate_in professional_frequencies code

abbrev pub rate_of_professional : ℕ → ℕ → Option ℕ
rate_of_professional code frequency = option_or (rate_in professional_rates code) (rate_of_frequency frequency)

abbrev pub rate_of_status : List ℕ → Option ℕ
rate_of_status status =
    if is_professional status then rate_of_professional (pro.rate status) (pro.frequency status)
    else rate_of_consumer (con.rate status)

-- the sampling frequency that a status says is the one that it names
abbrev pub RateIsNamed : Type 0
RateIsNamed = (f : WaveFormat) (kind : StatusUse) → lacks_rate kind f.rate ≡ false
    → rate_of_status (status_for kind f) ≡ Some f.rate
