-- The format of samples, in the first octets of a `fmt ` chunk: eight octets of name and length, and from there on the
-- number of the format, the channels, the rate, the octets a second, those of a frame, and the bits of a sample; of an
-- extensible format too the length of what follows, the valid bits, the speakers and a GUID.
use Rattle.std.specs.Prelude.{ℕ, Bool, List, [], ◌∷◌, ◌*◌, ◌==◌, ◌||◌, ◌&&◌, not, if◌then◌else◌, drop, length}
use Rattle.std.specs.Prelude.{Option, Some, None, Result, Ok, Err, nat_lt}
use Rattle.aes3_wave.specs.declared.header_error.Cause.{Cause}
use Rattle.aes3_wave.specs.declared.header_error.Cause.TheVariants.{ShortFormat, NotPcm, NoChannels, WrongBits, WrongFrame}
use Rattle.aes3_wave.specs.declared.header_error.HeaderError.{HeaderError}
use Rattle.aes3_wave.specs.declared.wave_format.Width.{Width}
use Rattle.aes3_wave.specs.declared.wave_format.Width.TheVariants.{Bits8, Bits16, Bits20, Bits24, Bits32}
use Rattle.aes3_wave.specs.declared.wave_format.Container.{Container}
use Rattle.aes3_wave.specs.declared.wave_format.Container.TheVariants.{Octets1, Octets2, Octets3, Octets4}
use Rattle.aes3_wave.specs.declared.wave_format.WaveFormat.{WaveFormat}
use Rattle.aes3_wave.specs.Octets.{begins, u16_at, u32_at}

-- a number of bits as a width
abbrev pub width_of : ℕ → Option Width
width_of bits =
    if bits == 8 then Some Bits8
    else if bits == 16 then Some Bits16
    else if bits == 20 then Some Bits20
    else if bits == 24 then Some Bits24
    else if bits == 32 then Some Bits32
    else None

-- the format is extensible: its own number is in its GUID
abbrev pub is_extensible : List ℕ → Bool
is_extensible b = u16_at b 8 == 65534

-- a GUID that holds the number of a format ends so, from its third octet on
abbrev pub guid_end : List ℕ
guid_end = 0 ∷ 0 ∷ 0 ∷ 0 ∷ 16 ∷ 0 ∷ 128 ∷ 0 ∷ 0 ∷ 170 ∷ 0 ∷ 56 ∷ 155 ∷ 113 ∷ []

abbrev pub has_number : List ℕ → Bool
has_number b = begins (drop 34 b) guid_end

-- the number of the format; that of PCM is 1
abbrev pub format_number : List ℕ → ℕ
format_number b = if is_extensible b && has_number b then u16_at b 32 else u16_at b 8

-- how many bits of a sample count: those that an extensible format calls valid, if it calls any so, else all
abbrev pub valid_bits : List ℕ → ℕ
valid_bits b = if is_extensible b && not (u16_at b 26 == 0) then u16_at b 26 else u16_at b 22

-- the octets that hold a sample of so many bits, of 32 at most, and how many they are
abbrev pub container_of : ℕ → Container
container_of bits =
    if nat_lt bits 9 then Octets1
    else if nat_lt bits 17 then Octets2
    else if nat_lt bits 25 then Octets3
    else Octets4

abbrev pub container_len : Container → ℕ
container_len Octets1 = 1
container_len Octets2 = 2
container_len Octets3 = 3
container_len Octets4 = 4

-- how many octets a frame has, a sample of each channel
abbrev pub frame_len : WaveFormat → ℕ
frame_len f = f.channels * container_len f.container

-- the octets of a chunk are too few for its format
abbrev pub is_short : List ℕ → Bool
is_short b = nat_lt (length b) 24 || (is_extensible b && nat_lt (length b) 48)

-- the width of a sample; there is none where more bits count than it has, or it has more than 32
abbrev pub width_in : List ℕ → Option Width
width_in b = if nat_lt (u16_at b 22) (valid_bits b) || nat_lt 32 (u16_at b 22) then None else width_of (valid_bits b)

-- what is wrong at place `at` of a chunk
abbrev pub wrong : Cause → ℕ → Result WaveFormat HeaderError
wrong cause at = Err (record { cause = cause; at = at })

-- the format of samples of this width
abbrev pub format_with : List ℕ → Option Width → Result WaveFormat HeaderError
format_with b None = wrong (WrongBits (valid_bits b)) 22
format_with b (Some width) =
    if u16_at b 20 == u16_at b 10 * container_len (container_of (u16_at b 22))
    then Ok (record { channels = u16_at b 10; rate = u32_at b 12; container = container_of (u16_at b 22); width = width })
    else wrong (WrongFrame (u16_at b 20)) 20

-- the format that the first octets of a `fmt ` chunk say, or what is wrong with it and where in the chunk
unfoldable pub format_of : List ℕ → Result WaveFormat HeaderError
format_of b =
    if is_short b then wrong ShortFormat 0
    else if not (format_number b == 1) then wrong (NotPcm (format_number b)) 8
    else if u16_at b 10 == 0 then wrong NoChannels 10
    else format_with b (width_in b)
