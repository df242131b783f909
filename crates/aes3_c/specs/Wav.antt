-- WAV files as C is told of them.
use Rattle.std.specs.Prelude.{ℕ, Bool, List, ◌+◌, ◌*◌, ◌-◌, ◌/◌, ◌==◌, ◌&&◌, ◌≡◌, ◌<◌, ◌++◌, ◌^◌, drop, get_or, not, take}
use Rattle.std.specs.Prelude.{Option, Some, None, Ok, Err, if◌then◌else◌, min, nat_lt}
use Rattle.aes3_frame.specs.Files.{word_bytes}
use Rattle.aes3_wave.specs.declared.chunk.WaveHeader.{WaveHeader}
use Rattle.aes3_wave.specs.declared.header_error.Cause.{Cause}
use Rattle.aes3_wave.specs.declared.header_error.Cause.TheVariants.{NotRiff, NotWave, ShortSizes, ShortFormat, NotPcm, NoChannels}
use Rattle.aes3_wave.specs.declared.header_error.Cause.TheVariants.{WrongBits, WrongFrame, NoFormat, Ended}
use Rattle.aes3_wave.specs.declared.wave_format.Container.{Container}
use Rattle.aes3_wave.specs.declared.wave_format.Container.TheVariants.{Octets1, Octets2, Octets3, Octets4}
use Rattle.aes3_wave.specs.declared.wave_format.WaveFormat.{WaveFormat}
use Rattle.aes3_wave.specs.declared.wave_format.Width.{Width}
use Rattle.aes3_wave.specs.declared.wave_format.Width.TheVariants.{Bits8, Bits16, Bits20, Bits24, Bits32}
use Rattle.aes3_wave.specs.declared.channels.Channels.{Channels}
use Rattle.aes3_wave.specs.declared.header_writing.Depth.{Depth}
use Rattle.aes3_wave.specs.declared.header_writing.Depth.TheVariants.{Sixteen, TwentyFour, ThirtyTwo}
use Rattle.aes3_wave.specs.Formats.{container_len, frame_len}
use Rattle.aes3_wave.specs.Headers.{Judged}
use Rattle.aes3_wave.specs.Samples.{two_samples}
use Rattle.aes3_wave.specs.Written.{format_len, frame_octets}
use Rattle.aes3_c.specs.declared.wav.Aes3Wav.{Aes3Wav}

-- ---- a header that is read

-- why a header is rejected, and what is answered of octets that are judged so
abbrev pub cause_code : Cause → ℕ
cause_code NotRiff = 2
cause_code NotWave = 3
cause_code ShortSizes = 4
cause_code ShortFormat = 5
cause_code (NotPcm format) = 6
cause_code NoChannels = 7
cause_code (WrongBits bits) = 8
cause_code (WrongFrame octets) = 9
cause_code NoFormat = 10
cause_code Ended = 11

abbrev pub answer_code : Judged → ℕ
answer_code (Ok None) = 0
answer_code (Ok (Some header)) = 1
answer_code (Err e) = cause_code e.cause

-- the octets of samples that go on to the end of the file are the greatest number
abbrev pub len_code : Option ℕ → ℕ
len_code None = 18446744073709551615
len_code (Some n) = n

-- how many bits of a sample count
abbrev pub width_bits : Width → ℕ
width_bits Bits8 = 8
width_bits Bits16 = 16
width_bits Bits20 = 20
width_bits Bits24 = 24
width_bits Bits32 = 32

-- a header in numbers
abbrev pub wav_of : WaveHeader → Aes3Wav
wav_of header = record {
  start = header.start;
  len = len_code header.len;
  rate = header.format.rate;
  channels = header.format.channels;
  octets = container_len header.format.container;
  bits = width_bits header.format.width;
}

-- the header that numbers tell
abbrev pub container_in : ℕ → Container
container_in octets =
    if octets == 1 then Octets1
    else if octets == 2 then Octets2
    else if octets == 3 then Octets3
    else Octets4

abbrev pub width_in : ℕ → Width
width_in bits =
    if bits == 8 then Bits8
    else if bits == 16 then Bits16
    else if bits == 20 then Bits20
    else if bits == 24 then Bits24
    else Bits32

abbrev pub format_in : Aes3Wav → WaveFormat
format_in wav = record {
  channels = wav.channels;
  rate = wav.rate;
  container = container_in wav.octets;
  width = width_in wav.bits;
}

abbrev pub len_in : ℕ → Option ℕ
len_in n = if n == 18446744073709551615 then None else Some n

abbrev pub header_in : Aes3Wav → WaveHeader
header_in wav = record { format = format_in wav; start = wav.start; len = len_in wav.len }

-- ---- a header that is written

-- how many bits a sample has
abbrev pub depth_of : ℕ → Option Depth
depth_of bits =
    if bits == 16 then Some Sixteen
    else if bits == 24 then Some TwentyFour
    else if bits == 32 then Some ThirtyTwo
    else None

-- how many octets the header has
abbrev pub header_len : Depth → ℕ
header_len depth = 64 + format_len depth

-- how many octets frames have; of 2^60 frames and more it is not known how many there are
abbrev pub frames_len : Depth → ℕ → Option ℕ
frames_len depth frames = if nat_lt frames (2 ^ 60) then Some (frames * frame_octets depth) else None

-- ---- samples

-- two channels, the first of which is 1; in place of the second, 0 has samples that are zero
abbrev pub channels_of : ℕ → ℕ → Channels
channels_of first second = record {
  first = first - 1;
  second = if second == 0 then None else Some (second - 1);
}

abbrev pub has_channels : Aes3Wav → ℕ → ℕ → Bool
has_channels wav first second = nat_lt 0 first && not (nat_lt wav.channels first) && not (nat_lt wav.channels second)

-- how many frames are put of so many octets into room for so many samples
abbrev pub frames_put : Aes3Wav → ℕ → ℕ → ℕ → ℕ → ℕ
frames_put wav first second octets room =
    if has_channels wav first second then min (octets / frame_len (format_in wav)) (room / 2) else 0

-- a frame, and a pair of samples in memory, the lowest octet of each first
abbrev pub frame_at : WaveFormat → ℕ → List ℕ → List ℕ
frame_at f i b = take (frame_len f) (drop (i * frame_len f) b)

abbrev pub pair_at : ℕ → List ℕ → List ℕ
pair_at i samples = word_bytes (get_or samples (2 * i) 0) ++ word_bytes (get_or samples (2 * i + 1) 0)

-- the first pairs are the samples of two channels in the first frames of these octets
abbrev pub ArePairs : WaveFormat → Channels → List ℕ → ℕ → List ℕ → Type 0
ArePairs f channels b n samples = (i : ℕ) → i < n → pair_at i samples ≡ two_samples f channels (frame_at f i b)
