-- The header that is written of samples of two channels. Where their length is not known it is that of a file whose
-- lengths were never filled in. Where it is, a chunk of 28 octets stands before the format: of a file of 32-bit lengths
-- one that is left out, and of a longer one the chunk of 64-bit lengths, so that the header of either has the same length.
use Rattle.std.specs.Prelude.{ℕ, List, [], ◌++◌, ◌+◌, ◌*◌, ◌/◌, codes, if◌then◌else◌, min, nat_lt, replicate}
use Rattle.std.specs.Prelude.{Option, Some, None}
use Rattle.std.specs.Int.{to_le_bytes, w16, w32, w64}
use Rattle.aes3_wave.specs.declared.wave_format.Container.{Container}
use Rattle.aes3_wave.specs.declared.wave_format.Container.TheVariants.{Octets2, Octets3, Octets4}
use Rattle.aes3_wave.specs.declared.wave_format.Width.{Width}
use Rattle.aes3_wave.specs.declared.wave_format.Width.TheVariants.{Bits16, Bits24, Bits32}
use Rattle.aes3_wave.specs.declared.wave_format.WaveFormat.{WaveFormat}
use Rattle.aes3_wave.specs.declared.header_writing.Depth.{Depth}
use Rattle.aes3_wave.specs.declared.header_writing.Depth.TheVariants.{Sixteen, TwentyFour, ThirtyTwo}
use Rattle.aes3_wave.specs.Formats.{container_len, guid_end}

-- the format of samples of so many bits
abbrev pub container : Depth → Container
container Sixteen = Octets2
container TwentyFour = Octets3
container ThirtyTwo = Octets4

abbrev pub width : Depth → Width
width Sixteen = Bits16
width TwentyFour = Bits24
width ThirtyTwo = Bits32

abbrev pub written_format : Depth → ℕ → WaveFormat
written_format depth rate = record { channels = 2; rate = rate; container = container depth; width = width depth }

-- how many octets two samples have, and how many bits one has
abbrev pub frame_octets : Depth → ℕ
frame_octets depth = 2 * container_len (container depth)

abbrev pub depth_bits : Depth → ℕ
depth_bits depth = 8 * container_len (container depth)

-- what an extensible format has more: the length of what follows, the bits that count, the two front speakers, and the
-- GUID of PCM. Samples of 16 bits have a plain one.
abbrev pub extension : Depth → List ℕ
extension Sixteen = []
extension TwentyFour =
    to_le_bytes w16 22 ++ to_le_bytes w16 24 ++ to_le_bytes w32 3 ++ to_le_bytes w16 1 ++ guid_end
extension ThirtyTwo =
    to_le_bytes w16 22 ++ to_le_bytes w16 32 ++ to_le_bytes w32 3 ++ to_le_bytes w16 1 ++ guid_end

abbrev pub format_len : Depth → ℕ
format_len Sixteen = 16
format_len TwentyFour = 40
format_len ThirtyTwo = 40

abbrev pub format_tag : Depth → ℕ
format_tag Sixteen = 1
format_tag TwentyFour = 65534
format_tag ThirtyTwo = 65534

-- the octets of a second, or the greatest number that its field holds
abbrev pub per_second : Depth → ℕ → ℕ
per_second depth rate = min (rate * frame_octets depth) 4294967295

abbrev pub format_chunk : Depth → ℕ → List ℕ
format_chunk depth rate =
    codes "fmt " ++ to_le_bytes w32 (format_len depth) ++ to_le_bytes w16 (format_tag depth) ++ to_le_bytes w16 2
    ++ to_le_bytes w32 rate ++ to_le_bytes w32 (per_second depth rate) ++ to_le_bytes w16 (frame_octets depth)
    ++ to_le_bytes w16 (depth_bits depth) ++ extension depth

-- the first twelve octets, of a file of which so many octets follow the first eight
abbrev pub riff : ℕ → List ℕ
riff n = codes "RIFF" ++ to_le_bytes w32 n ++ codes "WAVE"

abbrev pub rf64 : List ℕ
rf64 = codes "RF64" ++ to_le_bytes w32 4294967295 ++ codes "WAVE"

-- the chunk that is left out, and that of 64-bit lengths: of what follows the first eight octets, of the samples, how
-- many frames these are, and that no other chunk has such a length
abbrev pub junk : List ℕ
junk = codes "JUNK" ++ to_le_bytes w32 28 ++ replicate 28 0

abbrev pub sizes : ℕ → ℕ → ℕ → List ℕ
sizes all n frames =
    codes "ds64" ++ to_le_bytes w32 28 ++ to_le_bytes w64 all ++ to_le_bytes w64 n ++ to_le_bytes w64 frames
    ++ to_le_bytes w32 0

-- the head of the chunk of the samples
abbrev pub data_head : ℕ → List ℕ
data_head n = codes "data" ++ to_le_bytes w32 n

-- how many octets of a file stand between the first eight and n octets of samples, with these
abbrev pub file_len : Depth → ℕ → ℕ
file_len depth n = n + (56 + format_len depth)

abbrev pub written_known : Depth → ℕ → ℕ → List ℕ
written_known depth rate n =
    if nat_lt (file_len depth n) 4294967295
    then riff (file_len depth n) ++ junk ++ format_chunk depth rate ++ data_head n
    else rf64 ++ sizes (file_len depth n) n (n / frame_octets depth) ++ format_chunk depth rate ++ data_head 4294967295

-- the header of samples at this rate, of so many octets where that is known
abbrev pub written : Depth → ℕ → Option ℕ → List ℕ
written depth rate None = riff 4294967295 ++ junk ++ format_chunk depth rate ++ data_head 4294967295
written depth rate (Some n) = written_known depth rate n
