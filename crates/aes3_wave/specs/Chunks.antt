-- The chunks of a file: four octets of name, four of the content's length, the content, and one more octet where that
-- length is odd. What those before the samples say.
use Rattle.std.specs.Prelude.{ℕ, Bool, List, ◌+◌, ◌%◌, ◌||◌, ◌&&◌, if◌then◌else◌, codes, length, min, take}
use Rattle.std.specs.Prelude.{Some, Result, Ok, Err, is_none, nat_lt}
use Rattle.aes3_wave.specs.declared.header_error.Cause.TheVariants.{ShortSizes}
use Rattle.aes3_wave.specs.declared.header_error.HeaderError.{HeaderError}
use Rattle.aes3_wave.specs.declared.wave_format.WaveFormat.{WaveFormat}
use Rattle.aes3_wave.specs.declared.chunk.Known.{Known}
use Rattle.aes3_wave.specs.Formats.{format_of}
use Rattle.aes3_wave.specs.Octets.{begins, u32_at, u64_at}

-- how long the content of a chunk is, and the whole chunk
abbrev pub content_len : List ℕ → ℕ
content_len b = u32_at b 4

abbrev pub chunk_len : List ℕ → ℕ
chunk_len b = 8 + content_len b + content_len b % 2

-- they begin with the chunk of the samples
abbrev pub is_data : List ℕ → Bool
is_data b = begins b (codes "data")

-- they begin with the first chunk of the format; in a file of 64-bit lengths, with the first of these
abbrev pub is_format : Known → List ℕ → Bool
is_format k b = begins b (codes "fmt ") && is_none k.format

abbrev pub is_sizes : Known → List ℕ → Bool
is_sizes k b = begins b (codes "ds64") && k.is_long && is_none k.sizes

-- how many of a chunk's first octets have to be known: what its name is, and of these two as much as the longest
-- format has
abbrev pub head_len : Known → List ℕ → ℕ
head_len k b = if is_format k b || is_sizes k b then 8 + min (content_len b) 40 else 8

abbrev pub head : Known → List ℕ → List ℕ
head k b = take (head_len k b) b

-- what is known after a chunk with this head, or what is wrong with it and where in it
abbrev pub with_format : Known → Result WaveFormat HeaderError → Result Known HeaderError
with_format k (Ok format) = Ok (record { is_long = k.is_long; sizes = k.sizes; format = Some format })
with_format k (Err e) = Err e

abbrev pub with_sizes : Known → List ℕ → Result Known HeaderError
with_sizes k h =
    if nat_lt (length h) 24 then Err (record { cause = ShortSizes; at = 0 })
    else Ok (record { is_long = k.is_long; sizes = Some (u64_at h 16); format = k.format })

unfoldable pub known_with : Known → List ℕ → Result Known HeaderError
known_with k h =
    if is_format k h then with_format k (format_of h)
    else if is_sizes k h then with_sizes k h
    else Ok k
