-- The header of a file: RIFF, RF64 or BW64, four octets, WAVE, chunks, and the name and the length of the chunk of the
-- samples. RF64 and BW64 have their lengths in a chunk `ds64`.
use Rattle.std.specs.Prelude.{ℕ, zero, suc, Bool, List, ◌+◌, ◌==◌, ◌||◌, ◌&&◌, not, if◌then◌else◌, codes, drop, length, take}
use Rattle.std.specs.Prelude.{Option, Some, None, Result, Ok, Err, nat_lt}
use Rattle.aes3_wave.specs.declared.header_error.Cause.TheVariants.{NotRiff, NotWave, NoFormat, Ended}
use Rattle.aes3_wave.specs.declared.header_error.HeaderError.{HeaderError}
use Rattle.aes3_wave.specs.declared.wave_format.WaveFormat.{WaveFormat}
use Rattle.aes3_wave.specs.declared.chunk.Known.{Known}
use Rattle.aes3_wave.specs.declared.chunk.WaveHeader.{WaveHeader}
use Rattle.aes3_wave.specs.Octets.{begins}
use Rattle.aes3_wave.specs.Chunks.{chunk_len, content_len, head, head_len, is_data, known_with}

-- What octets say of a header: that it is refused, that it is not whole yet, or what it is.
abbrev pub Judged : Type 0
Judged = Result (Option WaveHeader) HeaderError

-- a length that is named: 0 and the greatest number name none, and the samples go on to the end
abbrev pub named : ℕ → ℕ → Option ℕ
named greatest n = if n == 0 || n == greatest then None else Some n

abbrev pub named_in : Option ℕ → Option ℕ
named_in None = None
named_in (Some n) = named 18446744073709551615 n

-- how many octets the samples have, where it is named: in a file of 64-bit lengths the greatest number of 32 bits
-- stands for the length in `ds64`
abbrev pub samples_len : Known → ℕ → Option ℕ
samples_len k n = if n == 4294967295 && k.is_long then named_in k.sizes else named 4294967295 n

-- the header whose last chunk begins at place `at` with these octets
abbrev pub header_at : ℕ → Option ℕ → Option WaveFormat → Result WaveHeader HeaderError
header_at at len None = Err (record { cause = NoFormat; at = at })
header_at at len (Some format) = Ok (record { format = format; start = at + 8; len = len })

abbrev pub header_in : ℕ → Known → List ℕ → Result WaveHeader HeaderError
header_in at k b = header_at at (samples_len k (content_len b)) k.format

abbrev pub found : Result WaveHeader HeaderError → Judged
found (Ok header) = Ok (Some header)
found (Err e) = Err e

-- what is wrong with a chunk at place `at`, or else this of what comes after it
abbrev pub after : ℕ → Result Known HeaderError → (Known → Judged) → Judged
after at (Err e) more = Err (record { cause = e.cause; at = at + e.at })
after at (Ok k) more = more k

-- chunks from place `at` on, n at most, where this is known of those before
abbrev pub judged_chunks : ℕ → ℕ → Known → List ℕ → Judged
judged_chunks zero at k b = Ok None
judged_chunks (suc n) at k b =
    if nat_lt (length b) 8 then Ok None
    else if is_data b then found (header_in at k b)
    else if nat_lt (length b) (head_len k b) then Ok None
    else after at (known_with k (head k b)) (λ known. judged_chunks n (at + chunk_len b) known (drop (chunk_len b) b))

-- as many as there are
unfoldable pub judged_from : ℕ → Known → List ℕ → Judged
judged_from at k b = judged_chunks (length b) at k b

-- the first twelve octets
abbrev pub is_riff : List ℕ → Bool
is_riff b = begins b (codes "RIFF")

abbrev pub is_long : List ℕ → Bool
is_long b = begins b (codes "RF64") || begins b (codes "BW64")

abbrev pub is_wave : List ℕ → Bool
is_wave b = begins (drop 8 b) (codes "WAVE")

abbrev pub first_known : List ℕ → Result Known HeaderError
first_known b =
    if not (is_riff b) && not (is_long b) then Err (record { cause = NotRiff; at = 0 })
    else if not (is_wave b) then Err (record { cause = NotWave; at = 8 })
    else Ok (record { is_long = is_long b; sizes = None; format = None })

-- what octets say of a header that they begin
unfoldable pub judged : List ℕ → Judged
judged b =
    if nat_lt (length b) 12 then Ok None
    else after 0 (first_known (take 12 b)) (λ known. judged_from 12 known (drop 12 b))

-- what they say where the file ends after them
abbrev pub at_end : ℕ → Judged → Result WaveHeader HeaderError
at_end n (Ok None) = Err (record { cause = Ended; at = n })
at_end n (Ok (Some header)) = Ok header
at_end n (Err e) = Err e

abbrev pub judged_at_end : List ℕ → Result WaveHeader HeaderError
judged_at_end b = at_end (length b) (judged b)
