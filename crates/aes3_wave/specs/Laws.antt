-- The laws of headers.
use Rattle.std.specs.Prelude.{ℕ, true, false, List, [], ◌∷◌, ◌++◌, ◌+◌, ◌==◌, ◌≡◌, ◌≢◌, ◌<◌, ◌≤◌, ◌^◌, if◌then◌else◌, length}
use Rattle.std.specs.Prelude.{Option, Some, None, Ok}
use Rattle.std.specs.List.{concat}
use Rattle.std.specs.Option.{ForSome}
use Rattle.aes3_wave.specs.declared.chunk.Known.{Known}
use Rattle.aes3_wave.specs.declared.chunk.WaveHeader.{WaveHeader}
use Rattle.aes3_wave.specs.declared.header_writing.Depth.{Depth}
use Rattle.aes3_wave.specs.Chunks.{chunk_len, head, is_data, known_with}
use Rattle.aes3_wave.specs.Headers.{first_known, found, header_in, judged}
use Rattle.aes3_wave.specs.Written.{written, written_format}

-- what is decided stays so, whatever comes after it: a header that is refused, and one that is whole
abbrev pub DecidedStays : Type 0
DecidedStays = (b more : List ℕ) → judged b ≢ Ok None → judged (b ++ more) ≡ judged b

-- a whole chunk that is not that of the samples
pub record IsChunk (f : List ℕ) : Type 0 where
  pub head : 8 ≤ length f
  pub whole : length f ≡ chunk_len f
  pub other : is_data f ≡ false

-- such chunks, after which this is known where that was known before them
abbrev pub AreChunks : Known → List (List ℕ) → Known → Type 0
AreChunks k [] known = known ≡ k
AreChunks k (f ∷ chunks) known =
    IsChunk f × ((next : Known) × (known_with k (head k f) ≡ Ok next) × AreChunks next chunks known)

-- the parts of a header: its first octets, which say this, chunks, of which this is known then, and the head of the chunk
-- of the samples
pub record IsMadeOf (first : List ℕ) (parts : List (List ℕ)) (last : List ℕ) (known : Known) : Type 0 where
  pub before : Known
  pub twelve : length first ≡ 12
  pub says : first_known first ≡ Ok before
  pub chunks : AreChunks before parts known
  pub eight : length last ≡ 8
  pub named : is_data last ≡ true

-- a header is what its parts say, whatever comes after them
abbrev pub PartsAreRead : Type 0
PartsAreRead = (first : List ℕ) (chunks : List (List ℕ)) (last more : List ℕ) (known : Known)
    → IsMadeOf first chunks last known
    → judged (first ++ (concat chunks ++ (last ++ more))) ≡ found (header_in (12 + length (concat chunks)) known last)

-- and there is no other header: octets with one are made of such parts, and it is what these say
pub record HasParts (b : List ℕ) (header : WaveHeader) : Type 0 where
  pub first : List ℕ
  pub chunks : List (List ℕ)
  pub last : List ℕ
  pub more : List ℕ
  pub known : Known
  pub is : b ≡ first ++ (concat chunks ++ (last ++ more))
  pub parts : IsMadeOf first chunks last known
  pub says : header_in (12 + length (concat chunks)) known last ≡ Ok header

abbrev pub HeadersHaveParts : Type 0
HeadersHaveParts = (b : List ℕ) (header : WaveHeader) → judged b ≡ Ok (Some header) → HasParts b header

-- a length that is written; where it is 0 none is read
abbrev pub read_len : Option ℕ → Option ℕ
read_len None = None
read_len (Some n) = if n == 0 then None else Some n

-- a header that is written is read as what was written, whatever comes after it
abbrev pub WrittenAreRead : Type 0
WrittenAreRead = (depth : Depth) (rate : ℕ) (len : Option ℕ) (samples : List ℕ)
    → rate < 2 ^ 32 → ForSome len (λ n. n < 2 ^ 63)
    → judged (written depth rate len ++ samples)
    ≡ Ok (Some (record {
      format = written_format depth rate;
      start = length (written depth rate len);
      len = read_len len;
    }))
