-- A reader that follows a header, in pieces of any size.
use Rattle.std.specs.Prelude.{ℕ, true, false, List, [], ◌∷◌, ◌++◌, ◌+◌, ◌-◌, ◌≡◌, ◌<◌, ◌≤◌, ◌^◌, drop, length, take}
use Rattle.std.specs.Prelude.{Option, Some, None, Result, Ok, Err, if◌then◌else◌, nat_lt}
use Rattle.aes3_wave.specs.declared.header_error.HeaderError.{HeaderError}
use Rattle.aes3_wave.specs.declared.chunk.Known.{Known}
use Rattle.aes3_wave.specs.declared.chunk.WaveHeader.{WaveHeader}
use Rattle.aes3_wave.specs.declared.chunk.Step.{Step}
use Rattle.aes3_wave.specs.declared.chunk.Step.TheVariants.{More, Next, Samples}
use Rattle.aes3_wave.specs.declared.header_reader.Stage.{Stage}
use Rattle.aes3_wave.specs.declared.header_reader.Stage.TheVariants.{First, Chunks, Whole}
use Rattle.aes3_wave.specs.declared.header_reader.HeaderReader.{HeaderReader}
use Rattle.aes3_wave.specs.Chunks.{chunk_len, head_len, is_data}
use Rattle.aes3_wave.specs.Headers.{Judged, judged, judged_from}

-- what a header is judged where a reader at this stage, which holds the octets f and leaves `left` out, takes these
abbrev pub goes_on : Stage → ℕ → List ℕ → ℕ → List ℕ → Judged
goes_on First at f left c = judged (f ++ c)
goes_on (Chunks k) at f left c = judged_from at k (f ++ drop left c)
goes_on (Whole header) at f left c = Ok (Some header)

-- octets that decide nothing yet: too few of the first ones, or of those that begin a chunk
pub record IsOpenFirst (f : List ℕ) : Type 0 where
  pub few : length f < 12

pub record IsOpenChunk (k : Known) (f : List ℕ) : Type 0 where
  pub few : length f < 48
  pub other : 8 ≤ length f → is_data f ≡ false
  pub head : 8 ≤ length f → length f < head_len k f

abbrev pub IsOpen : Stage → List ℕ → Type 0
IsOpen First f = IsOpenFirst f
IsOpen (Chunks k) f = IsOpenChunk k f
IsOpen (Whole header) f = ⊥

-- how many octets the first ones have, and a chunk
abbrev pub part_len : Stage → List ℕ → ℕ
part_len First f = 12
part_len (Chunks k) f = chunk_len f
part_len (Whole header) f = 0

-- where these begin
abbrev pub part_at : Stage → ℕ → ℕ
part_at First at = 0
part_at (Chunks k) at = at
part_at (Whole header) at = at

-- octets with which this is known of the first ones or of a chunk, and how many octets it has
pub record IsNext (stage : Stage) (at : ℕ) (f : List ℕ) (known : Known) (len : ℕ) : Type 0 where
  pub count : len ≡ part_len stage f
  pub few : len < 2 ^ 33
  pub on : (c : List ℕ) → goes_on stage at f 0 c ≡ judged_from (part_at stage at + len) known (drop len (f ++ c))

-- octets that begin the chunk of the samples, where a header of all chunks up to it is whole
pub record IsSamples (k : Known) (at : ℕ) (f : List ℕ) (header : WaveHeader) : Type 0 where
  pub head : 8 ≤ length f
  pub named : is_data f ≡ true
  pub start : header.start ≡ at + 8
  pub on : (c : List ℕ) → judged_from at k (f ++ c) ≡ Ok (Some header)

abbrev pub IsWhole : Stage → ℕ → List ℕ → WaveHeader → Type 0
IsWhole First at f header = ⊥
IsWhole (Chunks k) at f header = IsSamples k at f header
IsWhole (Whole whole) at f header = ⊥

-- what the octets decide that a reader at this stage holds
abbrev pub Decided : Stage → ℕ → List ℕ → Result Step HeaderError → Type 0
Decided stage at f (Ok More) = (length f < 48) × IsOpen stage f
Decided stage at f (Ok (Next known len)) = IsNext stage at f known len
Decided stage at f (Ok (Samples header)) = IsWhole stage at f header
Decided stage at f (Err e) = (c : List ℕ) → goes_on stage at f 0 c ≡ Err e

-- what it holds there
pub record HoldsFirst (seen : ℕ) (f : List ℕ) (left : ℕ) : Type 0 where
  pub begun : IsOpenFirst f
  pub all : seen ≡ length f
  pub none : left ≡ 0

pub record HoldsChunk (k : Known) (f : List ℕ) (left : ℕ) : Type 0 where
  pub begun : IsOpenChunk k f
  pub none : 0 < left → f ≡ []

abbrev pub Holds : Stage → ℕ → List ℕ → ℕ → Type 0
Holds First seen f left = HoldsFirst seen f left
Holds (Chunks k) seen f left = HoldsChunk k f left
Holds (Whole header) seen f left = header.start ≡ seen

-- it has taken the octets b
pub record FollowsAt (seen : ℕ) (stage : Stage) (at : ℕ) (f : List ℕ) (left : ℕ) (b : List ℕ) : Type 0 where
  pub count : seen ≡ length b
  pub on : (c : List ℕ) → judged (b ++ c) ≡ goes_on stage at f left c
  pub holds : Holds stage seen f left

abbrev pub Follows : HeaderReader → List ℕ → Type 0
Follows r b = FollowsAt r.seen r.stage r.at (take r.len r.held) r.left b

-- the header that it has, once it is whole
abbrev pub header_of : Stage → Option WaveHeader
header_of First = None
header_of (Chunks k) = None
header_of (Whole header) = Some header

-- how many octets of a chunk's head come after these
abbrev pub missing : Known → List ℕ → ℕ
missing k f = if nat_lt (length f) 8 then 8 - length f else head_len k f - length f

-- a piece after the octets b is refused: with the first n of its octets, and not before, whatever comes after these
pub record IsRefused (b piece : List ℕ) (e : HeaderError) : Type 0 where
  pub n : ℕ
  pub within : n < length piece
  pub before : judged (b ++ take n piece) ≡ Ok None
  pub on : (c : List ℕ) → judged (b ++ take (n + 1) piece ++ c) ≡ Err e

-- what a reader that has taken the octets b answers to a piece: that it has taken a front of it, all where the header is
-- not whole then, or why it is refused
pub record Took (r : HeaderReader) (b piece : List ℕ) (n : ℕ) : Type 0 where
  pub follows : Follows r (b ++ take n piece)
  pub all : header_of r.stage ≡ None → n ≡ length piece

abbrev pub TookPiece : HeaderReader → List ℕ → List ℕ → Result ℕ HeaderError → Type 0
TookPiece r b piece (Ok n) = Took r b piece n
TookPiece r b piece (Err e) = IsRefused b piece e

-- what it answers to a front of one
abbrev pub TookFront : HeaderReader → List ℕ → List ℕ → Result ℕ HeaderError → Type 0
TookFront r b piece (Ok n) = Follows r (b ++ take n piece)
TookFront r b piece (Err e) = IsRefused b piece e

-- what it answers to an octet
pub record IsRefusedOctet (b : List ℕ) (x : ℕ) (e : HeaderError) : Type 0 where
  pub before : judged b ≡ Ok None
  pub on : (c : List ℕ) → judged (b ++ x ∷ c) ≡ Err e

abbrev pub TookOctet : HeaderReader → List ℕ → ℕ → Result (Unit {0}) HeaderError → Type 0
TookOctet r b x (Ok u) = Follows r (b ++ x ∷ [])
TookOctet r b x (Err e) = IsRefusedOctet b x e
