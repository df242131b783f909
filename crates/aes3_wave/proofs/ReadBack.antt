-- Headers that are written, read again.
use Rattle.std.proofs.Common.{◌≡◌, ◌==◌, ◌||◌, ◌&&◌, true, false, Bool, ℕ, ◌+◌, ◌/◌, ◌<◌, ◌^◌, List, ◌++◌, length}
use Rattle.std.proofs.Common.{refl, subst, sym, ap, ap₂, ◌∙◌, arith, append_assoc}
use Rattle.std.specs.Prelude.{if◌then◌else◌, nat_lt, Option, Some, None, Ok}
use Rattle.std.specs.Option.{ForSome}
use Rattle.std.specs.Int.{to_le_bytes, w32, w64}
use Rattle.std.proofs.lemmas.Bool.{ltb-true, ne_eqb}
use Rattle.std.proofs.lemmas.List.{length-append}
use Rattle.aes3_wave.specs.declared.chunk.Known.{Known}
use Rattle.aes3_wave.specs.declared.header_writing.Depth.{Depth}
use Rattle.aes3_wave.specs.declared.header_writing.Depth.TheVariants.{Sixteen, TwentyFour, ThirtyTwo}
use Rattle.aes3_wave.specs.Octets.{u32_at, u64_at}
use Rattle.aes3_wave.specs.Formats.{format_of}
use Rattle.aes3_wave.specs.Chunks.{head, known_with}
use Rattle.aes3_wave.specs.Headers.{Judged, judged, judged_from, named, named_in, samples_len}
use Rattle.aes3_wave.specs.Written.{data_head, file_len, format_chunk, format_len, frame_octets, junk, rf64, riff, sizes}
use Rattle.aes3_wave.specs.Written.{written, written_format, written_known}
use Rattle.aes3_wave.specs.Laws.{IsChunk, read_len}
use Rattle.aes3_wave.proofs.Chunks.{data-on}
use Rattle.aes3_wave.proofs.Parts.{chunk-read, first-read}

-- ---- numbers

number-back : (n : ℕ) → n < 2 ^ 32 → u32_at (to_le_bytes w32 n) 0 ≡ n
number-back n h = omega (arith, h)

long-back : (n : ℕ) → n < 2 ^ 64 → u64_at (to_le_bytes w64 n) 0 ≡ n
long-back n h = omega (arith, h)

-- ---- chunks

format-chunk : (depth : Depth) (rate : ℕ) → IsChunk (format_chunk depth rate)
format-chunk Sixteen rate = record { head = omega arith; whole = refl; other = refl }
format-chunk TwentyFour rate = record { head = omega arith; whole = refl; other = refl }
format-chunk ThirtyTwo rate = record { head = omega arith; whole = refl; other = refl }

format-length : (depth : Depth) (rate : ℕ) → length (format_chunk depth rate) ≡ 8 + format_len depth
format-length Sixteen rate = refl
format-length TwentyFour rate = refl
format-length ThirtyTwo rate = refl

abbrev known_of : Bool → Option ℕ → Known
known_of long n = record { is_long = long; sizes = n; format = None }

abbrev known_as : Bool → Option ℕ → Depth → ℕ → Known
known_as long n depth rate = record { is_long = long; sizes = n; format = Some (written_format depth rate) }

format-said : (long : Bool) (n : Option ℕ) (depth : Depth) (rate : ℕ)
    → known_with (known_of long n) (head (known_of long n) (format_chunk depth rate))
    ≡ Ok (known_as long n depth (u32_at (to_le_bytes w32 rate) 0))
unfolding known_with format_of
format-said long n Sixteen rate = refl
format-said long n TwentyFour rate = refl
format-said long n ThirtyTwo rate = refl

format-read : (at : ℕ) (long : Bool) (n : Option ℕ) (depth : Depth) (rate : ℕ) (c : List ℕ) → rate < 2 ^ 32
    → judged_from at (known_of long n) (format_chunk depth rate ++ c)
    ≡ judged_from (at + (8 + format_len depth)) (known_as long n depth rate) c
format-read at long n depth rate c h =
    chunk-read at (known_of long n) (known_as long n depth rate) (format_chunk depth rate) c (format-chunk depth rate)
    (format-said long n depth rate ∙ ap (λ r. Ok (known_as long n depth r)) (number-back rate h))
    ∙ ap (λ m. judged_from (at + m) (known_as long n depth rate) c) (format-length depth rate)

junk-read : (at : ℕ) (c : List ℕ)
    → judged_from at (known_of false None) (junk ++ c) ≡ judged_from (at + 36) (known_of false None) c
unfolding known_with
junk-read at c =
    chunk-read at (known_of false None) (known_of false None) junk c
    (record { head = omega arith; whole = refl; other = refl }) refl

sizes-said : (all n frames : ℕ)
    → known_with (known_of true None) (head (known_of true None) (sizes all n frames))
    ≡ Ok (known_of true (Some (u64_at (to_le_bytes w64 n) 0)))
unfolding known_with
sizes-said all n frames = refl

sizes-read : (at all n frames : ℕ) (c : List ℕ) → n < 2 ^ 64
    → judged_from at (known_of true None) (sizes all n frames ++ c)
    ≡ judged_from (at + 36) (known_of true (Some n)) c
sizes-read at all n frames c h =
    chunk-read at (known_of true None) (known_of true (Some n)) (sizes all n frames) c
    (record { head = omega arith; whole = refl; other = refl })
    (sizes-said all n frames ∙ ap (λ m. Ok (known_of true (Some m))) (long-back n h))

-- ---- the end of the header

abbrev read_as : Depth → ℕ → ℕ → Option ℕ → Judged
read_as depth rate start len =
    Ok (Some (record { format = written_format depth rate; start = start; len = len }))

data-read : (at : ℕ) (long : Bool) (sizes : Option ℕ) (depth : Depth) (rate n : ℕ) (c : List ℕ) → n < 2 ^ 32
    → judged_from at (known_as long sizes depth rate) (data_head n ++ c)
    ≡ read_as depth rate (at + 8) (samples_len (known_as long sizes depth rate) n)
data-read at long sizes depth rate n c h =
    data-on at (known_as long sizes depth rate) (data_head n) c (omega arith) refl
    ∙ ap (λ m. read_as depth rate (at + 8) (samples_len (known_as long sizes depth rate) m)) (number-back n h)

named-else : (greatest n : ℕ) → n < greatest → named greatest n ≡ read_len (Some n)
named-else greatest n h =
    ap (λ t. if n == 0 || t then None else Some n) (ne_eqb n greatest (λ e. absurd (omega arith)))
    ∙ go (n == 0)
  where
    go : (t : Bool) → (if t || false then None else Some n) ≡ (if t then None else Some n)
    go true = refl
    go false = refl

short-len : (depth : Depth) (rate n : ℕ) → n < 4294967295
    → samples_len (known_as false None depth rate) n ≡ read_len (Some n)
short-len depth rate n h =
    ap (λ t. if t && false then named_in None else named 4294967295 n)
    (ne_eqb n 4294967295 (λ e. absurd (omega arith)))
    ∙ named-else 4294967295 n h

-- ---- the whole header

regroup : (a b c d e : List ℕ) → a ++ b ++ c ++ d ++ e ≡ a ++ (b ++ (c ++ (d ++ e)))
regroup a b c d e =
    append_assoc (a ++ b ++ c) d e ∙ append_assoc (a ++ b) c (d ++ e) ∙ append_assoc a b (c ++ (d ++ e))

start-known : (a b : List ℕ) (depth : Depth) (rate n : ℕ) → length a ≡ 12 → length b ≡ 36
    → 12 + 36 + (8 + format_len depth) + 8 ≡ length (a ++ b ++ format_chunk depth rate ++ data_head n)
start-known a b depth rate n p q =
    let d = length-append (a ++ b ++ format_chunk depth rate) (data_head n) in
    let e = length-append (a ++ b) (format_chunk depth rate) in
    let f = length-append a b in
    let g = format-length depth rate in
    let h : length (data_head n) ≡ 8 = refl in
    omega arith

unknown-read : (depth : Depth) (rate : ℕ) (c : List ℕ) → rate < 2 ^ 32
    → judged (written depth rate None ++ c) ≡ read_as depth rate (length (written depth rate None)) None
unknown-read depth rate c h =
    ap judged (regroup (riff 4294967295) junk (format_chunk depth rate) (data_head 4294967295) c)
    ∙ first-read (riff 4294967295) (junk ++ (format_chunk depth rate ++ (data_head 4294967295 ++ c))) (known_of false None)
    refl refl
    ∙ junk-read 12 (format_chunk depth rate ++ (data_head 4294967295 ++ c))
    ∙ format-read (12 + 36) false None depth rate (data_head 4294967295 ++ c) h
    ∙ data-read (12 + 36 + (8 + format_len depth)) false None depth rate 4294967295 c (omega arith)
    ∙ ap (λ m. read_as depth rate m None) (start-known (riff 4294967295) junk depth rate 4294967295 refl refl)

short-read : (depth : Depth) (rate n : ℕ) (c : List ℕ) → rate < 2 ^ 32 → file_len depth n < 4294967295
    → judged (riff (file_len depth n) ++ junk ++ format_chunk depth rate ++ data_head n ++ c)
    ≡ read_as depth rate (length (riff (file_len depth n) ++ junk ++ format_chunk depth rate ++ data_head n))
    (read_len (Some n))
short-read depth rate n c h few =
    let all = file_len depth n in
    ap judged (regroup (riff all) junk (format_chunk depth rate) (data_head n) c)
    ∙ first-read (riff all) (junk ++ (format_chunk depth rate ++ (data_head n ++ c))) (known_of false None) refl refl
    ∙ junk-read 12 (format_chunk depth rate ++ (data_head n ++ c))
    ∙ format-read (12 + 36) false None depth rate (data_head n ++ c) h
    ∙ data-read (12 + 36 + (8 + format_len depth)) false None depth rate n c (omega arith)
    ∙ ap₂ (read_as depth rate) (start-known (riff all) junk depth rate n refl refl)
    (short-len depth rate n (omega arith))

long-read : (depth : Depth) (rate n frames : ℕ) (c : List ℕ) → rate < 2 ^ 32 → n < 2 ^ 63
    → judged (rf64 ++ sizes (file_len depth n) n frames ++ format_chunk depth rate ++ data_head 4294967295 ++ c)
    ≡ read_as depth rate (length (rf64 ++ sizes (file_len depth n) n frames ++ format_chunk depth rate
    ++ data_head 4294967295)) (read_len (Some n))
long-read depth rate n frames c h few =
    let s = sizes (file_len depth n) n frames in
    ap judged (regroup rf64 s (format_chunk depth rate) (data_head 4294967295) c)
    ∙ first-read rf64 (s ++ (format_chunk depth rate ++ (data_head 4294967295 ++ c))) (known_of true None) refl refl
    ∙ sizes-read 12 (file_len depth n) n frames (format_chunk depth rate ++ (data_head 4294967295 ++ c)) (omega arith)
    ∙ format-read (12 + 36) true (Some n) depth rate (data_head 4294967295 ++ c) h
    ∙ data-read (12 + 36 + (8 + format_len depth)) true (Some n) depth rate 4294967295 c (omega arith)
    ∙ ap₂ (read_as depth rate) (start-known rf64 s depth rate 4294967295 refl refl)
    (named-else 18446744073709551615 n (omega arith))

abbrev chosen : Depth → ℕ → ℕ → Bool → List ℕ
chosen depth rate n t =
    if t
    then riff (file_len depth n) ++ junk ++ format_chunk depth rate ++ data_head n
    else rf64 ++ sizes (file_len depth n) n (n / frame_octets depth) ++ format_chunk depth rate ++ data_head 4294967295

pub written-read : (depth : Depth) (rate : ℕ) (len : Option ℕ) (c : List ℕ) → rate < 2 ^ 32
    → ForSome len (λ n. n < 2 ^ 63)
    → judged (written depth rate len ++ c) ≡ read_as depth rate (length (written depth rate len)) (read_len len)
written-read depth rate None c h few = unknown-read depth rate c h
written-read depth rate (Some n) c h few = go (nat_lt (file_len depth n) 4294967295) refl
  where
    go : (t : Bool) → nat_lt (file_len depth n) 4294967295 ≡ t
        → judged (written_known depth rate n ++ c)
        ≡ read_as depth rate (length (written_known depth rate n)) (read_len (Some n))
    go true e =
        subst (λ v. judged (v ++ c) ≡ read_as depth rate (length v) (read_len (Some n)))
        (sym (ap (chosen depth rate n) e)) (short-read depth rate n c h (ltb-true (file_len depth n) 4294967295 e))
    go false e =
        subst (λ v. judged (v ++ c) ≡ read_as depth rate (length v) (read_len (Some n)))
        (sym (ap (chosen depth rate n) e)) (long-read depth rate n (n / frame_octets depth) c h (few n refl))
