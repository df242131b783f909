-- A header in numbers, and the header that these tell.
use Rattle.std.proofs.Common.{◌≡◌, ℕ, ◌+◌, ◌<◌, ◌^◌, Bool, true, false, List, ◌++◌, length, get_or, refl, sym, ap, ◌∙◌, append_assoc, arith}
use Rattle.std.proofs.Common.{Option, Some, None, Result, Ok, Err, subst}
use Rattle.std.specs.Prelude.{◌==◌, ◌||◌, if◌then◌else◌}
use Rattle.std.specs.List.{concat}
use Rattle.std.proofs.lemmas.Bool.{eqb-true}
use Rattle.std.proofs.lemmas.List.{get_or_append_left, get_or-append-add}
use Rattle.aes3_wave.specs.declared.chunk.Known.{Known}
use Rattle.aes3_wave.specs.declared.chunk.WaveHeader.{WaveHeader}
use Rattle.aes3_wave.specs.declared.header_error.HeaderError.{HeaderError}
use Rattle.aes3_wave.specs.declared.wave_format.Container.{Container}
use Rattle.aes3_wave.specs.declared.wave_format.Container.TheVariants.{Octets1, Octets2, Octets3, Octets4}
use Rattle.aes3_wave.specs.declared.wave_format.WaveFormat.{WaveFormat}
use Rattle.aes3_wave.specs.declared.wave_format.Width.{Width}
use Rattle.aes3_wave.specs.declared.wave_format.Width.TheVariants.{Bits8, Bits16, Bits20, Bits24, Bits32}
use Rattle.aes3_wave.specs.Chunks.{content_len}
use Rattle.aes3_wave.specs.Formats.{container_len}
use Rattle.aes3_wave.specs.Headers.{header_at, judged, named, named_in, samples_len}
use Rattle.aes3_wave.proofs.Made.{has-parts}
use Rattle.aes3_c.specs.Wav.{container_in, header_in, len_code, len_in, wav_of, width_bits, width_in}

-- ---- the greatest number is no length that is named

abbrev greatest : ℕ
greatest = 18446744073709551615

some-named : (t : Bool) (n m : ℕ) → (if t then None else Some n) ≡ Some m → (t ≡ false) × (n ≡ m)
some-named true n m e = absurd (none-some m e)
  where
    none-some : (m : ℕ) → ◌≡◌ {A = Option ℕ} None (Some m) → ⊥
    none-some m e = cc
some-named false n m e = (refl, same e)
  where
    same : ◌≡◌ {A = Option ℕ} (Some n) (Some m) → n ≡ m
    same e = cc

named-apart : (g n : ℕ) → named g n ≡ Some greatest → (n ≡ greatest) × (((n == 0) || (n == g)) ≡ false)
named-apart g n e = let p = some-named ((n == 0) || (n == g)) n greatest e in (p.1, p.0)

long-apart : (o : Option ℕ) → named_in o ≡ Some greatest → ⊥
long-apart None e = none-some e
  where
    none-some : ◌≡◌ {A = Option ℕ} None (Some greatest) → ⊥
    none-some e = cc
long-apart (Some n) e =
    let p = named-apart greatest n e in
    true-false (ap (λ k. (k == 0) || (k == greatest)) (sym p.0) ∙ p.1)
  where
    true-false : true ≡ false → ⊥
    true-false e = cc

pick : (t : Bool) (a b : Option ℕ) → (a ≡ Some greatest → ⊥) → (b ≡ Some greatest → ⊥)
    → (if t then a else b) ≡ Some greatest → ⊥
pick true a b f g = f
pick false a b f g = g

samples-apart : (k : Known) (n : ℕ) → n < 2 ^ 32 → samples_len k n ≡ Some greatest → ⊥
samples-apart k n h =
    pick _ (named_in k.sizes) (named 4294967295 n) (long-apart k.sizes)
    (λ e. let p = named-apart 4294967295 n e in too-great (sym p.0))
  where
    too-great : greatest ≡ n → ⊥
    too-great e = omega (arith, e)

-- a number in octets among others
content-few : (b pre last more : List ℕ) → b ≡ pre ++ (last ++ more) → length last ≡ 8
    → ((i : ℕ) → get_or b i 0 < 256) → content_len last < 2 ^ 32
content-few b pre last more e eight h =
    let f = few 4 (omega arith) in
    let g = few 5 (omega arith) in
    let j = few 6 (omega arith) in
    let k = few 7 (omega arith) in
    omega arith
  where
    few : (i : ℕ) → i < 8 → get_or last i 0 < 256
    few i q =
        subst (λ n. n < 256)
        (ap (λ v. get_or v (length pre + i) 0) e ∙ get_or-append-add pre (last ++ more) i 0
        ∙ get_or_append_left last more 0 i (omega (arith, q)))
        (h (length pre + i))

header-apart : (at : ℕ) (len : Option ℕ) (o : Option WaveFormat) (header : WaveHeader)
    → header_at at len o ≡ Ok header → len ≡ header.len
header-apart at len None header e = absurd (err-ok e)
  where
    err-ok : {x : HeaderError} → ◌≡◌ {A = Result WaveHeader HeaderError} (Err x) (Ok header) → ⊥
    err-ok e = cc
header-apart at len (Some format) header e = ap len_of e
  where
    len_of : Result WaveHeader HeaderError → Option ℕ
    len_of (Ok header) = header.len
    len_of (Err e) = len

len-apart : (b : List ℕ) (header : WaveHeader) → ((i : ℕ) → get_or b i 0 < 256) → judged b ≡ Ok (Some header)
    → header.len ≡ Some greatest → ⊥
len-apart b header h j e =
    let p = has-parts b header j in
    samples-apart p.known (content_len p.last)
    (content-few b (p.first ++ concat p.chunks) p.last p.more
    (p.is ∙ sym (append_assoc p.first (concat p.chunks) (p.last ++ p.more))) p.parts.eight h)
    (header-apart (12 + length (concat p.chunks)) (samples_len p.known (content_len p.last)) p.known.format header p.says ∙ e)

-- ---- there and back

len-back : (o : Option ℕ) → (o ≡ Some greatest → ⊥) → len_in (len_code o) ≡ o
len-back None h = refl
len-back (Some n) h = go (n == greatest) refl
  where
    go : (t : Bool) → (n == greatest) ≡ t → (if t then None else Some n) ≡ Some n
    go true e = absurd (h (ap Some (eqb-true n greatest e)))
    go false e = refl

container-back : (c : Container) → container_in (container_len c) ≡ c
container-back Octets1 = refl
container-back Octets2 = refl
container-back Octets3 = refl
container-back Octets4 = refl

width-back : (w : Width) → width_in (width_bits w) ≡ w
width-back Bits8 = refl
width-back Bits16 = refl
width-back Bits20 = refl
width-back Bits24 = refl
width-back Bits32 = refl

pub header-back : (b : List ℕ) (header : WaveHeader) → ((i : ℕ) → get_or b i 0 < 256) → judged b ≡ Ok (Some header)
    → header_in (wav_of header) ≡ header
header-back b header h j =
    ap (λ c. made c (width_in (width_bits header.format.width)) (len_in (len_code header.len))) (container-back header.format.container)
    ∙ ap (λ w. made header.format.container w (len_in (len_code header.len))) (width-back header.format.width)
    ∙ ap (made header.format.container header.format.width) (len-back header.len (len-apart b header h j))
  where
    made : Container → Width → Option ℕ → WaveHeader
    made c w len = record {
      format = record { channels = header.format.channels; rate = header.format.rate; container = c; width = w };
      start = header.start;
      len = len;
    }
