-- Frames of two samples in a form: they are made samples of 32 bits as the form makes them.
use Rattle.std.proofs.Common.{◌≡◌, ℕ, zero, suc, ◌+◌, ◌-◌, ◌*◌, ◌≤◌, List, [], ◌∷◌, ◌++◌, Some, length, take, drop}
use Rattle.std.proofs.Common.{refl, sym, ap, ap₂, ◌∙◌, arith, take-append-drop}
use Rattle.std.proofs.lemmas.List.{length-take-le, nil_from_length, take-take, take_at}
use Rattle.aes3_forms_samples.specs.declared.sample_format.SampleFormat.{SampleFormat}
use Rattle.aes3_forms_samples.specs.declared.sample_format.SampleFormat.TheVariants.{S16, S24, S24In32, S32}
use Rattle.aes3_forms_samples.specs.Formats.{block_len, wide_threes, wide_twos, widened}
use Rattle.aes3_wave.specs.declared.wave_format.Container.{Container}
use Rattle.aes3_wave.specs.declared.wave_format.WaveFormat.{WaveFormat}
use Rattle.aes3_wave.specs.declared.wave_format.Width.{Width}
use Rattle.aes3_wave.specs.declared.channels.Channels.{Channels}
use Rattle.aes3_wave.specs.declared.header_writing.Depth.{Depth}
use Rattle.aes3_wave.specs.declared.header_writing.Depth.TheVariants.{Sixteen, TwentyFour, ThirtyTwo}
use Rattle.aes3_wave.specs.Formats.{frame_len}
use Rattle.aes3_wave.specs.Samples.{two_samples}
use Rattle.aes3_wave.specs.Written.{written_format}
use Rattle.aes3_wave_runs.specs.Frames.{IsForm, parts_of}
use Rattle.aes3_wave_runs.proofs.FrameSteps.{eight}
use Rattle.aes3_wave_runs.proofs.Parts.{length-parts, parts-join, parts-take}

-- the samples of frames of two channels, of so many octets each
abbrev pub pair_of : Depth → ℕ → List ℕ → List ℕ
pair_of depth rate = two_samples (written_format depth rate) (record { first = 0; second = Some 1 })

pub none-there : (c : List ℕ) → length c ≡ 0 → c ≡ []
none-there c h = nil_from_length c h

pub sixteen : (rate n : ℕ) (c : List ℕ) → length c ≡ n * 4 → parts_of (pair_of Sixteen rate) 4 n c ≡ wide_twos c
unfolding parts_of
sixteen rate zero c h = ap wide_twos (sym (none-there c (omega arith)))
sixteen rate (suc n) (a ∷ b ∷ c ∷ d ∷ r) h =
    ap (λ v. 0 ∷ 0 ∷ a ∷ b ∷ 0 ∷ 0 ∷ c ∷ d ∷ v) (sixteen rate n r (omega arith))
sixteen rate (suc n) _ h = absurd (omega arith)

pub twenty-four : (rate n : ℕ) (c : List ℕ) → length c ≡ n * 6 → parts_of (pair_of TwentyFour rate) 6 n c ≡ wide_threes c
unfolding parts_of
twenty-four rate zero c h = ap wide_threes (sym (none-there c (omega arith)))
twenty-four rate (suc n) (a ∷ b ∷ c ∷ d ∷ e ∷ f ∷ r) h =
    ap (λ v. 0 ∷ a ∷ b ∷ c ∷ 0 ∷ d ∷ e ∷ f ∷ v) (twenty-four rate n r (omega arith))
twenty-four rate (suc n) _ h = absurd (omega arith)

pub thirty-two : (rate n : ℕ) (c : List ℕ) → length c ≡ n * 8 → parts_of (pair_of ThirtyTwo rate) 8 n c ≡ c
unfolding parts_of
thirty-two rate zero c h = sym (none-there c (omega arith))
thirty-two rate (suc n) (a ∷ b ∷ c ∷ d ∷ e ∷ f ∷ g ∷ i ∷ r) h =
    ap (λ v. a ∷ b ∷ c ∷ d ∷ e ∷ f ∷ g ∷ i ∷ v) (thirty-two rate n r (omega arith))
thirty-two rate (suc n) _ h = absurd (omega arith)

-- a block of frames whose octets are samples in a form
same-frames : (f : WaveFormat) (channels : Channels) (depth : Depth) (n : ℕ) (b : List ℕ)
    → f ≡ written_format depth f.rate → channels ≡ record { first = 0; second = Some 1 }
    → parts_of (two_samples f channels) (frame_len f) n b
    ≡ parts_of (pair_of depth f.rate) (frame_len (written_format depth f.rate)) n b
same-frames f channels depth n b is order =
    ap₂ (λ g c. parts_of (two_samples g c) (frame_len g) n b) is order

abbrev format_made : ℕ → ℕ → Container → Width → WaveFormat
format_made channels rate container width =
    record { channels = channels; rate = rate; container = container; width = width }

format-is : (f : WaveFormat) (depth : Depth) → f.channels ≡ 2
    → f.container ≡ (written_format depth f.rate).container → f.width ≡ (written_format depth f.rate).width
    → f ≡ written_format depth f.rate
format-is f depth two container width =
    let is : f ≡ format_made f.channels f.rate f.container f.width = refl in
    is ∙ ap (λ c. format_made c f.rate f.container f.width) two
    ∙ ap₂ (λ c w. format_made 2 f.rate c w) container width

block-parts : (f : WaveFormat) (channels : Channels) (form : SampleFormat) (b : List ℕ) → IsForm f channels form
    → 1536 ≤ length b
    → parts_of (two_samples f channels) (frame_len f) 192 b ≡ widened form (take (block_len form) b)
unfolding block_len
block-parts f channels S16 b is long =
    same-frames f channels Sixteen 192 b (format-is f Sixteen is.two is.bits.0 is.bits.1) is.order
    ∙ sym (parts-take (pair_of Sixteen f.rate) 4 192 768 b (omega (arith, long)) (omega arith))
    ∙ sixteen f.rate 192 (take 768 b) (length-take-le 768 b (omega (arith, long)))
block-parts f channels S24 b is long =
    same-frames f channels TwentyFour 192 b (format-is f TwentyFour is.two is.bits.0 is.bits.1) is.order
    ∙ sym (parts-take (pair_of TwentyFour f.rate) 6 192 1152 b (omega (arith, long)) (omega arith))
    ∙ twenty-four f.rate 192 (take 1152 b) (length-take-le 1152 b (omega (arith, long)))
block-parts f channels S24In32 b is long = absurd is.bits
block-parts f channels S32 b is long =
    same-frames f channels ThirtyTwo 192 b (format-is f ThirtyTwo is.two is.bits.0 is.bits.1) is.order
    ∙ sym (parts-take (pair_of ThirtyTwo f.rate) 8 192 1536 b (omega (arith, long)) (omega arith))
    ∙ thirty-two f.rate 192 (take 1536 b) (length-take-le 1536 b (omega (arith, long)))

pub frame-most : (f : WaveFormat) (channels : Channels) (form : SampleFormat) (n : ℕ) → IsForm f channels form → n ≤ 192
    → n * frame_len f ≤ 1536
frame-most f channels S16 n is few =
    let e = ap (λ g. n * frame_len g) (format-is f Sixteen is.two is.bits.0 is.bits.1) in omega arith
frame-most f channels S24 n is few =
    let e = ap (λ g. n * frame_len g) (format-is f TwentyFour is.two is.bits.0 is.bits.1) in omega arith
frame-most f channels S24In32 n is few = absurd is.bits
frame-most f channels S32 n is few =
    let e = ap (λ g. n * frame_len g) (format-is f ThirtyTwo is.two is.bits.0 is.bits.1) in omega arith

-- frames whose octets are samples of 32 bits: what is made of them are these octets
wide-is : (f : WaveFormat) (channels : Channels) → IsForm f channels S32 → f ≡ written_format ThirtyTwo f.rate
wide-is f channels is = format-is f ThirtyTwo is.two is.bits.0 is.bits.1

wide-len : (f : WaveFormat) (channels : Channels) (n : ℕ) → IsForm f channels S32 → n * frame_len f ≡ 8 * n
wide-len f channels n is = let e = ap (λ g. n * frame_len g) (wide-is f channels is) in omega arith

pub wide-frames : (f : WaveFormat) (channels : Channels) (n k : ℕ) (b : List ℕ) → IsForm f channels S32
    → k ≡ n * frame_len f → k ≤ length b
    → take k b ≡ parts_of (two_samples f channels) (frame_len f) n b
wide-frames f channels n k b is count long =
    let e = wide-len f channels n is in
    sym (same-frames f channels ThirtyTwo n b (wide-is f channels is) is.order
    ∙ sym (parts-take (pair_of ThirtyTwo f.rate) 8 n k b (omega arith) (omega arith))
    ∙ thirty-two f.rate n (take k b) (length-take-le k b long ∙ omega arith))

-- what is made of the first n parts of some more
front-made : (made : List ℕ → List ℕ) (len n m : ℕ) (b : List ℕ) → ((v : List ℕ) → length (made v) ≡ 8) → n ≤ m
    → n * len ≤ length b → take (8 * n) (parts_of made len m b) ≡ parts_of made len n (take (n * len) b)
front-made made len n m b h few long =
    let p = take (n * len) b in
    let q = drop (n * len) b in
    let e : p ++ q ≡ b = take-append-drop (n * len) b in
    let k : m ≡ n + (m - n) = omega arith in
    ap (λ v. take (8 * n) (parts_of made len m v)) (sym e) ∙ ap (λ j. take (8 * n) (parts_of made len j (p ++ q))) k
    ∙ ap (take (8 * n)) (parts-join made len n (m - n) p q (length-take-le (n * len) b long))
    ∙ take_at (parts_of made len n p) (parts_of made len (m - n) q) (8 * n) (length-parts made len n p h)

-- the first frames of octets b, of which a block has the first k
pub first-frames : (f : WaveFormat) (channels : Channels) (form : SampleFormat) (n k : ℕ) (b block : List ℕ)
    → IsForm f channels form → length block ≡ 1536 → n ≤ 192 → n * frame_len f ≤ length b → n * frame_len f ≤ k
    → take k block ≡ take k b
    → take (8 * n) (widened form (take (block_len form) block))
    ≡ parts_of (two_samples f channels) (frame_len f) n b
first-frames f channels form n k b block is long few enough within same =
    let made = two_samples f channels in
    let len = frame_len f in
    let most = frame-most f channels form n is few in
    let front : take (n * len) block ≡ take (n * len) b =
    sym (take-take (n * len) k block within) ∙ ap (take (n * len)) same ∙ take-take (n * len) k b within in
    ap (take (8 * n)) (sym (block-parts f channels form block is (omega arith)))
    ∙ front-made made len n 192 block (eight f channels) few (omega arith)
    ∙ ap (parts_of made len n) front ∙ parts-take made len n (n * len) b enough (omega arith)
