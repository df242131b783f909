-- The bits of a channel's status that tell which settings it takes, by the frames of a block.
use Rattle.std.proofs.Common.{◌≡◌, ℕ, zero, suc, ◌+◌, ◌-◌, ◌*◌, ◌/◌, ◌%◌, ◌<◌, ◌≤◌, ◌⊎◌, inl, inr, List, [], ◌∷◌, ◌++◌}
use Rattle.std.proofs.Common.{Bool, true, false, take, drop, get_or, Some, refl, ap, ◌∙◌, sym, arith}
use Rattle.std.specs.Prelude.{slice_get}
use Rattle.std.proofs.lemmas.Bool.{cases_lt}
use Rattle.std.proofs.lemmas.List.{get_or-append_right, get_or_append_left, get_or-drop, get_or-take}
use Rattle.std.proofs.lemmas.Option.{get_or_from_slice_get}
use Rattle.aes3_bits.specs.Bits.{low_bits, number}
use Rattle.aes3_bits.proofs.Bits.{length-low_bits}
use Rattle.aes3_frame.specs.declared.subframe.Subframe.{Subframe}
use Rattle.aes3_frame.specs.declared.block.Channel.{Channel}
use Rattle.aes3_frame.specs.declared.block.Channel.TheVariants.{First, Second}
use Rattle.aes3_frame.specs.Subframes.{bits_of}
use Rattle.aes3_frame.specs.Statuses.{bytes_in, status_bits, status_len, status_of, status_place}
use Rattle.aes3_frame.proofs.StatusBits.{bits-get, first-get, second-get, status-get}
use Rattle.aes3_status.specs.Bits as status
use Rattle.aes3_status.specs.Taken.{telling_bits}

-- the bits of a number of bits
low-number-at : (n j : ℕ) (bits : List Bool) → j < n → get_or (low_bits n (number bits)) j false ≡ get_or bits j false
low-number-at zero j bits l = absurd (omega arith)
low-number-at (suc n) zero [] l = refl
low-number-at (suc n) (suc j) [] l = low-number-at n j [] (omega arith)
low-number-at (suc n) zero (true ∷ bits) l =
    let e : (1 + 2 * number bits) % 2 ≡ 1 = omega arith in
    rw e refl
low-number-at (suc n) zero (false ∷ bits) l =
    let e : (0 + 2 * number bits) % 2 ≡ 0 = omega arith in
    rw e refl
low-number-at (suc n) (suc j) (true ∷ bits) l =
    let e : (1 + 2 * number bits) / 2 ≡ number bits = omega arith in
    ap (λ w. get_or (low_bits n w) j false) e ∙ low-number-at n j bits (omega arith)
low-number-at (suc n) (suc j) (false ∷ bits) l =
    let e : (0 + 2 * number bits) / 2 ≡ number bits = omega arith in
    ap (λ w. get_or (low_bits n w) j false) e ∙ low-number-at n j bits (omega arith)

-- and of the bytes that bits make
bytes-bit : (n j : ℕ) (bits : List Bool) → j < 8 * n
    → get_or (status.status_bits (bytes_in n bits)) j false ≡ get_or bits j false
unfolding status.byte_bits
bytes-bit zero j bits l = absurd (omega arith)
bytes-bit (suc n) j bits l = go (λ k. bytes-bit n (j - 8) (drop 8 bits) (omega arith)) (cases_lt j 8)
  where
    go : (8 ≤ j → get_or (status.status_bits (bytes_in n (drop 8 bits))) (j - 8) false
        ≡ get_or (drop 8 bits) (j - 8) false)
        → (j < 8) ⊎ (8 ≤ j)
        → get_or (low_bits 8 (number (take 8 bits)) ++ status.status_bits (bytes_in n (drop 8 bits))) j false
        ≡ get_or bits j false
    go more (inl k) =
        get_or_append_left (low_bits 8 (number (take 8 bits))) (status.status_bits (bytes_in n (drop 8 bits))) false j
        (omega (arith, length-low_bits 8 (number (take 8 bits))))
        ∙ low-number-at 8 j (take 8 bits) k ∙ get_or-take 8 bits j false k
    go more (inr k) =
        get_or-append_right (low_bits 8 (number (take 8 bits))) (status.status_bits (bytes_in n (drop 8 bits))) 8 j
        false (length-low_bits 8 (number (take 8 bits))) k
        ∙ more k ∙ get_or-drop 8 bits (j - 8) false
        ∙ ap (λ i. get_or bits i false) (let e : 8 + (j - 8) ≡ j = omega arith in e)

status-bit : (b : List (List Bool)) (channel : Channel) (j : ℕ) → j < 192
    → get_or (status_bits b channel) j false ≡ get_or (status.status_bits (status_of b channel)) j false
unfolding status_of status_len
status-bit b channel j l = sym (bytes-bit 24 j (status_bits b channel) (omega arith))

pub bits-tell : (b : List (List Bool)) (channel : Channel) {first second third fourth fifth sixth : Bool}
    → first ≡ get_or (status_bits b channel) 0 false → second ≡ get_or (status_bits b channel) 1 false
    → third ≡ get_or (status_bits b channel) 16 false → fourth ≡ get_or (status_bits b channel) 17 false
    → fifth ≡ get_or (status_bits b channel) 18 false → sixth ≡ get_or (status_bits b channel) 32 false
    → first ∷ second ∷ third ∷ fourth ∷ fifth ∷ sixth ∷ [] ≡ telling_bits (status_of b channel)
unfolding telling_bits
bits-tell b channel p q r s t u =
    let a = p ∙ status-bit b channel 0 (omega arith) in
    let c = q ∙ status-bit b channel 1 (omega arith) in
    let d = r ∙ status-bit b channel 16 (omega arith) in
    let e = s ∙ status-bit b channel 17 (omega arith) in
    let f = t ∙ status-bit b channel 18 (omega arith) in
    let g = u ∙ status-bit b channel 32 (omega arith) in
    cc

-- the bit in a frame
pub first-bit : (b : List (List Bool)) (channel : Channel) (i : ℕ) (s : Subframe) → channel ≡ First
    → slice_get b (2 * i) ≡ Some (bits_of s) → s.c ≡ get_or (status_bits b channel) i false
first-bit b channel i s e g =
    sym (ap (λ v. get_or (status_bits b v) i false) e
    ∙ get_or_from_slice_get (status_bits b First) i s.c false
    (bits-get status_place b First i (bits_of s) s.c (first-get b i (bits_of s) g) (status-get s)))

pub second-bit : (b : List (List Bool)) (channel : Channel) (i : ℕ) (s : Subframe) → channel ≡ Second
    → slice_get b (2 * i + 1) ≡ Some (bits_of s) → s.c ≡ get_or (status_bits b channel) i false
second-bit b channel i s e g =
    sym (ap (λ v. get_or (status_bits b v) i false) e
    ∙ get_or_from_slice_get (status_bits b Second) i s.c false
    (bits-get status_place b Second i (bits_of s) s.c (second-get b i (bits_of s) g) (status-get s)))
