-- The V, U and C bits of a block, read and written frame by frame.
use mir.Val.{bool_byte}
use Rattle.std.proofs.Common.{◌≡◌, ℕ, zero, suc, ◌+◌, ◌-◌, ◌*◌, ◌/◌, ◌%◌, ◌^◌, ◌<◌, ◌≤◌, ◌⊎◌, inl, inr, List, [], ◌∷◌}
use Rattle.std.proofs.Common.{◌++◌, Bool, true, false, cond, eqb, length, take, drop, get_or, set, Some, None, refl}
use Rattle.std.proofs.Common.{sym, ap, ap₂, ◌∙◌, arith, add-one, length-append}
use Rattle.std.specs.Prelude.{slice_get, bit_or, bit_and}
use Rattle.std.specs.Int.{bit_at}
use Rattle.std.specs.Int.Bits.{or_shifted_r}
use Rattle.std.specs.Option.{option_map}
use Rattle.std.proofs.lemmas.Nat.{shl_whole}
use Rattle.std.proofs.lemmas.Bool.{cases_lt}
use Rattle.std.proofs.lemmas.List.{take_more, take_more_set, take_all, length-take-le, get_or-append-add}
use Rattle.std.proofs.lemmas.List.{get_or_append_left, drop-drop}
use Rattle.std.proofs.lemmas.Option.{slice_get-map, slice_get-get_or, slice_get_within, get_or_from_slice_get}
use Rattle.aes3_bits.specs.Bits.{low_bits, number}
use Rattle.aes3_bits.proofs.Bits.{length-low_bits, low_bits-at, number-lt, number-push}
use Rattle.aes3_frame.specs.declared.block.Channel.{Channel}
use Rattle.aes3_frame.specs.declared.block.Channel.TheVariants.{First, Second}
use Rattle.aes3_frame.specs.declared.subframe.Subframe.{Subframe}
use Rattle.aes3_frame.specs.Subframes.{audio_len, bits_of}
use Rattle.aes3_frame.specs.Statuses.{of_channel, validity_place, user_place, status_place, first_subframe_of, bits_at, status_len}
use Rattle.aes3_frame.specs.Statuses.{bytes_in, bits_of_bytes, with_bits_at}
use Rattle.aes3_frame.proofs.BitLemmas.{bit-set}

pub status_len_24 : status_len ≡ 24
unfolding status_len
status_len_24 = refl

-- where the bits stand
pub validity_place_24 : validity_place ≡ 24
unfolding validity_place audio_len
validity_place_24 = refl

pub user_place_25 : user_place ≡ 25
unfolding user_place audio_len
user_place_25 = refl

pub status_place_26 : status_place ≡ 26
unfolding status_place audio_len
status_place_26 = refl

-- a bit of a subframe behind its audio
behind-get : (s : Subframe) (k : ℕ)
    → get_or (bits_of s) (audio_len + k) false ≡ get_or (s.v ∷ s.u ∷ s.c ∷ []) k false
behind-get s k =
    let low = low_bits audio_len s.audio in
    ap (λ n. get_or (low_bits audio_len s.audio ++ s.v ∷ s.u ∷ s.c ∷ []) (n + k) false)
    (sym (length-low_bits audio_len s.audio))
    ∙ get_or-append-add low (s.v ∷ s.u ∷ s.c ∷ []) k false

pub validity-get : (s : Subframe) → get_or (bits_of s) validity_place false ≡ s.v
unfolding validity_place
validity-get s = ap (λ n. get_or (bits_of s) n false) (let e : audio_len ≡ audio_len + 0 = omega arith in e)
    ∙ behind-get s 0

pub status-get : (s : Subframe) → get_or (bits_of s) status_place false ≡ s.c
unfolding status_place
status-get s = behind-get s 2

-- the payloads of a channel by frames
twice-suc : (i : ℕ) → 2 * suc i ≡ suc (suc (2 * i))
twice-suc i = omega arith

pub first-get : (b : List (List Bool)) (i : ℕ) (p : List Bool) → slice_get b (2 * i) ≡ Some p
    → slice_get (of_channel First b) i ≡ Some p
first-get [] i p e = cc
first-get (q ∷ b) zero p e = e
first-get (q ∷ []) (suc i) p e = let f = twice-suc i in absurd (none (rw f at e))
  where
    none : ◌≡◌ {A = _} None (Some p) → ⊥
    none e = cc
first-get (q ∷ r ∷ b) (suc i) p e = first-get b i p (let f = twice-suc i in rw f at e)

pub second-get : (b : List (List Bool)) (i : ℕ) (p : List Bool) → slice_get b (2 * i + 1) ≡ Some p
    → slice_get (of_channel Second b) i ≡ Some p
second-get [] i p e = cc
second-get (q ∷ b) i p e = first-get b i p (let f : 2 * i + 1 ≡ suc (2 * i) = omega arith in rw f at e)

pub bits-get : (place : ℕ) (b : List (List Bool)) (channel : Channel) (i : ℕ) (p : List Bool) (bit : Bool)
    → slice_get (of_channel channel b) i ≡ Some p
    → get_or p place false ≡ bit → slice_get (bits_at place b channel) i ≡ Some bit
bits-get place b channel i p bit e g =
    slice_get-map (λ q. get_or q place false) (of_channel channel b) i ∙ ap (option_map (λ q. get_or q place false)) e
    ∙ ap Some g

-- of the payload at its number
pub channel-get : (b : List (List Bool)) (channel : Channel) (i n : ℕ) → n ≡ 2 * i + first_subframe_of channel → n < length b
    → slice_get (of_channel channel b) i ≡ Some (get_or b n [])
channel-get b First i n e h =
    first-get b i (get_or b n []) (ap (slice_get b) (let f : 2 * i ≡ n = omega arith in f) ∙ slice_get-get_or b n [] h)
channel-get b Second i n e h =
    second-get b i (get_or b n []) (ap (slice_get b) (sym e) ∙ slice_get-get_or b n [] h)

pub channel-bit : (place : ℕ) (b : List (List Bool)) (channel : Channel) (i n at : ℕ) (bit : Bool)
    → n ≡ 2 * i + first_subframe_of channel → n < length b → at ≡ place → get_or (get_or b n []) at false ≡ bit
    → slice_get (bits_at place b channel) i ≡ Some bit
channel-bit place b channel i n at bit e h p g =
    bits-get place b channel i (get_or b n []) bit (channel-get b channel i n e h)
    (ap (λ k. get_or (get_or b n []) k false) (sym p) ∙ g)

pub slice_get-drop : {A : Type 0} (n : ℕ) (xs : List A) (j : ℕ) → slice_get (drop n xs) j ≡ slice_get xs (n + j)
slice_get-drop zero xs j = ap (slice_get xs) (let e : j ≡ 0 + j = omega arith in e)
slice_get-drop (suc n) [] j = refl
slice_get-drop (suc n) (x ∷ xs) j
    = slice_get-drop n xs j ∙ ap (slice_get (x ∷ xs)) (let e : suc (n + j) ≡ suc n + j = omega arith in e)

-- one more bit of a byte
take-get : (xs : List Bool) (j : ℕ) (b : Bool) → slice_get xs j ≡ Some b → take (j + 1) xs ≡ take j xs ++ b ∷ []
take-get xs j b e = take_more xs j false (slice_get_within xs j b e)
    ∙ ap (λ x. take j xs ++ x ∷ []) (get_or_from_slice_get xs j b false e)

pub byte-push : (xs : List Bool) (j byte p : ℕ) (b : Bool) → j < 8 → slice_get xs j ≡ Some b → byte ≡ number (take j xs)
    → p ≡ bool_byte b
    → bit_or byte (p * 2 ^ j % 2 ^ 8) ≡ number (take (j + 1) xs)
byte-push xs j byte p b h g e q =
    let n : length (take j xs) ≡ j = let w = slice_get_within xs j b g in length-take-le j xs (omega arith) in
    let l : byte < 2 ^ j = rw e (ap-lt n (number-lt (take j xs))) in
    ap (bit_or byte) (shl_whole p 1 j 8 (few b q) (omega arith)) ∙ or_shifted_r p j byte l
    ∙ ap₂ (λ x y. x * 2 ^ j + y) q e
    ∙ joined b (number (take j xs)) ∙ ap (λ k. number (take j xs) + cond b (2 ^ k) 0) (sym n)
    ∙ sym (number-push (take j xs) b) ∙ ap number (sym (take-get xs j b g))
  where
    few : (b : Bool) → p ≡ bool_byte b → p < 2
    few true e = omega arith
    few false e = omega arith

    ap-lt : {n m k : ℕ} → n ≡ m → k < 2 ^ n → k < 2 ^ m
    ap-lt e h = rw (sym e) h

    joined : (b : Bool) (x : ℕ) → bool_byte b * 2 ^ j + x ≡ x + cond b (2 ^ j) 0
    joined true x = omega arith
    joined false x = omega arith

-- one more byte
pub bytes-more : (n : ℕ) (bits : List Bool)
    → bytes_in (suc n) bits ≡ bytes_in n bits ++ number (take 8 (drop (8 * n) bits)) ∷ []
bytes-more zero bits = refl
bytes-more (suc n) bits =
    ap (λ z. number (take 8 bits) ∷ z)
    (bytes-more n (drop 8 bits)
    ∙ ap (λ x. bytes_in n (drop 8 bits) ++ number (take 8 x) ∷ [])
    (drop-drop (8 * n) 8 bits ∙ ap (λ k. drop k bits) (let e : 8 + 8 * n ≡ 8 * suc n = omega arith in e)))

pub bytes-push : (k v : ℕ) (status : List ℕ) (bits : List Bool) → k < length status → take k status ≡ bytes_in k bits
    → v ≡ number (take 8 (drop (8 * k) bits))
    → take (k + 1) (set status k v) ≡ bytes_in (k + 1) bits
bytes-push k v status bits h e q =
    take_more_set status k v h ∙ ap₂ (λ x y. x ++ y ∷ []) e q ∙ sym (bytes-more k bits)
    ∙ ap (λ n. bytes_in n bits) (sym (add-one k))

pub bytes-all : (k : ℕ) (bytes : List ℕ) (bits : List Bool) → k ≡ 24 → length bytes ≡ 24
    → take k bytes ≡ bytes_in k bits → bytes ≡ bytes_in status_len bits
bytes-all k bytes bits e l h
    = sym (take_all k bytes (omega arith)) ∙ h ∙ ap (λ n. bytes_in n bits) (e ∙ sym status_len_24)

-- the bits of bytes by place
pub length-bits_of_bytes : (bytes : List ℕ) → length (bits_of_bytes bytes) ≡ 8 * length bytes
length-bits_of_bytes [] = refl
length-bits_of_bytes (x ∷ bytes)
    = let l = length-append (low_bits 8 x) (bits_of_bytes bytes) in let i = length-bits_of_bytes bytes in omega arith

pub bits-at : (bytes : List ℕ) (i : ℕ) → i < 8 * length bytes
    → get_or (bits_of_bytes bytes) i false ≡ eqb (bit_at (get_or bytes (i / 8) 0) (i % 8)) 1
bits-at [] i h = absurd (omega arith)
bits-at (x ∷ bytes) i h = go (cases_lt i 8) (λ l. bits-at bytes (i - 8) (omega arith))
  where
    go : (i < 8) ⊎ (8 ≤ i) → (8 ≤ i
        → get_or (bits_of_bytes bytes) (i - 8) false ≡ eqb (bit_at (get_or bytes ((i - 8) / 8) 0) ((i - 8) % 8)) 1)
        → get_or (low_bits 8 x ++ bits_of_bytes bytes) i false ≡ eqb (bit_at (get_or (x ∷ bytes) (i / 8) 0) (i % 8)) 1
    go (inl l) rest =
        let d : 0 ≡ i / 8 = omega arith in
        let m : i ≡ i % 8 = omega arith in
        get_or_append_left (low_bits 8 x) (bits_of_bytes bytes) false i l ∙ low_bits-at 8 x i l
        ∙ ap₂ (λ n k. eqb (bit_at (get_or (x ∷ bytes) n 0) k) 1) d m
    go (inr l) rest =
        let s : i ≡ 8 + (i - 8) = omega arith in
        let d : suc ((i - 8) / 8) ≡ i / 8 = omega arith in
        let m : (i - 8) % 8 ≡ i % 8 = omega arith in
        ap (λ n. get_or (low_bits 8 x ++ bits_of_bytes bytes) n false) s
        ∙ get_or-append-add (low_bits 8 x) (bits_of_bytes bytes) (i - 8) false
        ∙ rest l ∙ ap₂ (λ n k. eqb (bit_at (get_or (x ∷ bytes) n 0) k) 1) d m

pub bit-of-bytes : (bytes : List ℕ) (i : ℕ) → i < 8 * length bytes
    → slice_get (bits_of_bytes bytes) i ≡ Some (eqb (bit_and (get_or bytes (i / 8) 0 / 2 ^ (i % 8)) 1) 1)
bit-of-bytes bytes i h =
    slice_get-get_or (bits_of_bytes bytes) i false (let l = length-bits_of_bytes bytes in omega arith)
    ∙ ap Some (bits-at bytes i h ∙ sym (bit-set (get_or bytes (i / 8) 0) (i % 8)))

-- no bits change nothing, and one more changes one frame
pub with_bits-none : (place : ℕ) (channel : Channel) (b : List (List Bool)) → with_bits_at place channel b [] ≡ b
with_bits-none place channel [] = refl
with_bits-none place First (p ∷ b) = refl
with_bits-none place Second (p ∷ b) = ap (λ ps. p ∷ ps) (with_bits-none place First b)

first-push : (place : ℕ) (b : List (List Bool)) (bits : List Bool) (bit : Bool)
    → set (with_bits_at place First b bits) (2 * length bits)
    (set (get_or (with_bits_at place First b bits) (2 * length bits) []) place bit)
    ≡ with_bits_at place First b (bits ++ bit ∷ [])
first-push place [] bits bit = refl
first-push place (p ∷ b) [] bit = ap (λ ps. set p place bit ∷ ps) (sym (with_bits-none place Second b))
first-push place (p ∷ []) (c ∷ bits) bit = let t = twice-suc (length bits) in rw t refl
first-push place (p ∷ q ∷ b) (c ∷ bits) bit =
    let t = twice-suc (length bits) in
    rw t (ap (λ ps. set p place c ∷ q ∷ ps) (first-push place b bits bit))

with_bits-push : (place : ℕ) (channel : Channel) (b : List (List Bool)) (bits : List Bool) (bit : Bool) (n : ℕ)
    → n ≡ 2 * length bits + first_subframe_of channel
    → set (with_bits_at place channel b bits) n (set (get_or (with_bits_at place channel b bits) n []) place bit)
    ≡ with_bits_at place channel b (bits ++ bit ∷ [])
with_bits-push place First b bits bit n e =
    ap (λ n. set (with_bits_at place First b bits) n (set (get_or (with_bits_at place First b bits) n []) place bit))
    (let f : n ≡ 2 * length bits = omega arith in f)
    ∙ first-push place b bits bit
with_bits-push place Second [] bits bit n e = refl
with_bits-push place Second (p ∷ b) bits bit n e =
    ap (λ n. set (with_bits_at place Second (p ∷ b) bits) n
    (set (get_or (with_bits_at place Second (p ∷ b) bits) n []) place bit))
    (let f : n ≡ suc (2 * length bits) = omega arith in f)
    ∙ ap (λ ps. p ∷ ps) (first-push place b bits bit)

pub frames-push : (place : ℕ) (channel : Channel) (b now next : List (List Bool)) (bits : List Bool) (i n at : ℕ)
    (bit : Bool)
    → now ≡ with_bits_at place channel b (take i bits) → slice_get bits i ≡ Some bit
    → n ≡ 2 * i + first_subframe_of channel → at ≡ place
    → next ≡ set now n (set (get_or now n []) at bit)
    → next ≡ with_bits_at place channel b (take (i + 1) bits)
frames-push place channel b now next bits i n at bit e g k p q =
    let l : length (take i bits) ≡ i = let w = slice_get_within bits i bit g in length-take-le i bits (omega arith) in
    q ∙ ap₂ (λ x a. set x n (set (get_or x n []) a bit)) e p
    ∙ with_bits-push place channel b (take i bits) bit n (omega arith)
    ∙ ap (with_bits_at place channel b) (sym (take-get bits i bit g))

pub frames-all : (place : ℕ) (channel : Channel) (b now : List (List Bool)) (bytes : List ℕ) (i : ℕ) → i ≡ 192
    → length bytes ≡ 24
    → now ≡ with_bits_at place channel b (take i (bits_of_bytes bytes))
    → now ≡ with_bits_at place channel b (bits_of_bytes bytes)
frames-all place channel b now bytes i e l h =
    h ∙ ap (with_bits_at place channel b)
    (take_all i (bits_of_bytes bytes) (let n = length-bits_of_bytes bytes in omega arith))
