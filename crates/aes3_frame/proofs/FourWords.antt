-- Words of a block file, four at once, of the cells of four subframes.
use Rattle.std.proofs.Common.{◌≡◌, ℕ, zero, suc, ◌+◌, ◌-◌, ◌*◌, ◌/◌, ◌%◌, ◌^◌, ◌<◌, ◌≤◌, ◌⊎◌, inl, inr, List, [], ◌∷◌}
use Rattle.std.proofs.Common.{◌++◌, true, false, cond, ltb, length, take, get_or, get_or-set_other, refl, sym, ap, ap₂}
use Rattle.std.proofs.Common.{subst, ◌∙◌, arith}
use Rattle.std.specs.Prelude.{bit_xor}
use Rattle.std.specs.Int.{bit_at}
use Rattle.std.specs.Simd.Lanes.{pick_l, chunk}
use lib.Lanes.{Each1, number_l, digits_l}
use Rattle.std.proofs.lemmas.Bool.{agree_below_at, cases_lt, lt-ltb, le-ltb}
use Rattle.std.proofs.lemmas.Nat.{xor_lt, mod_below}
use Rattle.std.proofs.lemmas.Nat.Bits.{bit_at_cat_low, bit_at_cat_high, bit_at_above}
use Rattle.std.proofs.lemmas.Simd.{pick_l_left, get_or_wider, get_or_narrower}
use Rattle.aes3_level.specs.Words.{word_cells, word_len}
use Rattle.aes3_level.proofs.Moves.{Gathers, masked, with_above, in_place, any_of, any_of-one, same_places}
use Rattle.aes3_level.proofs.Moves.{same_places-is, bit_at-shr}
use Rattle.aes3_bits.specs.Bits.{odd_ones}
use Rattle.aes3_slot.specs.Slots.{payload_len, slots_len, slots_bits}
use Rattle.aes3_slot.specs.ReadWords.{read_word}
use Rattle.aes3_slot.proofs.ReadWords.{slots-read}
use Rattle.aes3_slot.proofs.Spread.{octet-bit}
use Rattle.aes3_frame.specs.Files.{is_lawful, payload_of}
use Rattle.aes3_frame.specs.Gathered.{with_first}
use Rattle.aes3_frame.proofs.BitLemmas.{even-lawful}
use Rattle.aes3_frame.proofs.GatheredWords.{with_first-below, with_first-at}
use Rattle.aes3_frame.proofs.SlotWords.{carried, payload-even}

-- the places that the bits of a word with its octets two octets apart come from
abbrev pub moved_apart : ℕ → List ℕ
moved_apart =
    masked 71777214294589695 (with_above 4
    (masked 1085102592571150095 (with_above 2 (masked 3689348814741910323 (with_above 1
    (masked 6148914691236517120 (in_place 64)))))))

abbrev place : ℕ → List ℕ
place j = cond {A = List ℕ} (ltb j 4) [] (2 * j ∷ [])

apart-bit : {d x : ℕ} → Gathers d x moved_apart → (j : ℕ) → j < 32
    → bit_at x (16 * (j / 8) + j % 8) ≡ any_of d (place j)
apart-bit {d} {x} g j h =
    g.bit (16 * (j / 8) + j % 8) (omega arith)
    ∙ ap (any_of d) (same_places-is (moved_apart (16 * (j / 8) + j % 8)) (place j)
    (agree_below_at (λ i. same_places (moved_apart (16 * (i / 8) + i % 8)) (place i)) (λ _. true) 32 j refl h))

pub apart-none : {d x : ℕ} → Gathers d x moved_apart → (i : ℕ) → i < 4 → bit_at x i ≡ 0
apart-none {d} {x} g i h =
    let t = lt-ltb i 4 h in
    ap (bit_at x) (let e : i ≡ 16 * (i / 8) + i % 8 = omega arith in e) ∙ apart-bit g i (omega arith)
    ∙ ap (λ b. any_of d (cond {A = List ℕ} b [] (2 * i ∷ []))) t

pub apart-bits : {d x : ℕ} → Gathers d x moved_apart → (i : ℕ) → i < 28
    → bit_at x (16 * ((i + 4) / 8) + (i + 4) % 8) ≡ bit_at (d / 2 ^ 8) (2 * i)
apart-bits {d} {x} g i h =
    let t = le-ltb (i + 4) 4 (omega arith) in
    apart-bit g (i + 4) (omega arith) ∙ ap (λ b. any_of d (cond {A = List ℕ} b [] (2 * (i + 4) ∷ []))) t
    ∙ any_of-one d (2 * (i + 4))
    ∙ ap (bit_at d) (let e : 2 * (i + 4) ≡ 8 + 2 * i = omega arith in e) ∙ sym (bit_at-shr d 8 (2 * i))

-- the bits of numbers of octets
low-octet : (x rest i : ℕ) → i < 8 → bit_at (x + 256 * rest) i ≡ bit_at x i
low-octet x rest i h = ap (λ v. bit_at v i) (let e : x + 256 * rest ≡ rest * 2 ^ 8 + x = omega arith in e)
    ∙ bit_at_cat_low rest 8 x i h

high-octet : (x rest i : ℕ) → x < 256 → 8 ≤ i → bit_at (x + 256 * rest) i ≡ bit_at rest (i - 8)
high-octet x rest i h g = ap (λ v. bit_at v i) (let e : x + 256 * rest ≡ rest * 2 ^ 8 + x = omega arith in e)
    ∙ bit_at_cat_high rest 8 x i h g

-- the octets at even places of a word
abbrev evens : ℕ → List ℕ
evens w = (w / 2 ^ 0 % 256) ∷ (w / 2 ^ 16 % 256) ∷ (w / 2 ^ 32 % 256) ∷ (w / 2 ^ 48 % 256) ∷ []

below : (y : ℕ) → y % 256 < 256
below y = omega arith

evens-bits : (w j : ℕ) → j < 32 → bit_at (number_l 256 (evens w)) j ≡ bit_at w (16 * (j / 8) + j % 8)
evens-bits w j h = go (cases_lt j 8) (cases_lt j 16) (cases_lt j 24)
  where
    x1 : ℕ
    x1 = number_l 256 ((w / 2 ^ 16 % 256) ∷ (w / 2 ^ 32 % 256) ∷ (w / 2 ^ 48 % 256) ∷ [])

    x2 : ℕ
    x2 = number_l 256 ((w / 2 ^ 32 % 256) ∷ (w / 2 ^ 48 % 256) ∷ [])

    x3 : ℕ
    x3 = number_l 256 ((w / 2 ^ 48 % 256) ∷ [])

    go : (j < 8) ⊎ (8 ≤ j) → (j < 16) ⊎ (16 ≤ j) → (j < 24) ⊎ (24 ≤ j)
        → bit_at (number_l 256 (evens w)) j ≡ bit_at w (16 * (j / 8) + j % 8)
    go (inl a) b c =
        low-octet (w / 2 ^ 0 % 256) x1 j a ∙ octet-bit w 0 j a
        ∙ ap (bit_at w) (let e : 0 + j ≡ 16 * (j / 8) + j % 8 = omega arith in e)
    go (inr a) (inl b) c =
        high-octet (w / 2 ^ 0 % 256) x1 j (below (w / 2 ^ 0)) a ∙ low-octet (w / 2 ^ 16 % 256) x2 (j - 8) (omega arith)
        ∙ octet-bit w 16 (j - 8) (omega arith)
        ∙ ap (bit_at w) (let e : 16 + (j - 8) ≡ 16 * (j / 8) + j % 8 = omega arith in e)
    go (inr a) (inr b) (inl c) =
        high-octet (w / 2 ^ 0 % 256) x1 j (below (w / 2 ^ 0)) a
        ∙ high-octet (w / 2 ^ 16 % 256) x2 (j - 8) (below (w / 2 ^ 16)) (omega arith)
        ∙ low-octet (w / 2 ^ 32 % 256) x3 (j - 8 - 8) (omega arith)
        ∙ octet-bit w 32 (j - 8 - 8) (omega arith)
        ∙ ap (bit_at w) (let e : 32 + (j - 8 - 8) ≡ 16 * (j / 8) + j % 8 = omega arith in e)
    go (inr a) (inr b) (inr c) =
        high-octet (w / 2 ^ 0 % 256) x1 j (below (w / 2 ^ 0)) a
        ∙ high-octet (w / 2 ^ 16 % 256) x2 (j - 8) (below (w / 2 ^ 16)) (omega arith)
        ∙ high-octet (w / 2 ^ 32 % 256) x3 (j - 8 - 8) (below (w / 2 ^ 32)) (omega arith)
        ∙ low-octet (w / 2 ^ 48 % 256) 0 (j - 8 - 8 - 8) (omega arith)
        ∙ octet-bit w 48 (j - 8 - 8 - 8) (omega arith)
        ∙ ap (bit_at w) (let e : 48 + (j - 8 - 8 - 8) ≡ 16 * (j / 8) + j % 8 = omega arith in e)

-- words of the octets at even places
abbrev even_places : List ℕ
even_places = 0 ∷ 2 ∷ 4 ∷ 6 ∷ 8 ∷ 10 ∷ 12 ∷ 14 ∷ 16 ∷ 18 ∷ 20 ∷ 22 ∷ 24 ∷ 26 ∷ 28 ∷ 30 ∷ []

abbrev octets : List ℕ → List ℕ
octets ws = digits_l 256 32 (number_l (2 ^ 64) ws)

abbrev pub narrowed : List ℕ → List ℕ
narrowed ws = digits_l (2 ^ 32) 4 (number_l 256 (pick_l 0 (octets ws ++ octets ws) even_places))

digit-small : (p n x k : ℕ) → 0 < p → get_or (digits_l p n x) k 0 < p
digit-small p zero x k h = h
digit-small p (suc n) x zero h = mod_below x p h
digit-small p (suc n) x (suc k) h = digit-small p n (x / p) k h

each-picked : (ws : List ℕ) (ks : List ℕ) → Each1 (λ x. x < 256) (pick_l 0 (octets ws) ks)
each-picked ws [] = tt
each-picked ws (k ∷ ks) = (digit-small 256 32 (number_l (2 ^ 64) ws) k (omega arith), each-picked ws ks)

pub narrowed-fits : (ws : List ℕ) (i : ℕ) → get_or (narrowed ws) i 0 < 2 ^ 32
narrowed-fits ws i = digit-small (2 ^ 32) 4 (number_l 256 (pick_l 0 (octets ws ++ octets ws) even_places)) i
    (omega arith)

number-same : {a b c d e f g h : ℕ} → a ≡ e → b ≡ f → c ≡ g → d ≡ h
    → number_l 256 (a ∷ b ∷ c ∷ d ∷ []) ≡ number_l 256 (e ∷ f ∷ g ∷ h ∷ [])
number-same p q r s = ap (number_l 256)
    (ap₂ (λ x xs. x ∷ xs) p (ap₂ (λ x xs. x ∷ xs) q (ap₂ (λ x xs. x ∷ xs) r (ap (λ x. x ∷ []) s))))

narrowed-is : (ws : List ℕ) → Each1 (λ x. x < 2 ^ 64) ws → (i : ℕ) → i < 4
    → get_or (narrowed ws) i 0 ≡ number_l 256 (evens (get_or ws i 0))
narrowed-is ws fit i h =
    ap (λ xs. get_or (digits_l (2 ^ 32) 4 (number_l 256 xs)) i 0)
    (pick_l_left 0 (octets ws) (octets ws) 32 even_places refl tt)
    ∙ get_or_wider 256 4 (2 ^ 32) 4 (pick_l 0 (octets ws) even_places) i refl (each-picked ws even_places) h ∙ go i h
  where
    part : (i m : ℕ) → m < 8 → 8 * i + m < 32 → get_or (octets ws) (8 * i + m) 0 ≡ get_or ws i 0 / 256 ^ m % 256
    part i m a b = get_or_narrower (2 ^ 64) 8 256 32 ws i m refl fit a b

    go : (i : ℕ) → i < 4 → number_l 256 (chunk (4 * i) 4 (pick_l 0 (octets ws) even_places))
        ≡ number_l 256 (evens (get_or ws i 0))
    go zero h = number-same (part 0 0 (omega arith) (omega arith)) (part 0 2 (omega arith) (omega arith))
        (part 0 4 (omega arith) (omega arith)) (part 0 6 (omega arith) (omega arith))
    go (suc zero) h = number-same (part 1 0 (omega arith) (omega arith)) (part 1 2 (omega arith) (omega arith))
        (part 1 4 (omega arith) (omega arith)) (part 1 6 (omega arith) (omega arith))
    go (suc (suc zero)) h = number-same (part 2 0 (omega arith) (omega arith)) (part 2 2 (omega arith) (omega arith))
        (part 2 4 (omega arith) (omega arith)) (part 2 6 (omega arith) (omega arith))
    go (suc (suc (suc zero))) h
        = number-same (part 3 0 (omega arith) (omega arith)) (part 3 2 (omega arith) (omega arith))
        (part 3 4 (omega arith) (omega arith)) (part 3 6 (omega arith) (omega arith))
    go (suc (suc (suc (suc i)))) h = absurd (omega arith)

pub narrowed-bits : (ws : List ℕ) → Each1 (λ x. x < 2 ^ 64) ws → (i j : ℕ) → i < 4 → j < 32
    → bit_at (get_or (narrowed ws) i 0) j ≡ bit_at (get_or ws i 0) (16 * (j / 8) + j % 8)
narrowed-bits ws fit i j h g = ap (λ v. bit_at v j) (narrowed-is ws fit i h) ∙ evens-bits (get_or ws i 0) j g

-- a word of those bits has the payload of the cells, and is lawful where their parity is right
pub lawful-lane : (cells apart r : ℕ) → cells < 2 ^ 64 → r < 2 ^ 32
    → ((j : ℕ) → j < 32 → bit_at r j ≡ bit_at apart (16 * (j / 8) + j % 8)) → ((i : ℕ) → i < 4 → bit_at apart i ≡ 0)
    → ((i : ℕ) → i < 28 → bit_at apart (16 * ((i + 4) / 8) + (i + 4) % 8)
    ≡ bit_at (bit_xor cells (cells / 2) / 2 ^ 8) (2 * i))
    → (odd_ones (read_word cells) ≡ false → is_lawful r ≡ true) × (payload_of r ≡ take payload_len (read_word cells))
unfolding slots_len word_cells word_len
lawful-lane cells apart r fit small moved none bits
    = (
      λ even. ap is_lawful is ∙ even-lawful s few (ap odd_ones read ∙ even),
      ap payload_of is ∙ payload-even s (read_word cells) few read,
    )
  where
    s : ℕ
    s = r / 16

    few : r / 16 < 2 ^ 28
    few = omega (arith, small)

    b0 : r / 2 ^ 0 % 2 ≡ 0
    b0 = moved 0 (omega arith) ∙ none 0 (omega arith)

    b1 : r / 2 ^ 1 % 2 ≡ 0
    b1 = moved 1 (omega arith) ∙ none 1 (omega arith)

    b2 : r / 2 ^ 2 % 2 ≡ 0
    b2 = moved 2 (omega arith) ∙ none 2 (omega arith)

    b3 : r / 2 ^ 3 % 2 ≡ 0
    b3 = moved 3 (omega arith) ∙ none 3 (omega arith)

    is : r ≡ r / 16 * 16 % 2 ^ 32
    is = omega (arith, b0, b1, b2, b3, small)

    each : (i : ℕ) → i < 32 → bit_at (r / 16) i ≡ bit_at (bit_xor cells (cells / 2) / 2 ^ 8) (2 * i)
    each i h = go (cases_lt i 28)
      where
        go : (i < 28) ⊎ (28 ≤ i) → bit_at (r / 16) i ≡ bit_at (bit_xor cells (cells / 2) / 2 ^ 8) (2 * i)
        go (inl a) =
            bit_at-shr r 4 i ∙ ap (bit_at r) (let e : 4 + i ≡ i + 4 = omega arith in e)
            ∙ moved (i + 4) (omega (arith, a)) ∙ bits i a
        go (inr a) =
            bit_at_above (r / 16) 28 i few a
            ∙ sym (bit_at-shr (bit_xor cells (cells / 2)) 8 (2 * i)
            ∙ bit_at_above (bit_xor cells (cells / 2)) 64 (8 + 2 * i)
            (xor_lt 64 cells (cells / 2) fit (omega (arith, fit))) (omega (arith, a)))

    read : slots_bits (r / 16) ≡ read_word cells
    read = slots-read cells (r / 16) each

-- four of something
pub all-four : (P : ℕ → Type 0) → P 0 → P 1 → P 2 → P 3 → (i : ℕ) → i < 4 → P i
all-four P a b c d zero h = a
all-four P a b c d (suc zero) h = b
all-four P a b c d (suc (suc zero)) h = c
all-four P a b c d (suc (suc (suc zero))) h = d
all-four P a b c d (suc (suc (suc (suc i)))) h = absurd (omega arith)

-- four words put into a list of lawful ones
other-place : (at : ℕ) (kept new : List ℕ) (n j : ℕ) → at + n ≤ j
    → get_or (with_first at kept new n) j 0 ≡ get_or kept j 0
other-place at kept new zero j h = refl
other-place at kept new (suc n) j h =
    get_or-set_other (with_first at kept new n) (at + n) j (get_or new n 0) 0 (λ e. omega arith)
    ∙ other-place at kept new n j (omega arith)

four-placed : (P : ℕ → ℕ → Type 0) (at : ℕ) (kept new : List ℕ) → at + 4 ≤ length kept
    → ((k : ℕ) → k < at → P k (get_or kept k 0))
    → ((i : ℕ) → i < 4 → P (at + i) (get_or new i 0)) → (k : ℕ) → k < at + 4
    → P k (get_or (with_first at kept new 4) k 0)
four-placed P at kept new l old four k h = go (cases_lt k at)
  where
    go : (k < at) ⊎ (at ≤ k) → P k (get_or (with_first at kept new 4) k 0)
    go (inl a) = subst (P k) (sym (with_first-below at kept new 4 k a)) (old k a)
    go (inr a) =
        let e : at + (k - at) ≡ k = omega (arith, a) in
        subst (λ j. P j (get_or (with_first at kept new 4) j 0)) e
        (subst (P (at + (k - at))) (sym (with_first-at at kept new 4 (k - at) l (omega (arith, h, a))))
        (four (k - at) (omega (arith, h, a))))

pub lawful-placed : (at : ℕ) (kept new : List ℕ) → at + 4 ≤ length kept → ((k : ℕ) → is_lawful (get_or kept k 0) ≡ true)
    → ((i : ℕ) → i < 4 → is_lawful (get_or new i 0) ≡ true) → (k : ℕ)
    → is_lawful (get_or (with_first at kept new 4) k 0) ≡ true
lawful-placed at kept new l old four k = go (cases_lt k (at + 4))
  where
    go : (k < at + 4) ⊎ (at + 4 ≤ k) → is_lawful (get_or (with_first at kept new 4) k 0) ≡ true
    go (inl a) = four-placed (λ _ w. is_lawful w ≡ true) at kept new l (λ j _. old j) four k a
    go (inr a) = ap is_lawful (other-place at kept new 4 k a) ∙ old k

pub payloads-placed : (at : ℕ) (words kept new : List ℕ) → at + 4 ≤ length kept
    → ((k : ℕ) → k < at → payload_of (get_or kept k 0) ≡ carried (get_or words k 0))
    → ((i : ℕ) → i < 4 → payload_of (get_or new i 0) ≡ carried (get_or words (at + i) 0))
    → (k : ℕ) → k < at + 4 → payload_of (get_or (with_first at kept new 4) k 0) ≡ carried (get_or words k 0)
payloads-placed at words kept new l old four
    = four-placed (λ j w. payload_of w ≡ carried (get_or words j 0)) at kept new l old four
