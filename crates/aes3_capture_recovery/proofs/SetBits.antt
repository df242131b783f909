-- The places of a number's bits that are set, the lowest first.
use Rattle.std.proofs.Common.{ℕ, zero, suc, ◌≡◌, ◌+◌, ◌-◌, ◌*◌, ◌/◌, ◌%◌, ◌^◌, ◌<◌, ◌≤◌, ◌⊎◌, inl, inr, min, cond, ◌==◌}
use Rattle.std.proofs.Common.{List, [], ◌∷◌, ◌++◌, length, take, slice_set, refl, sym, ap, ap₂, ◌∙◌, arith, Bool, true, false}
use Rattle.std.proofs.Common.{mod-lt, zero-lt-suc, pow-suc, add-zero, append_assoc, append-nil}
use Rattle.std.specs.Int.Bits.{bit_and, and_step, and_self}
use Rattle.std.specs.Int.Count.{count_trailing_zeros, under, ones, ones_step}
use Rattle.std.proofs.lemmas.List.{take_more_set, take-take, take-append-le, take_at, length-take-le}
use Rattle.std.proofs.lemmas.Bool.{cases_lt}
use Rattle.aes3_capture_recovery.specs.Turns.{Put, set_bits}

-- what holds of 0 and of 1 holds of a bit
bit-cases : (P : ℕ → Type 0) → P 0 → P 1 → (bit : ℕ) → bit < 2 → P bit
bit-cases P none one zero h = none
bit-cases P none one (suc zero) h = one
bit-cases P none one (suc (suc n)) h = absurd (omega (arith, h))

one-more : (is : Bool) (place count : ℕ) (places : List ℕ) → length places ≤ count
    → length (cond is (place ∷ places) places) ≤ suc count
one-more true place count places h = omega (arith, h)
one-more false place count places h = omega (arith, h)

pub length-set_bits : (count place number : ℕ) → length (set_bits count place number) ≤ count
unfolding set_bits
length-set_bits zero place number = omega arith
length-set_bits (suc count) place number =
    one-more (number % 2 == 1) place count _ (length-set_bits count (place + 1) (number / 2))

pub set_bits-zero : (count place : ℕ) → set_bits count place 0 ≡ []
unfolding set_bits
set_bits-zero zero place = refl
set_bits-zero (suc count) place = set_bits-zero count (place + 1)

-- the places with a lowest bit and those of the others
abbrev places-with : ℕ → ℕ → ℕ → ℕ → List ℕ
places-with count place bit others =
    cond (bit == 1) (place ∷ set_bits count (place + 1) others) (set_bits count (place + 1) others)

abbrev LowestFirst : ℕ → ℕ → ℕ → Type 0
LowestFirst count place number =
    places-with count place (number % 2) (number / 2)
    ≡ (place + under (number % 2) (count_trailing_zeros count (number / 2)))
    ∷ places-with count place (bit_and number (number - 1) % 2) (bit_and number (number - 1) / 2)

pub lowest-first : (count place number : ℕ) → 0 < number → number < 2 ^ count
    → set_bits count place number
    ≡ (place + count_trailing_zeros count number) ∷ set_bits count place (bit_and number (number - 1))
unfolding set_bits count_trailing_zeros
lowest-first zero place number some few = absurd (omega (arith, some, few))
lowest-first (suc count) place number some few =
    bit-cases (λ bit. number % 2 ≡ bit → LowestFirst count place number)
    (even (λ p. lowest-first count (place + 1) (number / 2) p (omega (arith, few, pow-suc 2 count))))
    odd (number % 2) (mod-lt number (zero-lt-suc 1)) refl
  where
    odd : number % 2 ≡ 1 → LowestFirst count place number
    odd e =
        let left = bit_and number (number - 1) in
        let half : (number - 1) / 2 ≡ number / 2 = omega (arith, e) in
        let low : min (number % 2) ((number - 1) % 2) ≡ 0 = omega (arith, e) in
        let is : left ≡ number / 2 * 2 + 0 = and_step number (number - 1)
        ∙ ap₂ (λ u v. u * 2 + v) (ap (bit_and (number / 2)) half ∙ and_self (number / 2)) low in
        let p : left % 2 ≡ 0 = omega (arith, is) in
        let q : left / 2 ≡ number / 2 = omega (arith, is) in
        ap (λ bit. places-with count place bit (number / 2)) e
        ∙ ap₂ (λ u v. u ∷ v)
        (sym (ap (λ bit. place + under bit (count_trailing_zeros count (number / 2))) e ∙ add-zero place))
        (sym (ap₂ (places-with count place) p q))

    even : (0 < number / 2 → set_bits count (place + 1) (number / 2)
        ≡ (place + 1 + count_trailing_zeros count (number / 2))
        ∷ set_bits count (place + 1) (bit_and (number / 2) (number / 2 - 1))) → number % 2 ≡ 0
        → LowestFirst count place number
    even below e =
        let left = bit_and number (number - 1) in
        let half : (number - 1) / 2 ≡ number / 2 - 1 = omega (arith, e, some) in
        let low : min (number % 2) ((number - 1) % 2) ≡ 0 = omega (arith, e) in
        let z = bit_and (number / 2) (number / 2 - 1) in
        let is : left ≡ z * 2 + 0 = and_step number (number - 1)
        ∙ ap₂ (λ u v. u * 2 + v) (ap (bit_and (number / 2)) half) low in
        let p : left % 2 ≡ 0 = omega (arith, is) in
        let q : left / 2 ≡ z = omega (arith, is) in
        let t = count_trailing_zeros count (number / 2) in
        let at : place + 1 + t ≡ place + suc t = omega arith in
        ap (λ bit. places-with count place bit (number / 2)) e ∙ below (omega (arith, e, some))
        ∙ ap₂ (λ u v. u ∷ v) (at ∙ sym (ap (λ bit. place + under bit t) e)) (sym (ap₂ (places-with count place) p q))

pub length-ones : (count place number : ℕ) → number < 2 ^ count
    → length (set_bits count place number) ≡ ones number
unfolding set_bits ones
length-ones zero place number few = let e : 0 ≡ number = omega (arith, few) in ap ones e
length-ones (suc count) place number few =
    let rest = set_bits count (place + 1) (number / 2) in
    bit-cases (λ bit. length (cond (bit == 1) (place ∷ rest) rest) ≡ bit + length rest) (omega arith) (omega arith)
    (number % 2) (mod-lt number (zero-lt-suc 1))
    ∙ ap (λ n. number % 2 + n) (length-ones count (place + 1) (number / 2) (omega (arith, few, pow-suc 2 count)))
    ∙ sym (ones_step number)

-- the others, once the lowest is put
abbrev pub cleared : ℕ → ℕ
cleared rest = bit_and rest ((rest + (2 ^ 64 - 1)) % 2 ^ 64)

pub put-one : (wanted : List ℕ) (base : ℕ) (out : List ℕ) (at next rest : ℕ) → next ≡ at + 1 → at < length out
    → rest < 2 ^ 64 → Put wanted base out at rest
    → Put wanted base (slice_set out at (base + count_trailing_zeros 64 rest)) next (cleared rest)
put-one wanted base out at next rest e room few w = go (cases_lt 0 rest)
  where
    go : (0 < rest) ⊎ (rest ≤ 0)
        → Put wanted base (slice_set out at (base + count_trailing_zeros 64 rest)) next (cleared rest)
    go (inl some) =
        let place = base + count_trailing_zeros 64 rest in
        let less : (rest + (2 ^ 64 - 1)) % 2 ^ 64 ≡ rest - 1 = omega (arith, some, few) in
        let stored = ap (λ n. take n (slice_set out at place)) e ∙ take_more_set out at place room in
        record {
          more = w.more;
          both = ap (λ l. l ++ set_bits 64 base (cleared rest)) stored
              ∙ append_assoc (take at out) (place ∷ []) _
              ∙ ap (λ l. take at out ++ l) (ap (λ n. place ∷ set_bits 64 base (bit_and rest n)) less
              ∙ sym (lowest-first 64 base rest some few)) ∙ w.both;
          none = λ h. w.none some;
        }
    go (inr none) =
        let place = base + count_trailing_zeros 64 rest in
        let z : rest ≡ 0 = omega (arith, none) in
        let c : cleared rest ≡ 0 = ap cleared z in
        let stored = ap (λ n. take n (slice_set out at place)) e ∙ take_more_set out at place room in
        let before : take at out ≡ wanted ++ w.more
        = sym (append-nil (take at out))
        ∙ ap (λ l. take at out ++ l) (sym (ap (set_bits 64 base) z ∙ set_bits-zero 64 base)) ∙ w.both in
        record {
          more = w.more ++ (place ∷ []);
          both = ap (λ l. take next (slice_set out at place) ++ l) (ap (set_bits 64 base) c ∙ set_bits-zero 64 base)
              ∙ append-nil _ ∙ stored
              ∙ ap (λ l. l ++ (place ∷ [])) before ∙ append_assoc wanted w.more (place ∷ []);
          none = λ h. absurd (omega (arith, h, c));
        }

pub put-all : (wanted : List ℕ) (base : ℕ) (out : List ℕ) (at n rest : ℕ) → length wanted ≡ n → n ≤ at
    → at ≤ length out → Put wanted base out at rest → take n out ≡ wanted
put-all wanted base out at n rest long most room w =
    sym (take-take n at out most)
    ∙ sym (take-append-le n (take at out) _ (let l = length-take-le at out room in omega (arith, most, l)))
    ∙ ap (take n) w.both ∙ take_at wanted w.more n long
