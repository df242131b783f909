-- The one byte with which the check holds.
use Rattle.std.proofs.Common.{◌≡◌, ℕ, ◌+◌, ◌<◌, List, [], ◌∷◌, ◌++◌, length, reverse, take, set, get_or, ◌⊎◌, inl, inr}
use Rattle.std.proofs.Common.{eqb, false, eq-eqb, ne_eqb, refl, ap, ◌∙◌, sym, arith}
use Rattle.std.specs.Prelude.{bit_xor}
use Rattle.std.specs.Int.Bits.{xor_assoc, xor_self}
use Rattle.std.proofs.lemmas.List.{append-nil, take_more, take_all, set_split, drop_all}
use Rattle.std.proofs.lemmas.Bool.{cases_eq}
use Rattle.std.proofs.lemmas.Nat.{xor_comm}
use Rattle.aes3_bits.specs.Bits.{low_bits, number}
use Rattle.aes3_status.specs.Bits.{byte_bits, status_bits}
use Rattle.aes3_status.specs.Check.{weights, preset, remainder, check_byte_of, check_state_of, CheckHolds}
use Rattle.aes3_status.specs.declared.check.Check.TheVariants.{Good, Absent, Bad}
use Rattle.aes3_status.specs.Register.{polynomial}
use Rattle.aes3_status.proofs.Polynomials.{same_from_xor}
use Rattle.aes3_status.proofs.Weights.{weights-append, length-status_bits, status_bits-append}
use Rattle.aes3_status.proofs.ShiftRegister.{turn-polynomial, polynomial_once}

-- byte 23 adds the polynomial that it holds to the remainder of the bytes before it
pub remainder-last : (front : List ℕ) (byte : ℕ) → length front ≡ 23
    → remainder (status_bits (front ++ byte ∷ [])) ≡ bit_xor (remainder (status_bits front)) (polynomial byte)
unfolding remainder polynomial
remainder-last front byte e =
    let s : 0 + length (status_bits front) ≡ 184 = omega (arith, length-status_bits front) in
    ap (λ n. bit_xor n preset)
    (ap (weights 0) (status_bits-append front (byte ∷ [])
    ∙ ap (λ b. status_bits front ++ b) (append-nil (byte_bits byte)))
    ∙ weights-append 0 (status_bits front) (byte_bits byte)
    ∙ ap (λ k. bit_xor (weights 0 (status_bits front)) (weights k (byte_bits byte))) s)
    ∙ xor_assoc (weights 0 (status_bits front)) (weights 184 (byte_bits byte)) preset
    ∙ ap (bit_xor (weights 0 (status_bits front))) (xor_comm (weights 184 (byte_bits byte)) preset)
    ∙ sym (xor_assoc (weights 0 (status_bits front)) preset (weights 184 (byte_bits byte)))

-- what the check asks of byte 23
pub holds-from : (front : List ℕ) (byte : ℕ) → length front ≡ 23 → polynomial byte ≡ remainder (status_bits front)
    → CheckHolds (status_bits (front ++ byte ∷ []))
holds-from front byte e p = remainder-last front byte e ∙ ap (bit_xor (remainder (status_bits front))) p
    ∙ xor_self (remainder (status_bits front))

pub holds-gives : (front : List ℕ) (byte : ℕ) → length front ≡ 23 → CheckHolds (status_bits (front ++ byte ∷ []))
    → polynomial byte ≡ remainder (status_bits front)
holds-gives front byte e h =
    sym (same_from_xor (remainder (status_bits front)) (polynomial byte) (sym (remainder-last front byte e) ∙ h))

pub check_byte-is : (front : List ℕ) (byte : ℕ) → byte < 256 → polynomial byte ≡ remainder (status_bits front)
    → byte ≡ check_byte_of front
unfolding check_byte_of
check_byte-is front byte h p = sym (turn-polynomial byte h) ∙ ap (λ n. number (reverse (low_bits 8 n))) p

pub only-byte : (front : List ℕ) (byte other : ℕ) → length front ≡ 23 → byte < 256 → other < 256
    → CheckHolds (status_bits (front ++ byte ∷ [])) → CheckHolds (status_bits (front ++ other ∷ [])) → other ≡ byte
only-byte front byte other e h g p q = polynomial_once other byte g h (holds-gives front other e q
    ∙ sym (holds-gives front byte e p))

-- ---- 24 bytes
pub split-last : (bytes : List ℕ) → length bytes ≡ 24 → take 23 bytes ++ get_or bytes 23 0 ∷ [] ≡ bytes
split-last bytes e = sym (take_more bytes 23 0 (omega arith)) ∙ take_all 24 bytes (omega arith)

pub set-last : (bytes : List ℕ) (byte : ℕ) → length bytes ≡ 24 → set bytes 23 byte ≡ take 23 bytes ++ byte ∷ []
set-last bytes byte e =
    set_split bytes 23 byte (omega arith) ∙ ap (λ rest. take 23 bytes ++ byte ∷ rest) (drop_all 24 bytes (omega arith))

state-holds : (bytes : List ℕ) → CheckHolds (status_bits bytes) → check_state_of bytes ≡ Good
state-holds bytes h = let t = eq-eqb (remainder (status_bits bytes)) 0 h in rw t refl

-- the state where byte 23 is the check byte, and where it is another
pub state-good : (bytes : List ℕ) (check : ℕ) → length bytes ≡ 24
    → CheckHolds (status_bits (take 23 bytes ++ check ∷ [])) → get_or bytes 23 0 ≡ check
    → check_state_of bytes ≡ Good
state-good bytes check e h s =
    state-holds bytes
    (ap (λ b. remainder (status_bits b)) (sym (split-last bytes e) ∙ ap (λ b. take 23 bytes ++ b ∷ []) s) ∙ h)

-- the check of these bytes holds with no other byte 23
abbrev OnlyCheck : List ℕ → ℕ → Type 0
OnlyCheck bytes check = (byte : ℕ) → byte < 256 → CheckHolds (status_bits (take 23 bytes ++ byte ∷ [])) → byte ≡ check

not-holds : (bytes : List ℕ) (check : ℕ) → length bytes ≡ 24 → OnlyCheck bytes check
    → get_or bytes 23 0 < 256 → (get_or bytes 23 0 ≡ check → ⊥) → eqb (remainder (status_bits bytes)) 0 ≡ false
not-holds bytes check e only l ne = ne_eqb (remainder (status_bits bytes)) 0
    (λ h. ne (only (get_or bytes 23 0) l (ap (λ b. remainder (status_bits b)) (split-last bytes e) ∙ h)))

pub state-absent : (bytes : List ℕ) (check : ℕ) → length bytes ≡ 24 → OnlyCheck bytes check
    → get_or bytes 23 0 < 256 → (get_or bytes 23 0 ≡ check → ⊥) → get_or bytes 23 0 ≡ 0 → check_state_of bytes ≡ Absent
state-absent bytes check e only l ne z =
    let t = not-holds bytes check e only l ne in let s = eq-eqb (get_or bytes 23 0) 0 z in rw (t, s) refl

pub state-bad : (bytes : List ℕ) (check : ℕ) → length bytes ≡ 24 → OnlyCheck bytes check
    → get_or bytes 23 0 < 256 → (get_or bytes 23 0 ≡ check → ⊥) → (get_or bytes 23 0 ≡ 0 → ⊥)
    → check_state_of bytes ≡ Bad
state-bad bytes check e only l ne z =
    let t = not-holds bytes check e only l ne in let s = ne_eqb (get_or bytes 23 0) 0 z in rw (t, s) refl

-- only good where the check holds
pub good-holds : (bytes : List ℕ) → check_state_of bytes ≡ Good → CheckHolds (status_bits bytes)
good-holds bytes = go (cases_eq (remainder (status_bits bytes)) 0) (cases_eq (get_or bytes 23 0) 0)
  where
    go : (remainder (status_bits bytes) ≡ 0) ⊎ (remainder (status_bits bytes) ≡ 0 → ⊥) → (get_or bytes 23 0 ≡ 0)
        ⊎ (get_or bytes 23 0 ≡ 0 → ⊥)
        → check_state_of bytes ≡ Good → CheckHolds (status_bits bytes)
    go (inl h) z e = h
    go (inr h) (inl z) e =
        let t = ne_eqb (remainder (status_bits bytes)) 0 h in let s = eq-eqb (get_or bytes 23 0) 0 z in
        let absent : check_state_of bytes ≡ Absent = rw (t, s) refl in cc
    go (inr h) (inr z) e =
        let t = ne_eqb (remainder (status_bits bytes)) 0 h in let s = ne_eqb (get_or bytes 23 0) 0 z in
        let bad : check_state_of bytes ≡ Bad = rw (t, s) refl in cc
