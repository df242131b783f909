-- The bytes of a channel status, and the fields that stand in them.
use Rattle.std.proofs.Common.{◌≡◌, ℕ, zero, suc, ◌+◌, ◌/◌, ◌%◌, ◌^◌, ◌<◌, ◌≤◌, List, [], ◌∷◌, length, take, drop}
use Rattle.std.proofs.Common.{get_or, refl, sym, ap, ap₂, ◌∙◌, arith}
use Rattle.aes3_bits.specs.Bits.{number}
use Rattle.aes3_status.specs.Bits.{field}
use Rattle.aes3_status.proofs.BitFields.{drop-bytes, four-bytes}

-- some items from one on
abbrev pub items : ℕ → ℕ → List ℕ → List ℕ
items zero i xs = []
items (suc n) i xs = get_or xs i 0 ∷ items n (suc i) xs

items-behind : (n i x : ℕ) (xs : List ℕ) → items n (suc i) (x ∷ xs) ≡ items n i xs
items-behind zero i x xs = refl
items-behind (suc n) i x xs = ap (λ ys. get_or xs i 0 ∷ ys) (items-behind n (suc i) x xs)

pub all-items : (n : ℕ) (xs : List ℕ) → length xs ≡ n → xs ≡ items n 0 xs
all-items zero [] h = refl
all-items zero (x ∷ xs) h = absurd (omega arith)
all-items (suc n) [] h = absurd (omega arith)
all-items (suc n) (x ∷ xs) h = ap (λ ys. x ∷ ys) (all-items n xs (omega arith) ∙ sym (items-behind n 0 x xs))

-- numbers each below 256
abbrev pub EachSmall : List ℕ → Type 0
EachSmall [] = Unit {0}
EachSmall (x ∷ xs) = (x < 256) × EachSmall xs

pub each-small : (xs : List ℕ) → EachSmall xs → (i : ℕ) → get_or xs i 0 < 256
each-small [] h i = omega arith
each-small (x ∷ xs) h zero = h.0
each-small (x ∷ xs) h (suc i) = each-small xs h.1 i

-- lists with the same first item and the same others
pub cons : {x y : ℕ} {xs ys : List ℕ} → x ≡ y → xs ≡ ys → x ∷ xs ≡ y ∷ ys
cons e f = ap₂ (λ x xs. x ∷ xs) e f

-- a number of four bytes begins with them
pub from-byte : (bytes : List ℕ) (byte : ℕ) → byte < length bytes
    → field byte 0 32 bytes ≡ field 0 0 32 (get_or bytes byte 0 ∷ drop (suc byte) bytes)
unfolding field
from-byte bytes byte h = ap (λ bits. number (take 32 bits)) (drop-bytes bytes byte 0 h (omega arith))

-- four bytes are those of their number
pub number-is : (bytes : List ℕ) (byte n : ℕ) → byte + 4 ≤ length bytes → ((i : ℕ) → get_or bytes i 0 < 256) → n < 2 ^
    32
    → get_or bytes byte 0 ≡ n % 256 → get_or bytes (byte + 1) 0 ≡ n / 256 % 256
    → get_or bytes (byte + 2) 0 ≡ n / 256 / 256 % 256 → get_or bytes (byte + 3) 0 ≡ n / 256 / 256 / 256 % 256
    → field byte 0 32 bytes ≡ n
number-is bytes byte n h f l a b c d = four-bytes bytes byte h f ∙ omega (arith, a, b, c, d)
