-- Blocks kept as words.
use Rattle.std.proofs.Common.{◌≡◌, ℕ, zero, suc, ◌*◌, ◌/◌, ◌%◌, ◌≤◌, ◌<◌, List, [], ◌∷◌, Bool, true, map}
use Rattle.std.proofs.Common.{length, set, get_or, replicate, refl, sym, ap, ap₂, ◌∙◌, arith}
use Rattle.std.proofs.lemmas.List.{map-set, get_or-map}
use Rattle.aes3_slot.specs.Slots.{payload_len, slots_len}
use Rattle.aes3_frame.specs.Blocks.{block_subframes, zero_block}
use Rattle.aes3_frame.specs.Files.{is_lawful, payload_of}

pub block_subframes_384 : block_subframes ≡ 384
unfolding block_subframes
block_subframes_384 = refl

pub count-within : (n : ℕ) → block_subframes * (n / block_subframes) ≤ n
unfolding block_subframes
count-within n = omega arith

-- zeros
map-replicate : {A B : Type 0} (f : A → B) (n : ℕ) (x : A) → map f (replicate n x) ≡ replicate n (f x)
map-replicate f zero x = refl
map-replicate f (suc n) x = ap (λ xs. f x ∷ xs) (map-replicate f n x)

get_or-zeros : (n i : ℕ) → ◌≡◌ {A = ℕ} (get_or (replicate n 0) i 0) 0
get_or-zeros zero i = refl
get_or-zeros (suc n) zero = refl
get_or-zeros (suc n) (suc i) = get_or-zeros n i

pub zeros-payloads : (words : List ℕ) → words ≡ replicate block_subframes 0 → map payload_of words ≡ zero_block
unfolding zero_block payload_len
zeros-payloads words e = ap (map payload_of) e ∙ map-replicate payload_of block_subframes 0

pub zero-lawful : is_lawful 0 ≡ true
unfolding slots_len
zero-lawful = refl

pub zeros-lawful : (words : List ℕ) → words ≡ replicate block_subframes 0 → (i : ℕ) → is_lawful (get_or words i 0) ≡ true
zeros-lawful words e i = ap is_lawful (ap (λ w. get_or w i 0) e ∙ get_or-zeros block_subframes i) ∙ zero-lawful

-- two payloads written
pub payloads-set : (words : List ℕ) (i j v w : ℕ) (x y : List Bool) → payload_of v ≡ x → payload_of w ≡ y
    → map payload_of (set (set words i v) j w) ≡ set (set (map payload_of words) i x) j y
payloads-set words i j v w x y e f =
    map-set payload_of (set words i v) j w
    ∙ ap₂ (λ ws p. set ws j p) (map-set payload_of words i v ∙ ap (set (map payload_of words) i) e) f

-- a payload read, and one bit of it written
pub payload-at : (words : List ℕ) (b : List (List Bool)) (i : ℕ) → map payload_of words ≡ b → i < length words
    → get_or b i [] ≡ payload_of (get_or words i 0)
payload-at words b i e h = ap (λ x. get_or x i []) (sym e) ∙ get_or-map payload_of words i 0 [] h

pub payload-set : (words : List ℕ) (b : List (List Bool)) (i w place : ℕ) (bit : Bool) → map payload_of words ≡ b
    → i < length words → payload_of w ≡ set (payload_of (get_or words i 0)) place bit
    → map payload_of (set words i w) ≡ set b i (set (get_or b i []) place bit)
payload-set words b i w place bit e h f =
    map-set payload_of words i w
    ∙ ap₂ (λ x p. set x i p) e (f ∙ ap (λ p. set p place bit) (sym (payload-at words b i e h)))

-- whole blocks of words and of bytes
pub slots-whole : (n : ℕ) → block_subframes * n / block_subframes ≡ n
unfolding block_subframes
slots-whole n = omega arith

pub bytes-whole : (n : ℕ) → 4 * (block_subframes * n) % (4 * block_subframes) ≡ 0
unfolding block_subframes
bytes-whole n = omega arith
