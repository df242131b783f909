-- A bit of a lawful word's payload, read, and changed with the parity bit.
use mir.Val.{bool_byte}
use Rattle.std.proofs.Common.{◌≡◌, ◌≢◌, ℕ, zero, suc, ◌+◌, ◌-◌, ◌*◌, ◌/◌, ◌%◌, ◌^◌, ◌<◌, ◌⊎◌, inl, inr, max, List}
use Rattle.std.proofs.Common.{[], ◌∷◌, Bool, true, false, not, eqb, length, get_or, set, refl, sym, ap, ap₂}
use Rattle.std.proofs.Common.{◌∙◌, arith, length-set, pow-add, mul_assoc, subst}
use Rattle.std.specs.Prelude.{bit_or, bit_and, bit_xor}
use Rattle.std.specs.Int.{bit_at}
use Rattle.std.proofs.lemmas.Bool.{cases_eq}
use Rattle.std.proofs.lemmas.Nat.{shl_whole, one_shl}
use Rattle.std.proofs.lemmas.Nat.Bits.{bit_at_xor, bit_at_or, bit_at-pow_same, bit_at-pow_other, bit_at-lt, bit_at-zero}
use Rattle.std.proofs.lemmas.Nat.Bits.{and_pow}
use Rattle.std.proofs.lemmas.List.{ext_get_or, get_or-set_same, get_or-set_other}
use Rattle.aes3_bits.specs.Bits.{low_bits, number, odd_ones}
use Rattle.aes3_bits.proofs.Bits.{length-low_bits, low_bits-at, low_bits-suc, low_bits-same, number-low}
use Rattle.aes3_level.proofs.Moves.{bit_at-shr}
use Rattle.aes3_slot.specs.Slots.{payload_len, slots_len, slots_bits}
use Rattle.aes3_slot.proofs.Subframes.{odd_ones-push, xor}
use Rattle.aes3_frame.specs.Files.{is_lawful, payload_of}
use Rattle.aes3_frame.proofs.BitLemmas.{bit-set}

pub payload-bit : (w place : ℕ) → place < 27 → get_or (payload_of w) place false ≡ eqb (bit_at w (4 + place)) 1
unfolding payload_len
payload-bit w place h = low_bits-at 27 (w / 16) place h ∙ ap (λ b. eqb b 1) (bit_at-shr w 4 place)

pub payload-test : (w place : ℕ) → place < 27
    → get_or (payload_of w) place false ≡ eqb (bit_and (w / 2 ^ (4 + place)) 1) 1
payload-test w place h = payload-bit w place h ∙ sym (bit-set w (4 + place))

-- a bit set in a list turns the parity where it changes
odd_ones-set : (bits : List Bool) (i : ℕ) (b : Bool) → i < length bits
    → odd_ones (set bits i b) ≡ xor (xor (get_or bits i false) b) (odd_ones bits)
odd_ones-set [] i b h = absurd (omega arith)
odd_ones-set (false ∷ bits) zero false h = refl
odd_ones-set (false ∷ bits) zero true h = refl
odd_ones-set (true ∷ bits) zero false h = double (odd_ones bits)
  where
    double : (b : Bool) → b ≡ not (not b)
    double true = refl
    double false = refl
odd_ones-set (true ∷ bits) zero true h = refl
odd_ones-set (false ∷ bits) (suc i) b h = odd_ones-set bits i b (omega arith)
odd_ones-set (true ∷ bits) (suc i) b h =
    ap not (odd_ones-set bits i b (omega arith)) ∙ out (xor (get_or bits i false) b) (odd_ones bits)
  where
    out : (a o : Bool) → not (xor a o) ≡ xor a (not o)
    out true o = refl
    out false o = refl

-- words that differ in one slot and in the parity bit, or not at all
pub record IsTurned (w r slot c : ℕ) : Type 0 where
  pub others : (i : ℕ) → i ≢ slot → i ≢ 31 → bit_at r i ≡ bit_at w i
  pub slot_bit : bit_at r slot ≡ (bit_at w slot + c) % 2
  pub parity_bit : bit_at r 31 ≡ (bit_at w 31 + c) % 2

placed-same : (c k : ℕ) → c < 2 → bit_at (c * 2 ^ k) k ≡ c
placed-same zero k h = ap (λ n. bit_at n k) (let e : 0 * 2 ^ k ≡ 0 = omega arith in e) ∙ bit_at-zero k
placed-same (suc zero) k h = ap (λ n. bit_at n k) (let e : 1 * 2 ^ k ≡ 2 ^ k = omega arith in e) ∙ bit_at-pow_same k
placed-same (suc (suc c)) k h = absurd (omega arith)

placed-other : (c k i : ℕ) → c < 2 → i ≢ k → bit_at (c * 2 ^ k) i ≡ 0
placed-other zero k i h n = ap (λ n. bit_at n i) (let e : 0 * 2 ^ k ≡ 0 = omega arith in e) ∙ bit_at-zero i
placed-other (suc zero) k i h n =
    ap (λ n. bit_at n i) (let e : 1 * 2 ^ k ≡ 2 ^ k = omega arith in e) ∙ bit_at-pow_other k i n
placed-other (suc (suc c)) k i h n = absurd (omega arith)

both-turned : (w slot c : ℕ) → slot < 31 → c < 2
    → IsTurned w (bit_xor w (bit_or (c * 2 ^ slot) (c * 2 ^ 31))) slot c
both-turned w slot c h l = record {
  others = λ i n m. bit i ∙ ap₂ (λ a b. (bit_at w i + max a b) % 2) (placed-other c slot i l n) (placed-other c 31 i l m)
      ∙ (let x = bit_at-lt w i in omega arith);
  slot_bit = bit slot
      ∙ ap₂ (λ a b. (bit_at w slot + max a b) % 2) (placed-same c slot l) (placed-other c 31 slot l (omega arith))
      ∙ ap (λ a. (bit_at w slot + a) % 2) (let e : max c 0 ≡ c = omega arith in e);
  parity_bit = bit 31
      ∙ ap₂ (λ a b. (bit_at w 31 + max a b) % 2) (placed-other c slot 31 l (omega arith)) (placed-same c 31 l)
      ∙ ap (λ a. (bit_at w 31 + a) % 2) (let e : max 0 c ≡ c = omega arith in e);
}
  where
    bit : (i : ℕ) → bit_at (bit_xor w (bit_or (c * 2 ^ slot) (c * 2 ^ 31))) i
        ≡ (bit_at w i + max (bit_at (c * 2 ^ slot) i) (bit_at (c * 2 ^ 31) i)) % 2
    bit i = bit_at_xor w (bit_or (c * 2 ^ slot) (c * 2 ^ 31)) i
        ∙ ap (λ x. (bit_at w i + x) % 2) (bit_at_or (c * 2 ^ slot) (c * 2 ^ 31) i)

pub turned-payload : (w r place : ℕ) (b : Bool) → place < 27
    → IsTurned w r (4 + place) ((bit_at w (4 + place) + bool_byte b) % 2)
    → payload_of r ≡ set (payload_of w) place b
unfolding payload_len
turned-payload w r place b h t =
    ext_get_or false (payload_of r) (set (payload_of w) place b)
    (length-low_bits 27 (r / 16) ∙ sym (length-set (payload_of w) place b ∙ length-low_bits 27 (w / 16)))
    (λ i g. let n = length-low_bits 27 (r / 16) in each i (omega arith) (cases_eq i place))
  where
    now : (x : ℕ) → x < 2 → (b : Bool) → eqb ((x + (x + bool_byte b) % 2) % 2) 1 ≡ b
    now zero l false = refl
    now zero l true = refl
    now (suc zero) l false = refl
    now (suc zero) l true = refl
    now (suc (suc x)) l b = absurd (omega arith)

    each : (i : ℕ) → i < 27 → (i ≡ place) ⊎ (i ≡ place → ⊥)
        → get_or (payload_of r) i false ≡ get_or (set (payload_of w) place b) i false
    each i g (inl e) =
        ap (λ i. get_or (payload_of r) i false) e ∙ payload-bit r place h
        ∙ ap (λ x. eqb x 1) t.slot_bit ∙ now (bit_at w (4 + place)) (bit_at-lt w (4 + place)) b
        ∙ sym (get_or-set_same (payload_of w) place b false (let n = length-low_bits 27 (w / 16) in omega arith))
        ∙ ap (λ i. get_or (set (payload_of w) place b) i false) (sym e)
    each i g (inr n) =
        payload-bit r i g ∙ ap (λ x. eqb x 1) (t.others (4 + i) (λ q. n (omega arith)) (λ q. absurd (omega arith)))
        ∙ sym (payload-bit w i g) ∙ sym (get_or-set_other (payload_of w) place i b false n)

slots-odd : (w : ℕ) → odd_ones (slots_bits (w / 16)) ≡ xor (eqb (bit_at w 31) 1) (odd_ones (payload_of w))
unfolding slots_len payload_len
slots-odd w =
    ap odd_ones (low_bits-suc 27 (w / 16)) ∙ odd_ones-push (low_bits 27 (w / 16)) (eqb (bit_at (w / 16) 27) 1)
    ∙ ap (λ x. xor (eqb x 1) (odd_ones (low_bits 27 (w / 16)))) (bit_at-shr w 4 27)

payload-holds : (w place : ℕ) → place < 27 → place < length (payload_of w)
unfolding payload_len
payload-holds w place h = let n = length-low_bits 27 (w / 16) in omega arith

turned-odd : (w r place : ℕ) (b : Bool) → place < 27
    → IsTurned w r (4 + place) ((bit_at w (4 + place) + bool_byte b) % 2)
    → odd_ones (slots_bits (r / 16)) ≡ odd_ones (slots_bits (w / 16))
turned-odd w r place b h t =
    slots-odd r
    ∙ ap₂ (λ x o. xor (eqb x 1) o) t.parity_bit
    (ap odd_ones (turned-payload w r place b h t) ∙ odd_ones-set (payload_of w) place b (payload-holds w place h)
    ∙ ap (λ x. xor (xor x b) (odd_ones (payload_of w))) (payload-bit w place h))
    ∙ same (bit_at w 31) (bit_at w (4 + place)) (bit_at-lt w 31) (bit_at-lt w (4 + place)) b (odd_ones (payload_of w))
    ∙ sym (slots-odd w)
  where
    same : (p x : ℕ) → p < 2 → x < 2 → (b o : Bool)
        → xor (eqb ((p + (x + bool_byte b) % 2) % 2) 1) (xor (xor (eqb x 1) b) o) ≡ xor (eqb p 1) o
    same zero zero g l false o = refl
    same zero zero g l true true = refl
    same zero zero g l true false = refl
    same zero (suc zero) g l false true = refl
    same zero (suc zero) g l false false = refl
    same zero (suc zero) g l true o = refl
    same (suc zero) zero g l false o = refl
    same (suc zero) zero g l true o = refl
    same (suc zero) (suc zero) g l false o = refl
    same (suc zero) (suc zero) g l true o = refl
    same (suc (suc p)) x g l b o = absurd (omega arith)
    same zero (suc (suc x)) g l b o = absurd (omega arith)
    same (suc zero) (suc (suc x)) g l b o = absurd (omega arith)

turned-code : (w r place c : ℕ) → place < 27 → IsTurned w r (4 + place) c → r % 16 ≡ w % 16
turned-code w r place c h t =
    sym (number-low 4 r)
    ∙ ap number (low_bits-same 4 r w (λ i g. t.others i (λ q. absurd (omega arith)) (λ q. absurd (omega arith))))
    ∙ number-low 4 w

pub turned-lawful : (w r place : ℕ) (b : Bool) → place < 27
    → IsTurned w r (4 + place) ((bit_at w (4 + place) + bool_byte b) % 2)
    → is_lawful w ≡ true → is_lawful r ≡ true
turned-lawful w r place b h t l =
    let e = turned-code w r place _ h t in
    let o = turned-odd w r place b h t in
    rw (e, o) l

-- what the code turns
pub turned-word : (w v place : ℕ) (b : Bool) → place < 27 → v ≡ bool_byte b
    → IsTurned w
    (bit_xor w (bit_or (bit_and (bit_xor w (v * 2 ^ (4 + place) % 2 ^ 32)) (1 * 2 ^ (4 + place) % 2 ^ 32))
    (bit_and (bit_xor w (v * 2 ^ (4 + place) % 2 ^ 32)) (1 * 2 ^ (4 + place) % 2 ^ 32)
    * 2 ^ (31 - (4 + place)) % 2 ^ 32)))
    (4 + place) ((bit_at w (4 + place) + bool_byte b) % 2)
turned-word w v place b h e =
    let s = 4 + place in
    let c = (bit_at w s + bool_byte b) % 2 in
    let few : c < 2 = omega arith in
    let v-few : v < 2 = rw e (bool-few b) in
    let m : bit_and (bit_xor w (v * 2 ^ s % 2 ^ 32)) (1 * 2 ^ s % 2 ^ 32) ≡ c * 2 ^ s =
    ap₂ (λ x y. bit_and (bit_xor w x) y) (shl_whole v 1 s 32 v-few (omega arith)) (one_shl s 32 (omega arith))
    ∙ and_pow (bit_xor w (v * 2 ^ s)) s
    ∙ ap (λ x. x * 2 ^ s) (bit_at_xor w (v * 2 ^ s) s ∙ ap (λ x. (bit_at w s + x) % 2) (placed-same v s v-few ∙ e)) in
    let p : c * 2 ^ s * 2 ^ (31 - s) % 2 ^ 32 ≡ c * 2 ^ 31 =
    ap (λ x. x % 2 ^ 32) (mul_assoc c (2 ^ s) (2 ^ (31 - s)) ∙ ap (λ x. c * x) (sym (pow-add 2 s (31 - s))
    ∙ ap (λ k. 2 ^ k) (let q : s + (31 - s) ≡ 31 = omega arith in q)))
    ∙ shl_whole c 1 31 32 few (omega arith) in
    subst (λ x. IsTurned w (bit_xor w (bit_or x (x * 2 ^ (31 - s) % 2 ^ 32))) s c) (sym m)
    (subst (λ x. IsTurned w (bit_xor w (bit_or (c * 2 ^ s) x)) s c) (sym p) (both-turned w s c (omega arith) few))
  where
    bool-few : (b : Bool) → bool_byte b < 2
    bool-few true = omega arith
    bool-few false = omega arith
