-- The parity bit, and the level after a subframe.
use Rattle.std.proofs.Common.{◌≡◌, ℕ, zero, suc, ◌-◌, ◌%◌, ◌^◌, ◌<◌, min, List, [], ◌∷◌, ◌++◌, Bool, true, false, not}
use Rattle.std.proofs.Common.{eqb, refl, length, length-append, ap, ap₂, ◌∙◌, sym, arith}
use Rattle.std.specs.Prelude.{bit_and, count_ones, if◌then◌else◌}
use Rattle.std.specs.Int.{bit_at}
use Rattle.std.proofs.lemmas.List.{same_from_push}
use Rattle.std.proofs.lemmas.Nat.Bits.{bit_at_and, bit_at-lt, bit_at_ones}
use Rattle.aes3_level.specs.declared.level.Level.{Level}
use Rattle.aes3_level.specs.Cells.{after, line, other}
use Rattle.aes3_level.proofs.Runs.{other_ne}
use Rattle.aes3_slot.specs.declared.mark.Mark.{Mark}
use Rattle.aes3_bits.specs.Bits.{low_bits, odd_ones}
use Rattle.aes3_slot.specs.Slots.{slot_runs, slots_len, payload_len, with_parity, IsPayload}
use Rattle.aes3_slot.specs.Turns.{turned}
use Rattle.aes3_slot.specs.Rules.{at, before}
use Rattle.aes3_slot.specs.Fronts.{with_some_parity}
use Rattle.aes3_bits.proofs.Bits.{low_bits-same, low_bits-suc, odd_ones-low_bits, zero-bit}
use Rattle.aes3_slot.proofs.Subframes.{after-slots, odd_ones-push, odd_ones-with_parity, xor}
use Rattle.aes3_slot.proofs.Index.{subframe-last}

-- the last of a list
pub split-last : (n : ℕ) (bits : List Bool) → length bits ≡ suc n → (p : List Bool) × (b : Bool) × (length p ≡ n)
    × (bits ≡ p ++ b ∷ [])
split-last n [] l = absurd (omega arith)
split-last zero (b ∷ []) l = ([], b, refl, refl)
split-last zero (b ∷ a ∷ more) l = absurd (omega arith)
split-last (suc n) (b ∷ more) l =
    let r = split-last n more (omega arith) in
    (b ∷ r.0, r.1, ap suc r.2, ap (λ x. b ∷ x) r.3)

-- the last bit of an even number of ones is the parity of the others
pub last-is : (p : List Bool) (b : Bool) → odd_ones (p ++ b ∷ []) ≡ false → b ≡ odd_ones p
last-is p b e = go b (odd_ones p) (sym (odd_ones-push p b) ∙ e)
  where
    go : (b x : Bool) → xor b x ≡ false → b ≡ x
    go false x h = sym h
    go true false h = h
    go true true h = refl

-- bits with an even number of ones are those before the last and their parity
pub split-parity : (n : ℕ) (bits : List Bool) → length bits ≡ suc n → odd_ones bits ≡ false
    → (p : List Bool) × (length p ≡ n) × (bits ≡ with_parity p)
split-parity n bits l e =
    let r = split-last n bits l in
    (r.0, r.2, r.3 ∙ ap (λ b. r.0 ++ b ∷ []) (last-is r.0 r.1 (sym (ap odd_ones r.3) ∙ e)))

-- a subframe that ends at the level before it has even parity
pub even-from-level : (s : Level) (m : Mark) (bits : List Bool) → length bits ≡ slots_len
    → after s (slot_runs m bits) ≡ s → odd_ones bits ≡ false
even-from-level s m bits l e = go (odd_ones bits) (sym (after-slots s m bits l) ∙ e)
  where
    go : (b : Bool) → turned b s ≡ s → b ≡ false
    go false h = refl
    go true h = absurd (other_ne s h)

-- the last cell of a subframe
pub last-slots : (s : Level) (m : Mark) (bits : List Bool) → length bits ≡ slots_len
    → before s (line s (slot_runs m bits)) 64 ≡ turned (odd_ones bits) s
unfolding slots_len
last-slots s m bits l = subframe-last s m bits l ∙ after-slots s m bits l

-- bits and a parity bit, right or wrong
pub odd_ones-some : (right : Bool) (bits : List Bool) → odd_ones (with_some_parity right bits) ≡ not right
odd_ones-some true bits = odd_ones-with_parity bits
odd_ones-some false bits = odd_ones-push bits (not (odd_ones bits)) ∙ go (odd_ones bits)
  where
    go : (b : Bool) → xor (not b) b ≡ true
    go false = refl
    go true = refl

pub some-of-push : (bits : List Bool) (b : Bool)
    → with_some_parity (not (odd_ones (bits ++ b ∷ []))) bits ≡ bits ++ b ∷ []
some-of-push bits b = ap (λ o. with_some_parity (not o) bits) (odd_ones-push bits b) ∙ go b (odd_ones bits) refl
  where
    go : (b x : Bool) → odd_ones bits ≡ x → with_some_parity (not (xor b x)) bits ≡ bits ++ b ∷ []
    go false false e = ap (λ y. bits ++ y ∷ []) e
    go false true e = ap (λ y. bits ++ not y ∷ []) e
    go true false e = ap (λ y. bits ++ not y ∷ []) e
    go true true e = ap (λ y. bits ++ y ∷ []) e

pub some-unique : (q r : Bool) (a b : List Bool) → with_some_parity q a ≡ with_some_parity r b → (q ≡ r) × (a ≡ b)
some-unique q r a b e = (
  turn q r (sym (odd_ones-some q a) ∙ ap odd_ones e ∙ odd_ones-some r b),
  (same_from_push a b _ _ (sym (push q a) ∙ e ∙ push r b)).0,
)
  where
    turn : (q r : Bool) → not q ≡ not r → q ≡ r
    turn false false e = refl
    turn false true e = sym e
    turn true false e = sym e
    turn true true e = refl

    push : (q : Bool) (bits : List Bool)
        → with_some_parity q bits ≡ bits
        ++ (elim q as (λ _. Bool) [ true ↦ odd_ones bits | false ↦ not (odd_ones bits) ]) ∷ []
    push true bits = refl
    push false bits = refl

pub length-some : (right : Bool) (bits : List Bool) → IsPayload bits → length (with_some_parity right bits) ≡ slots_len
unfolding slots_len payload_len
length-some true bits h = let e = length-append bits (odd_ones bits ∷ []) in omega (arith, e, h)
length-some false bits h = let e = length-append bits (not (odd_ones bits) ∷ []) in omega (arith, e, h)

-- the level behind them
pub some-level : (s : Level) (m : Mark) (bits : List Bool) (right : Bool) → IsPayload bits
    → at (line s (slot_runs m (with_some_parity right bits))) 63 ≡ (if right then s else other s)
some-level s m bits right h =
    last-slots s m (with_some_parity right bits) (length-some right bits h)
    ∙ ap (λ b. turned b s) (odd_ones-some right bits) ∙ go right
  where
    go : (right : Bool) → turned (not right) s ≡ (if right then s else other s)
    go true = refl
    go false = refl

-- a number of 28 bits taken apart
pub split-word : (n w : ℕ) → w < 2 ^ suc n
    → low_bits (suc n) w ≡ with_some_parity (eqb (count_ones w % 2) 0) (low_bits n (bit_and w (2 ^ n - 1)))
split-word n w h =
    let e = low_bits-suc n w in
    let o : eqb (count_ones w % 2) 0 ≡ not (odd_ones (low_bits n w ++ eqb (bit_at w n) 1 ∷ [])) =
    zero-bit (count_ones w % 2) (omega arith) ∙ ap not (odd_ones-low_bits (suc n) w h ∙ ap odd_ones e) in
    let m : low_bits n w ≡ low_bits n (bit_and w (2 ^ n - 1)) = low_bits-same n w (bit_and w (2 ^ n - 1)) (λ i g.
    let x = bit_at-lt w i in
    sym (bit_at_and w (2 ^ n - 1) i ∙ ap (min (bit_at w i)) (bit_at_ones n i g) ∙ omega arith)) in
    e ∙ sym (some-of-push (low_bits n w) (eqb (bit_at w n) 1)) ∙ ap₂ with_some_parity (sym o) m
