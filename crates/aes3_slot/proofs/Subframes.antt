-- The length of a subframe, and the level after it.
use Rattle.std.proofs.Common.{◌≡◌, ℕ, zero, suc, ◌+◌, ◌*◌, List, [], ◌∷◌, ◌++◌, Bool, true, false, not, refl, length}
use Rattle.std.proofs.Common.{ap, ◌∙◌, sym, arith, length-append}
use Rattle.aes3_level.specs.declared.level.Level.{Level}
use Rattle.aes3_level.specs.declared.level.Level.TheVariants.{Low, High}
use Rattle.aes3_level.specs.Cells.{line, other, after}
use Rattle.aes3_level.proofs.Runs.{other-other, line-append, after-append, total, total-append, length-line}
use Rattle.aes3_slot.specs.declared.mark.Mark.{Mark}
use Rattle.aes3_slot.specs.declared.mark.Mark.TheVariants.{X, Y, Z}
use Rattle.aes3_bits.specs.Bits.{odd_ones}
use Rattle.aes3_slot.specs.Slots.{mark_runs, bits_runs, with_parity, payload_len, slots_len, slot_runs, subframe_runs}
use Rattle.aes3_slot.specs.Slots.{IsPayload}
use Rattle.aes3_slot.specs.Turns.{turned}

pub turned-not : (b : Bool) (s : Level) → turned (not b) s ≡ turned b (other s)
turned-not false s = refl
turned-not true s = sym (other-other s)

-- each 0 bit turns the level, a 1 bit leaves it
abbrev pub odd_zeros : List Bool → Bool
odd_zeros [] = false
odd_zeros (false ∷ bits) = not (odd_zeros bits)
odd_zeros (true ∷ bits) = odd_zeros bits

pub after-bits : (s : Level) (bits : List Bool) → after s (bits_runs bits) ≡ turned (odd_zeros bits) s
after-bits s [] = refl
after-bits s (false ∷ bits) = after-bits (other s) bits ∙ sym (turned-not (odd_zeros bits) s)
after-bits s (true ∷ bits) = after-bits (other (other s)) bits ∙ ap (turned (odd_zeros bits)) (other-other s)

-- a preamble leaves the level
pub after-mark : (s : Level) (m : Mark) → after s (mark_runs m) ≡ s
after-mark Low X = refl
after-mark Low Y = refl
after-mark Low Z = refl
after-mark High X = refl
after-mark High Y = refl
after-mark High Z = refl

pub line-slots : (s : Level) (m : Mark) (bits : List Bool)
    → line s (slot_runs m bits) ≡ line s (mark_runs m) ++ line s (bits_runs bits)
line-slots s m bits = line-append s (mark_runs m) (bits_runs bits)
    ∙ ap (λ t. line s (mark_runs m) ++ line t (bits_runs bits)) (after-mark s m)

-- zeros and ones together are all bits
abbrev pub is_odd : ℕ → Bool
is_odd zero = false
is_odd (suc n) = not (is_odd n)

abbrev pub xor : Bool → Bool → Bool
xor false b = b
xor true b = not b

pub not-not : (b : Bool) → not (not b) ≡ b
not-not false = refl
not-not true = refl

pub odd_zeros-is : (bits : List Bool) → odd_zeros bits ≡ xor (odd_ones bits) (is_odd (length bits))
odd_zeros-is [] = refl
odd_zeros-is (false ∷ bits) = ap not (odd_zeros-is bits) ∙ last (odd_ones bits) (is_odd (length bits))
  where
    last : (a b : Bool) → not (xor a b) ≡ xor a (not b)
    last false b = refl
    last true b = refl
odd_zeros-is (true ∷ bits) = odd_zeros-is bits ∙ last (odd_ones bits) (is_odd (length bits))
  where
    last : (a b : Bool) → xor a b ≡ xor (not a) (not b)
    last false b = sym (not-not b)
    last true b = refl

-- 28 bits turn the level where the number of their ones is odd
pub after-slots : (s : Level) (m : Mark) (bits : List Bool) → length bits ≡ slots_len
    → after s (slot_runs m bits) ≡ turned (odd_ones bits) s
unfolding slots_len
after-slots s m bits h =
    after-append s (mark_runs m) (bits_runs bits) ∙ ap (λ t. after t (bits_runs bits)) (after-mark s m)
    ∙ after-bits s bits
    ∙ ap (λ b. turned b s) (odd_zeros-is bits ∙ ap (λ n. xor (odd_ones bits) (is_odd n)) h ∙ even (odd_ones bits))
  where
    even : (b : Bool) → xor b false ≡ b
    even false = refl
    even true = refl

-- one more bit turns the parity where it is 1
pub odd_ones-push : (bits : List Bool) (b : Bool) → odd_ones (bits ++ b ∷ []) ≡ xor b (odd_ones bits)
odd_ones-push [] false = refl
odd_ones-push [] true = refl
odd_ones-push (false ∷ bits) b = odd_ones-push bits b
odd_ones-push (true ∷ bits) false = ap not (odd_ones-push bits false)
odd_ones-push (true ∷ bits) true = ap not (odd_ones-push bits true)

-- the parity bit makes the number of ones even
pub odd_ones-with_parity : (bits : List Bool) → odd_ones (with_parity bits) ≡ false
odd_ones-with_parity bits = odd_ones-push bits (odd_ones bits) ∙ same (odd_ones bits)
  where
    same : (b : Bool) → xor b b ≡ false
    same false = refl
    same true = refl

pub length-with_parity : (bits : List Bool) → IsPayload bits → length (with_parity bits) ≡ slots_len
unfolding slots_len payload_len
length-with_parity bits h = let e = length-append bits (odd_ones bits ∷ []) in omega (arith, e, h)

-- a subframe ends at the level before it
pub after-subframe : (s : Level) (m : Mark) (bits : List Bool) → IsPayload bits → after s (subframe_runs m bits) ≡ s
after-subframe s m bits h =
    after-slots s m (with_parity bits) (length-with_parity bits h) ∙ ap (λ b. turned b s) (odd_ones-with_parity bits)

-- lengths
pub total-bits : (bits : List Bool) → total (bits_runs bits) ≡ 2 * length bits
total-bits [] = refl
total-bits (false ∷ bits) = let e = total-bits bits in omega arith
total-bits (true ∷ bits) = let e = total-bits bits in omega arith

pub total-mark : (m : Mark) → total (mark_runs m) ≡ 8
total-mark X = refl
total-mark Y = refl
total-mark Z = refl

pub length-slots : (s : Level) (m : Mark) (bits : List Bool) → length (line s (slot_runs m bits)) ≡ 8 + 2 * length bits
length-slots s m bits =
    let a = length-line s (slot_runs m bits) in
    let b = total-append (mark_runs m) (bits_runs bits) in
    let c = total-mark m in
    let d = total-bits bits in
    omega (arith, a, b, c, d)

pub length-subframe : (s : Level) (m : Mark) (bits : List Bool) → IsPayload bits
    → length (line s (subframe_runs m bits)) ≡ 64
unfolding slots_len
length-subframe s m bits h =
    let a = length-slots s m (with_parity bits) in
    let b = length-with_parity bits h in
    omega (arith, a, b)
