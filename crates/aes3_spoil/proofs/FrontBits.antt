-- The lowest bits of a word.
use Rattle.std.proofs.Common.{◌≡◌, ℕ, zero, suc, ◌+◌, ◌-◌, ◌*◌, ◌/◌, ◌%◌, ◌^◌}
use Rattle.std.proofs.Common.{◌<◌, ◌≤◌, Bool, true, false, cond, map}
use Rattle.std.proofs.Common.{refl, sym, ap, ◌∙◌, arith}
use Rattle.std.specs.Prelude.{bit_and, ◌==◌, not}
use Rattle.std.proofs.lemmas.Nat.{and_mask, mod_below, pow-add, pow_pos}
use Rattle.aes3_level.specs.Words.{level_of, low_cells}
use Rattle.aes3_capture_recovery.specs.Endings.{level_if}
use Rattle.aes3_capture_recovery.proofs.WordBits.{low_cells-low-bits}
use Rattle.aes3_slot.proofs.Turns.{low_cells-not}
use Rattle.aes3_spoil.specs.Spoiled.{is_odd, level_inverted}
use Rattle.aes3_spoil.proofs.SpoiledCells.{same-cells, other-cells}

over : (q d r : ℕ) → r < d → (q * d + r) / d ≡ q
over q d r h = grind (arith, h)

shorter : (q d : ℕ) → 0 < q → 0 < d → 2 ^ 64 ≡ q * d → 18446744073709551615 / d ≡ q - 1
shorter zero d some more e = absurd (omega (arith, some))
shorter (suc q) d some more e =
    let m : suc q * d ≡ q * d + d = grind arith in
    let a : 18446744073709551615 ≡ q * d + (d - 1) = omega (arith, e, m, more) in
    ap (λ k. k / d) a ∙ over q d (d - 1) (omega (arith, more)) ∙ omega arith

ones : (n : ℕ) → n ≤ 64 → 18446744073709551615 / 2 ^ (64 - n) ≡ 2 ^ n - 1
ones n h =
    let p : 2 ^ 64 ≡ 2 ^ n * 2 ^ (64 - n) = ap (λ k. 2 ^ k) (let e : 64 ≡ n + (64 - n) = omega (arith, h) in e)
    ∙ pow-add 2 n (64 - n) in
    shorter (2 ^ n) (2 ^ (64 - n)) (pow_pos n) (pow_pos (64 - n)) p

front : (n w : ℕ) → n ≤ 64 → bit_and w (18446744073709551615 / 2 ^ (64 - n)) ≡ w % 2 ^ n
front n w h = ap (bit_and w) (ones n h) ∙ and_mask w n

pub front-below : (n w : ℕ) → n ≤ 64 → bit_and w (18446744073709551615 / 2 ^ (64 - n)) < 2 ^ n
front-below n w h = rw (front n w h) (mod_below w (2 ^ n) (pow_pos n))

pub front-cells : (n w : ℕ) → n ≤ 64 → low_cells n (bit_and w (18446744073709551615 / 2 ^ (64 - n))) ≡ low_cells n w
front-cells n w h = ap (low_cells n) (front n w h) ∙ low_cells-low-bits n w

pub front-same : (n w : ℕ) → n ≤ 64
    → low_cells n (bit_and w (18446744073709551615 / 2 ^ (64 - n))) ≡ map (level_inverted false) (low_cells n w)
front-same n w h = front-cells n w h ∙ sym (same-cells (low_cells n w))

pub front-other : (n w : ℕ) → n ≤ 64 → w < 2 ^ 64
    → low_cells n (bit_and (18446744073709551615 - w) (18446744073709551615 / 2 ^ (64 - n)))
    ≡ map (level_inverted true) (low_cells n w)
front-other n w h l =
    front-cells n (18446744073709551615 - w) h ∙ low_cells-not n w h l ∙ sym (other-cells (low_cells n w))

-- the level of a word's first cell, turned
pub first-level : (w : ℕ) (turned : Bool)
    → level_if (cond turned (not (is_odd w)) (is_odd w)) ≡ level_inverted turned (level_of (w % 2))
first-level w turned = go (w % 2) (omega arith) turned
  where
    go : (b : ℕ) → b < 2 → (turned : Bool)
        → level_if (cond turned (not (b == 1)) (b == 1)) ≡ level_inverted turned (level_of b)
    go zero h true = refl
    go zero h false = refl
    go (suc zero) h true = refl
    go (suc zero) h false = refl
    go (suc (suc b)) h turned = absurd (omega arith)
