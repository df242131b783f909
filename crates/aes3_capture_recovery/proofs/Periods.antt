-- The period, from the mean places of the first and of the last edges.
use Rattle.std.proofs.Common.{ℕ, suc, List, ◌≡◌, ◌≤◌, ◌<◌, ◌+◌, ◌-◌, ◌∙◌, refl, ap₂, sym, arith}
use Rattle.std.specs.Prelude.{min}
use Rattle.aes3_capture.specs.Captures.{sum_to}
use Rattle.aes3_capture_recovery.specs.Finding.{sums_to}

pub sums-none : (xs : List ℕ) (i : ℕ) → sums_to xs i 0 ≡ 0
unfolding sums_to
sums-none xs i = refl

pub sums-next : (xs : List ℕ) (i k n : ℕ) → n ≡ k + 1 → sums_to xs i n ≡ sums_to xs i k + sum_to xs (i + k)
unfolding sums_to
sums-next xs i k n e = let f : n ≡ suc k = omega (arith, e) in rw f refl

-- one more of the first sixteen, and none more
pub early-more : (xs : List ℕ) (i sum at next : ℕ) → i < 16 → sum ≡ sums_to xs 0 (min i 16) → at ≡ sum_to xs i → next ≡ sum + at
    → next ≡ sums_to xs 0 (min (i + 1) 16)
early-more xs i sum at next h s a e =
    let m : min i 16 ≡ i = omega (arith, h) in
    let n : min (i + 1) 16 ≡ i + 1 = omega (arith, h) in
    let f : 0 + i ≡ i = omega arith in
    let more = sums-next xs 0 i (i + 1) refl in
    rw n (e ∙ ap₂ (λ x y. x + y) (rw m at s) a ∙ sym (rw f at more))

pub early-stays : (xs : List ℕ) (i sum next : ℕ) → 16 ≤ i → sum ≡ sums_to xs 0 (min i 16) → next ≡ sum
    → next ≡ sums_to xs 0 (min (i + 1) 16)
early-stays xs i sum next h s e =
    let m : min i 16 ≡ 16 = omega (arith, h) in
    let n : min (i + 1) 16 ≡ 16 = omega (arith, h) in
    rw n (e ∙ rw m at s)

-- one more of the last sixteen of `long`, and none more
pub late-more : (xs : List ℕ) (long i sum at next : ℕ) → 16 ≤ long → long - 16 ≤ i
    → sum ≡ sums_to xs (long - 15) (i - (long - 16)) → at ≡ sum_to xs (i + 1) → next ≡ sum + at
    → next ≡ sums_to xs (long - 15) (i + 1 - (long - 16))
late-more xs long i sum at next l h s a e =
    let f : long - 15 + (i - (long - 16)) ≡ i + 1 = omega (arith, l, h) in
    let more = sums-next xs (long - 15) (i - (long - 16)) (i + 1 - (long - 16)) (omega (arith, h)) in
    e ∙ ap₂ (λ x y. x + y) s a ∙ sym (rw f at more)

pub late-stays : (xs : List ℕ) (long i sum next : ℕ) → i < long - 16
    → sum ≡ sums_to xs (long - 15) (i - (long - 16)) → next ≡ sum
    → next ≡ sums_to xs (long - 15) (i + 1 - (long - 16))
late-stays xs long i sum next h s e =
    let m : i - (long - 16) ≡ 0 = omega (arith, h) in
    let n : i + 1 - (long - 16) ≡ 0 = omega (arith, h) in
    rw n (e ∙ rw m at s)
