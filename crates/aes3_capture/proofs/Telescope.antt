-- How far edges of a line lie apart.
use Rattle.std.proofs.Common.{ℕ, zero, suc, List, [], ◌∷◌, ◌≡◌, ◌<◌, ◌≤◌, ◌+◌, ◌*◌, length, get_or, arith}
use Rattle.aes3_capture.specs.declared.follower.Bounds.{Bounds}
use Rattle.aes3_capture.specs.Captures.{AreDisplaced, sum_to}

-- one more of a sum
pub sum-next : (xs : List ℕ) (i : ℕ) → i < length xs → sum_to xs (i + 1) ≡ sum_to xs i + get_or xs i 0
sum-next [] i h = absurd (omega (arith, h))
sum-next (x ∷ xs) zero h = let e : x + 0 ≡ 0 + x = omega arith in e
sum-next (x ∷ xs) (suc i) h =
    let e : suc i + 1 ≡ suc (i + 1) = omega arith in
    let next = sum-next xs i (omega (arith, h)) in
    rw e (let f : x + sum_to xs (i + 1) ≡ x + sum_to xs i + get_or xs i 0 = omega (arith, next) in f)

-- Between two edges time passes as the cells between them take, but for their displacements.
pub record AreApart (bounds : Bounds) (places cells runs : List ℕ) (i j : ℕ) : Type 0 where
  pub steps : ℕ
  pub between : 65536 * sum_to runs j + get_or places i 0 ≡ 65536 * sum_to runs i + steps + get_or places j 0
  pub longest : steps + bounds.high * sum_to cells i ≤ bounds.high * sum_to cells j
  pub shortest : bounds.low * sum_to cells j ≤ steps + bounds.low * sum_to cells i

none-apart : (bounds : Bounds) (places cells runs : List ℕ) (i : ℕ) → AreApart bounds places cells runs i i
none-apart bounds places cells runs i = record {
  steps = 0;
  between = omega arith;
  longest = omega arith;
  shortest = omega arith;
}

one-product : (low a b n : ℕ) → b ≡ a + n → low * b ≡ low * a + n * low
one-product low a b n e = grind (arith, e)

pub apart : (bounds : Bounds) (spread late later : ℕ) (places cells runs : List ℕ) (i k : ℕ)
    → AreDisplaced bounds spread late later places cells runs → i + k ≤ length runs
    → AreApart bounds places cells runs i (i + k)
apart bounds spread late later places cells runs i zero line h =
    let e : i + 0 ≡ i = omega arith in rw e (none-apart bounds places cells runs i)
apart bounds spread late later places cells runs i (suc k) line h =
    let before = apart bounds spread late later places cells runs i k line (omega (arith, h)) in
    let e : i + suc k ≡ i + k + 1 = omega arith in
    let placed = line.placed (i + k) (omega (arith, h)) in
    let count = line.cells_count in
    let time = sum-next runs (i + k) (omega (arith, h)) in
    let cell = sum-next cells (i + k) (omega (arith, h, count)) in
    let high = one-product bounds.high (sum_to cells (i + k)) (sum_to cells (i + k + 1)) (get_or cells (i + k) 0) cell in
    let low = one-product bounds.low (sum_to cells (i + k)) (sum_to cells (i + k + 1)) (get_or cells (i + k) 0) cell in
    rw e record {
      steps = before.steps + placed.step;
      between = omega (arith, before, placed, time);
      longest = omega (arith, before, placed, high);
      shortest = omega (arith, before, placed, low);
    }
