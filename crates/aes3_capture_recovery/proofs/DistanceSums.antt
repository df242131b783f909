-- Sums of distances, one more at a time.
use Rattle.std.proofs.Common.{ℕ, zero, suc, List, [], ◌∷◌, ◌++◌, ◌≡◌, ◌<◌, ◌≤◌, ◌+◌, ◌-◌, ◌*◌, ◌/◌, ◌^◌, max, min, map, take, get_or, set}
use Rattle.std.proofs.Common.{length, refl, sym, ap, ◌∙◌, arith}
use Rattle.std.proofs.lemmas.List.{take_more, take_more_set, map-append}
use Rattle.std.proofs.Math.Nat.{mul-le-mul_left}
use Rattle.aes3_capture_recovery.specs.Distances.{distance_at, greatest, spread_after, squares, total}

greatest-more : (numbers : List ℕ) (n : ℕ) → greatest (numbers ++ n ∷ []) ≡ max (greatest numbers) n
greatest-more [] n = omega arith
greatest-more (m ∷ numbers) n = let e = greatest-more numbers n in omega (arith, e)

total-more : (numbers : List ℕ) (n : ℕ) → total (numbers ++ n ∷ []) ≡ total numbers + n
total-more [] n = omega arith
total-more (m ∷ numbers) n = let e = total-more numbers n in omega (arith, e)

squares-more : (numbers : List ℕ) (n : ℕ) → squares (numbers ++ n ∷ []) ≡ squares numbers + n * n
squares-more [] n = omega arith
squares-more (m ∷ numbers) n = let e = squares-more numbers n in omega (arith, e)

-- the distances of one place more
pub distances-more : (middle : ℕ) (places : List ℕ) (i n : ℕ) → i < length places
    → n ≡ distance_at middle (get_or places i 0)
    → map (distance_at middle) (take (i + 1) places) ≡ map (distance_at middle) (take i places) ++ n ∷ []
distances-more middle places i n within is =
    ap (map (distance_at middle)) (take_more places i 0 within)
    ∙ map-append (distance_at middle) (take i places) (get_or places i 0 ∷ [])
    ∙ ap (λ x. map (distance_at middle) (take i places) ++ x ∷ []) (sym is)

pub each-more : (middle : ℕ) (places each : List ℕ) (i n : ℕ) → i < length places → i < length each
    → n ≡ distance_at middle (get_or places i 0) → take i each ≡ map (distance_at middle) (take i places)
    → take (i + 1) (set each i n) ≡ map (distance_at middle) (take (i + 1) places)
each-more middle places each i n within room is before =
    take_more_set each i n room ∙ ap (λ x. x ++ n ∷ []) before ∙ sym (distances-more middle places i n within is)

pub all-more : (middle : ℕ) (places : List ℕ) (i n : ℕ) → i < length places
    → n ≡ distance_at middle (get_or places i 0)
    → (greatest (map (distance_at middle) (take (i + 1) places)) ≡ max (greatest (map (distance_at middle) (take i places))) n)
    × (total (map (distance_at middle) (take (i + 1) places)) ≡ total (map (distance_at middle) (take i places)) + n)
    × (squares (map (distance_at middle) (take (i + 1) places)) ≡ squares (map (distance_at middle) (take i places)) + n * n)
all-more middle places i n within is =
    let more = distances-more middle places i n within is in
    let numbers = map (distance_at middle) (take i places) in (
      ap greatest more ∙ greatest-more numbers n,
      ap total more ∙ total-more numbers n,
      ap squares more ∙ squares-more numbers n,
    )

-- the square of a distance is small
pub square-small : (n : ℕ) → n ≤ 2 ^ 25 → n * n ≤ 2 ^ 50
square-small n few = let a : n * n ≤ n * 2 ^ 25 = mul-le-mul_left n few in omega (arith, a, few)

total-none : (i : ℕ) → total (take i []) ≡ 0
total-none zero = refl
total-none (suc i) = refl

-- a part of them has no greater sum
pub total-part : (numbers : List ℕ) (i j : ℕ) → i ≤ j → total (take i numbers) ≤ total (take j numbers)
total-part [] i j least = let a = total-none i in let b = total-none j in omega (arith, a, b)
total-part (n ∷ numbers) zero j least = omega arith
total-part (n ∷ numbers) (suc i) zero least = absurd (omega (arith, least))
total-part (n ∷ numbers) (suc i) (suc j) least =
    let e = total-part numbers i j (omega (arith, least)) in omega (arith, e)

-- the mean behind one distance more
spread-more : (spread : ℕ) (numbers : List ℕ) (n : ℕ) → spread_after spread (numbers ++ n ∷ [])
    ≡ min (spread_after spread numbers - spread_after spread numbers / 256 + n) (2 ^ 32)
spread-more spread [] n = refl
spread-more spread (m ∷ numbers) n = spread-more (min (spread - spread / 256 + m) (2 ^ 32)) numbers n

-- the mean is no greater than all of them together
pub spread-most : (spread : ℕ) (numbers : List ℕ) → spread_after spread numbers ≤ spread + total numbers
spread-most spread [] = omega arith
spread-most spread (m ∷ numbers) =
    let e = spread-most (min (spread - spread / 256 + m) (2 ^ 32)) numbers in omega (arith, e)

-- the mean behind one of these more, where all together are few
pub spread-next : (spread : ℕ) (each : List ℕ) (i count n : ℕ) → i < count → i < length each
    → spread + total (take count each) ≤ 2 ^ 32 → n ≡ get_or each i 0
    → spread_after spread (take (i + 1) each)
    ≡ spread_after spread (take i each) - spread_after spread (take i each) / 256 + n
spread-next spread each i count n below within near is =
    let next : take (i + 1) each ≡ take i each ++ n ∷ []
    = take_more each i 0 within ∙ ap (λ x. take i each ++ x ∷ []) (sym is) in
    let mean = spread_after spread (take i each) in
    let behind : spread_after spread (take (i + 1) each) ≡ min (mean - mean / 256 + n) (2 ^ 32)
    = ap (spread_after spread) next ∙ spread-more spread (take i each) n in
    let most = spread-most spread (take i each) in
    let sum : total (take (i + 1) each) ≡ total (take i each) + n = ap total next ∙ total-more (take i each) n in
    let part = total-part each (i + 1) count (omega (arith, below)) in
    omega (arith, behind, most, sum, part, near)
