-- One run of cells: where its last edge lies on the grid, and what the grid is behind it. `wide` is how far the longest
-- cell passes the shortest, `wander` three times that.
use Rattle.std.proofs.Common.{ℕ, suc, ◌≡◌, ◌<◌, ◌≤◌, ◌+◌, ◌-◌, ◌*◌, ◌/◌, ◌⊎◌, ap, arith}
use Rattle.std.proofs.Math.Nat.{mul-le-mul_left, mul-le-mul_right, lt_of_mul-lt-mul_right}

-- at most three of the longest cells pass as many of the shortest by three times what one does
pub longest-cells : (n low wide : ℕ) → n ≤ 3 → n * (low + wide) ≤ n * low + 3 * wide
longest-cells n low wide few = let k : n * wide ≤ 3 * wide = mul-le-mul_right wide few in grind (arith, k)

-- the cells of a run at one period and at their own lengths
pub steps-near : (n low high period step : ℕ) → n ≤ 3 → low ≤ period → period ≤ high → step ≤ n * high → n * low ≤ step
    → (step ≤ n * period + 3 * (high - low)) × (n * period ≤ step + 3 * (high - low))
steps-near n low high period step few shortest longest most least =
    let wide : ℕ = high - low in
    let h : high ≡ low + wide = omega arith in
    let top : n * (low + wide) ≤ n * low + 3 * wide = longest-cells n low wide few in
    let up : n * period ≤ n * high = mul-le-mul_left n longest in
    let down : n * low ≤ n * period = mul-le-mul_left n shortest in
    let product : n * high ≡ n * (low + wide) = ap (λ x. n * x) h in
    let all : n * high ≤ n * low + 3 * wide = omega (arith, product, top) in
    (omega (arith, all, down, most), omega (arith, all, up, least))

-- a run passes less than a cell more or less than its cells
pub run-near : (low wander step cells run before displaced : ℕ) → step ≤ cells + wander → cells ≤ step + wander
    → run + before ≡ step + displaced → displaced < before + (low - wander) → before < displaced + (low - wander)
    → (run < cells + low) × (cells < run + low)
run-near low wander step cells run before displaced above below placed ahead behind = (omega arith, omega arith)

-- so many cells are told of it before its edge: all, or all but one
pub told-near : (given n period elapsed run : ℕ) → given * period + elapsed ≡ run → elapsed < period
    → run < n * period + period → n * period < run + period → (given ≡ n) ⊎ (given + 1 ≡ n)
told-near given n period elapsed run passed told above below =
    let few : given * period < suc n * period = grind arith in
    let many : n * period < (given + 2) * period = grind arith in
    let a : given < suc n = lt_of_mul-lt-mul_right period few in
    let b : n < given + 2 = lt_of_mul-lt-mul_right period many in
    grind (arith, a, b)

-- one more cell than these
pub one-more : (given n period : ℕ) → given + 1 ≡ n → n * period ≡ given * period + period
one-more given n period e = rw (← e) (grind arith)

-- its edge lies more than half a cell behind the place of the cell before and less than half a cell behind its own
pub place-near : (low wander step cells run before displaced mean other : ℕ) → step ≤ cells + wander
    → cells ≤ step + wander
    → run + before ≡ step + displaced
    → other + mean ≤ low + low / 2 + before + (31 * wander + 32)
    → low + low / 2 + before ≤ other + mean + (31 * wander + 32)
    → displaced < mean + (low / 2 - (32 * wander + 32)) → mean < displaced + (low / 2 - (32 * wander + 32))
    → (cells + low < run + other) × (run + other < cells + 2 * low)
place-near low wander step cells run before displaced mean other above below placed most least ahead behind
    = (omega arith, omega arith)

-- a place on a grid against the next displacement
pub place-moves : (wander step cells run before displaced mean place after middle slack : ℕ) → step ≤ cells + wander
    → cells ≤ step + wander
    → run + before ≡ step + displaced → after + cells ≡ run + place
    → place + mean ≤ middle + before + slack → middle + before ≤ place + mean + slack
    → (after + mean ≤ middle + displaced + (slack + wander)) × (middle + displaced ≤ after + mean + (slack + wander))
place-moves wander step cells run before displaced mean place after middle slack above below placed is most least
    = (omega arith, omega arith)

-- a grid that goes a sixteenth of the way to an edge, and the mean that goes with it
pub place-corrected : (wander displaced mean place middle : ℕ)
    → place + mean ≤ middle + displaced + (32 * wander + 32) → middle + displaced ≤ place + mean + (32 * wander + 32)
    → (place - place / 16 + middle / 16 + (mean - mean / 16 + displaced / 16) ≤ middle + displaced + (30 * wander + 32))
    × (middle + displaced ≤ place - place / 16 + middle / 16 + (mean - mean / 16 + displaced / 16) + (30 * wander + 32))
place-corrected wander displaced mean place middle most least = (omega arith, omega arith)

-- the edge before lies between one grid's bounds, as the next will
pub other-near : (low wander step cells run before displaced mean place : ℕ) → step ≤ cells + wander
    → cells ≤ step + wander
    → run + before ≡ step + displaced → displaced < before + (low - wander) → before < displaced + (low - wander)
    → place + mean ≤ low + low / 2 + before + (30 * wander + 32)
    → low + low / 2 + before ≤ place + mean + (30 * wander + 32)
    → before ≤ mean + (low / 2 - (32 * wander + 32)) → mean ≤ before + (low / 2 - (32 * wander + 32))
    → 32 * wander + 32 < low / 2
    → (cells ≤ run + place) × (run + place ≤ cells + 3 * low)
other-near low wander step cells run before displaced mean place above below placed ahead behind most least near_above
    near_below narrow = (omega arith, omega arith)

-- a displacement is no further from the mean with it than from the one without
pub mean-near : (mean displaced reach : ℕ) → displaced < mean + reach → mean < displaced + reach
    → (displaced ≤ mean - mean / 16 + displaced / 16 + reach) × (mean - mean / 16 + displaced / 16 ≤ displaced + reach)
mean-near mean displaced reach ahead behind = (omega arith, omega arith)
