-- Steps below full scale, one more.
use Rattle.std.proofs.Common.{◌≡◌, ℕ, suc, ◌+◌, ◌-◌, ◌*◌, ◌/◌, ◌<◌, ◌≤◌, cond, refl, ap}
use Rattle.std.proofs.Common.{arith}
use Rattle.std.proofs.lemmas.Bool.{lt-ltb, le-ltb}
use Rattle.std.proofs.Math.Nat.{mul_comm}
use Rattle.aes3_info.specs.Levels.{decade, decades, half_step, level_of, step, steps_below, tenths_below, times, unit}

pub decade-is : decade ≡ 100
unfolding decade
decade-is = refl

pub decades-is : decades ≡ 30
unfolding decades
decades-is = refl

pub product : (n k : ℕ) → times n k ≡ times k n
unfolding times
product n k = omega (arith, mul_comm n k)

-- of n + 1 limits, the first lies above the power, or not
first-above : (n limit power full : ℕ) → times power unit < times full limit
    → steps_below (suc n) limit power full ≡ suc (steps_below n (limit * step / unit) power full)
first-above n limit power full h =
    ap (λ b. cond b (suc (steps_below n (limit * step / unit) power full)) 0)
    (lt-ltb (times power unit) (times full limit) h)

first-below : (n limit power full : ℕ) → times full limit ≤ times power unit → steps_below (suc n) limit power full ≡ 0
first-below n limit power full h =
    ap (λ b. cond b (suc (steps_below n (limit * step / unit) power full)) 0)
    (le-ltb (times power unit) (times full limit) h)

pub steps-begin : (m power full : ℕ) → steps_below m half_step power full ≡ 0 + steps_below (m - 0) half_step power full
steps-begin m power full =
    let e : m ≡ m - 0 = omega arith in
    let a = ap (λ n. steps_below n half_step power full) e in
    omega arith

pub steps-next : (m k limit limit' power full s : ℕ) → s ≡ k + steps_below (m - k) limit power full → k < m
    → times power unit < times full limit → limit' ≡ limit * step / unit
    → s ≡ k + 1 + steps_below (m - (k + 1)) limit' power full
steps-next m k limit limit' power full s e h l f =
    let n : m - k ≡ suc (m - (k + 1)) = omega arith in
    let a = ap (λ n. steps_below n limit power full) n in
    let b = first-above (m - (k + 1)) limit power full l in
    let d = ap (λ z. steps_below (m - (k + 1)) z power full) f in
    omega arith

pub steps-stop : (m k limit power full s : ℕ) → s ≡ k + steps_below (m - k) limit power full → k < m
    → times full limit ≤ times power unit → s ≡ k
steps-stop m k limit power full s e h l =
    let n : m - k ≡ suc (m - (k + 1)) = omega arith in
    let a = ap (λ n. steps_below n limit power full) n in
    let b = first-below (m - (k + 1)) limit power full l in
    omega arith

pub steps-all : (m k limit power full s : ℕ) → s ≡ k + steps_below (m - k) limit power full → m ≤ k → k ≤ m → s ≡ m
steps-all m k limit power full s e h g =
    let n : m - k ≡ 0 = omega arith in
    let a = ap (λ n. steps_below n limit power full) n in
    omega arith

-- a power that ten times are still less, or not
more-decade : (n power full : ℕ) → times (times 10 power) unit < times full half_step
    → tenths_below (suc n) power full ≡ decade + tenths_below n (times 10 power) full
more-decade n power full h =
    ap (λ b. cond b (decade + tenths_below n (times 10 power) full) (steps_below decade half_step power full))
    (lt-ltb (times (times 10 power) unit) (times full half_step) h)

last-decade : (n power full : ℕ) → times full half_step ≤ times (times 10 power) unit
    → tenths_below (suc n) power full ≡ steps_below decade half_step power full
last-decade n power full h =
    ap (λ b. cond b (decade + tenths_below n (times 10 power) full) (steps_below decade half_step power full))
    (le-ltb (times (times 10 power) unit) (times full half_step) h)

pub tenths-begin : (power full : ℕ) → level_of power full ≡ 100 * 0 + tenths_below (decades - 0) power full
unfolding level_of
tenths-begin power full =
    let e : decades ≡ decades - 0 = omega arith in
    let a = ap (λ n. tenths_below n power full) e in
    omega arith

pub tenths-next : (m k power more full s : ℕ) → s ≡ 100 * k + tenths_below (m - k) power full → k < m
    → more ≡ times 10 power → times more unit < times full half_step
    → s ≡ 100 * (k + 1) + tenths_below (m - (k + 1)) more full
tenths-next m k power more full s e h f l =
    let n : m - k ≡ suc (m - (k + 1)) = omega arith in
    let a = ap (λ n. tenths_below n power full) n in
    let b = more-decade (m - (k + 1)) power full (rw f at l) in
    let d = ap (λ z. tenths_below (m - (k + 1)) z full) f in
    let i = decade-is in
    omega arith

pub tenths-stop : (m k power more full s t : ℕ) → s ≡ 100 * k + tenths_below (m - k) power full → k < m
    → more ≡ times 10 power → times full half_step ≤ times more unit
    → t ≡ steps_below decade half_step power full → 100 * k + t ≡ s
tenths-stop m k power more full s t e h f l g =
    let n : m - k ≡ suc (m - (k + 1)) = omega arith in
    let a = ap (λ n. tenths_below n power full) n in
    let b = last-decade (m - (k + 1)) power full (rw f at l) in
    omega arith

pub tenths-all : (m k power full s t : ℕ) → s ≡ 100 * k + tenths_below (m - k) power full → m ≤ k → k ≤ m
    → t ≡ steps_below decade half_step power full → 100 * m + t ≡ s
tenths-all m k power full s t e h g f =
    let n : m - k ≡ 0 = omega arith in
    let a = ap (λ n. tenths_below n power full) n in
    omega arith
