-- Levels in tenths of a decibel below full scale.
use Rattle.std.specs.Prelude.{ℕ, zero, suc, ◌+◌, ◌-◌, ◌*◌, ◌/◌, ◌^◌, min, nat_lt, if◌then◌else◌}

-- products stay at the greatest number of 128 bits
unfoldable pub times : ℕ → ℕ → ℕ
times n k = min (n * k) (2 ^ 128 - 1)

-- what stands for 1 in the two powers below, 2^31; half a tenth of a decibel less than full scale, a power of
-- 10^(-1/200); and a tenth less, one of 10^(-1/100)
abbrev pub unit : ℕ
unit = 2147483648

abbrev pub half_step : ℕ
half_step = 2122901606

abbrev pub step : ℕ
step = 2098600952

-- how many steps a decade has, and how many decades are looked at
unfoldable pub decade : ℕ
decade = 100

unfoldable pub decades : ℕ
decades = 30

-- how many of n limits, of which the first is `limit` and each other a step less, lie above a power, up to the first
-- that does not
abbrev pub steps_below : ℕ → ℕ → ℕ → ℕ → ℕ
steps_below zero limit power full = 0
steps_below (suc n) limit power full =
    if nat_lt (times power unit) (times full limit) then suc (steps_below n (limit * step / unit) power full) else 0

-- how many tenths of a decibel a power is less than a full one: a power that ten times are still less is a decade less
abbrev pub tenths_below : ℕ → ℕ → ℕ → ℕ
tenths_below zero power full = steps_below decade half_step power full
tenths_below (suc n) power full =
    if nat_lt (times (times 10 power) unit) (times full half_step)
    then decade + tenths_below n (times 10 power) full
    else steps_below decade half_step power full

unfoldable pub level_of : ℕ → ℕ → ℕ
level_of power full = tenths_below decades power full
