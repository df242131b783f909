-- Octets put into memory.
use Rattle.std.specs.Prelude.{ℕ, List, ◌++◌, ◌≡◌, ◌<◌, ◌≤◌, Bool, IsTrue, drop, false, length, min, take}

-- what stands in memory when octets were put into it from its front on, as many as there is room for: behind them is
-- what stood there
abbrev pub put_into : List ℕ → List ℕ → List ℕ
put_into memory octets = take (length memory) octets ++ drop (length octets) memory

-- Memory with `was` in it was given these octets, and has `now`: so many were put, and whether these are all is known.
abbrev pub IsPut : (was octets now : List ℕ) (count : ℕ) (fits : Bool) → Type 0
IsPut was octets now count fits =
    (now ≡ put_into was octets) × (count ≡ min (length octets) (length was))
    × (IsTrue fits → length octets ≤ length was) × (fits ≡ false → length was < length octets)
