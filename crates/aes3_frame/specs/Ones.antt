-- Bits that are 1.
use Rattle.std.specs.Prelude.{ℕ, List, count_ones}
use Rattle.std.specs.List.{sum_by}

-- how many bits of bytes are 1
unfoldable pub ones_in : List ℕ → ℕ
ones_in bytes = sum_by count_ones bytes
