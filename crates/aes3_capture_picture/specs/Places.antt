-- Where an edge is in its cell.
use Rattle.std.specs.Prelude.{ℕ, ◌+◌, ◌*◌, ◌/◌, ◌%◌, ◌^◌, min}

-- the time of an edge, in 2^-32 of a sample, where the edge before it was so far in its cell
abbrev pub end_of : ℕ → ℕ → ℕ
end_of ahead run = ahead + 2 ^ 32 * min run (2 ^ 20)

-- how many cells pass up to it, and where it is in its cell, in 65,536ths
abbrev pub cells_of : ℕ → ℕ → ℕ → ℕ
cells_of period ahead run = end_of ahead run / period

abbrev pub at_of : ℕ → ℕ → ℕ → ℕ
at_of period ahead run = end_of ahead run % period * 65536 / period

-- the bar of such a place: each is a 64th of a cell wide, and the 32nd has the middle of the cell in its middle
abbrev pub bin_of : ℕ → ℕ
bin_of at = (at + 512) / 1024
