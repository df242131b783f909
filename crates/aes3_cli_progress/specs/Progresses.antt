-- How far a file has been read.
use Rattle.std.specs.Prelude.{ℕ, ◌*◌, ◌/◌, min, max}

-- how many hundredths of a file of `len` bytes are read with the first `bytes` of them
abbrev pub percent : ℕ → ℕ → ℕ
percent bytes len = min (bytes * 100 / max len 1) 100

-- how many millions of bytes a second are `bytes` of them in so many microseconds
abbrev pub rate : ℕ → ℕ → ℕ
rate bytes micros = bytes / max micros 1
