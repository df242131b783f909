-- The values of options.
use Rattle.std.specs.Prelude.{ℕ, List, Option, Some, None, ◌==◌, ◌+◌, ◌*◌, ◌-◌, ◌/◌, ◌^◌, ◌||◌, codes}
use Rattle.std.specs.Prelude.{get_or, length, nat_lt, option_and_then, if◌then◌else◌}
use Rattle.std.specs.List.{before_first, after_first, position_or_len}
use Rattle.std.specs.Str.{bytes_eq}
use Rattle.aes3_cli.specs.Numbers.{number_in}

-- how many octets a sample has
abbrev pub octets_in : List ℕ → Option ℕ
octets_in text = if bytes_eq text (codes "1") then Some 1 else if bytes_eq text (codes "2") then Some 2 else None

-- the last bit of samples of so many octets, and the bit of these that the text names
abbrev pub last_bit : ℕ → ℕ
last_bit octets = if octets == 1 then 7 else 15

abbrev pub bit_in : ℕ → List ℕ → Option ℕ
bit_in octets text = number_in 0 (last_bit octets) text

-- what stands before the first of these bytes and behind it
abbrev pub parts_in : ℕ → List ℕ → Option (List ℕ × List ℕ)
parts_in mark text =
    if nat_lt (position_or_len (λ byte. byte == mark) text) (length text)
    then Some (before_first (λ byte. byte == mark) text, after_first (λ byte. byte == mark) text) else None

-- what stands before this letter, which ends the text
abbrev pub before_in : ℕ → List ℕ → Option (List ℕ)
before_in letter text =
    option_and_then (λ parts. if length parts.1 == 0 then Some parts.0 else None) (parts_in letter text)

-- the first of these, with so many digits
abbrev pub scaled_or : Option (List ℕ) → ℕ → List ℕ × ℕ → List ℕ × ℕ
scaled_or None digits other = other
scaled_or (Some number) digits other = (number, digits)

-- a number, and by how many digits its unit moves the point: `M` and `m` by six, `k` and `K` by three
abbrev pub scaled_in : List ℕ → List ℕ × ℕ
scaled_in text =
    scaled_or (before_in 77 text) 6
    (scaled_or (before_in 109 text) 6 (scaled_or (before_in 107 text) 3 (scaled_or (before_in 75 text) 3 (text, 0))))

-- the number of 64 bits that digits write, with no sign
abbrev pub whole_in : List ℕ → Option ℕ
whole_in text = if get_or text 0 0 == 43 then None else number_in 0 18446744073709551615 text

-- a number from 1 to 2^64 - 1, or none
abbrev pub some_within : ℕ → Option ℕ
some_within n = if n == 0 then None else if nat_lt n (2 ^ 64) then Some n else None

-- so many units of this size, and so many of that
abbrev pub hertz : ℕ → ℕ → ℕ → ℕ → Option ℕ
hertz whole unit part small = some_within (whole * unit + part * small)

-- the frequency of a number with no point, and of one with a point and no more digits behind it than the unit moves it by
abbrev pub hertz_in_parts : ℕ → List ℕ × List ℕ → Option ℕ
hertz_in_parts digits parts =
    if nat_lt digits (length parts.1) then None
    else option_and_then (λ whole. option_and_then
    (λ part. hertz whole (10 ^ digits) part (10 ^ (digits - length parts.1))) (whole_in parts.1)) (whole_in parts.0)

abbrev pub hertz_or : Option (List ℕ × List ℕ) → ℕ → List ℕ → Option ℕ
hertz_or None digits number = option_and_then (λ whole. hertz whole (10 ^ digits) 0 1) (whole_in number)
hertz_or (Some parts) digits number = hertz_in_parts digits parts

abbrev pub hertz_in : ℕ → List ℕ → Option ℕ
hertz_in digits number = hertz_or (parts_in 46 number) digits number

-- the frequency in Hz that the text writes
abbrev pub frequency_in : List ℕ → Option ℕ
frequency_in text = let scaled = scaled_in text in hertz_in scaled.1 scaled.0

-- how long a cell is, in 65,536ths of a sample, to the nearest: at this rate of samples and this sampling frequency, of
-- which each period has 128 cells. It is one of 2.015625 to 8000 samples, or none.
abbrev pub nearest : ℕ → ℕ → ℕ
nearest rate at = (rate * 512 + at / 2) / at

abbrev pub period_in : ℕ → ℕ → Option ℕ
period_in rate at =
    if at == 0 then None
    else if nat_lt (nearest rate at) 132096 || nat_lt 524288000 (nearest rate at) then None
    else Some (nearest rate at)
