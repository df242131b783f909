-- The lines that are told of a capture.
use Rattle.std.specs.Prelude.{ℕ, List, [], ◌++◌, ◌≡◌, ◌≤◌, ◌<◌, ◌+◌, ◌*◌, ◌-◌, ◌/◌, ◌%◌, ◌^◌, ◌==◌}
use Rattle.std.specs.Prelude.{◌≢◌, ◌⊎◌, ◌&&◌, Bool, Option, Some, None, zero, suc, codes, decimal, if◌then◌else◌}
use Rattle.std.specs.Prelude.{max, min, nat_le, nat_lt}
use Rattle.aes3_capture_recovery.specs.declared.figures.Figures.{Figures}

-- a number of so many thousandths
abbrev pub thousandths : ℕ → List ℕ
thousandths n = decimal (n / 1000) ++ codes "." ++ decimal (n / 100 % 10) ++ decimal (n / 10 % 10) ++ decimal (n % 10)

-- a product of numbers of 64 bits, or the greatest of these
abbrev pub product : ℕ → ℕ → ℕ
product a b = min (a * b) (2 ^ 64 - 1)

-- the line's sampling frequency, where the samples' rate is known: each of its periods has 128 cells of so many 65,536ths
-- of a sample
abbrev pub frequency_text : Option ℕ → ℕ → List ℕ
frequency_text None period = []
frequency_text (Some rate) period = codes ", " ++ decimal (product rate 512 / max period 256) ++ codes " Hz"

-- how long a cell is, in samples
abbrev pub period_text : Option ℕ → ℕ → List ℕ
period_text rate period =
    thousandths (product (max period 256) 1000 / 65536) ++ codes " samples a cell" ++ frequency_text rate period

-- a cell, in 256ths of a sample
abbrev pub cell_of : Figures → ℕ
cell_of figures = max figures.period 256 / 256

-- how far an edge was from its place at most, in thousandths of a cell
abbrev pub distance_of : Figures → ℕ
distance_of figures = product figures.greatest 1000 / cell_of figures

-- and the root of the mean of the squares of these distances
abbrev pub mean_square : Figures → ℕ
mean_square figures =
    product (figures.squares / max figures.edges 1) 1000000 / max (product (cell_of figures) (cell_of figures)) 1

abbrev pub IsMean : Figures → ℕ → Type 0
IsMean figures mean = (mean * mean ≤ mean_square figures) × (mean_square figures < (mean + 1) * (mean + 1))

abbrev pub edges_text : Figures → ℕ → List ℕ
edges_text figures mean =
    codes ", edges " ++ thousandths mean ++ codes " of a cell rms, " ++ thousandths (distance_of figures)
    ++ codes " at most"

-- how often the line was dead, and from which sample on the last time
abbrev pub latest_of : ℕ → ℕ → List ℕ
latest_of zero at = []
latest_of (suc more) at = codes ", the latest from sample " ++ decimal at

abbrev pub latest_text : Figures → List ℕ
latest_text figures = latest_of figures.dead figures.dead_at

abbrev pub dead_text : Figures → List ℕ
dead_text figures = codes ", " ++ decimal figures.dead ++ codes " dead stretches" ++ latest_text figures

-- how many cells there are
abbrev pub cells_text : Figures → List ℕ
cells_text figures = codes "aes3-cells: " ++ decimal figures.cells ++ codes " cells"

-- the average over all samples was taken: the line was measured once, it has the cells of a block or more, and so many
-- 65,536ths of a sample fit in 64 bits
abbrev pub has_average : Figures → Bool
has_average figures =
    (figures.measured == 1) && nat_le 24576 figures.cells && nat_lt figures.samples (2 ^ 47)

-- how long a cell is in all, in 65,536ths of a sample: the average, to the nearest of these, or else the latest length
abbrev pub period_in_all : Figures → ℕ
period_in_all figures =
    if has_average figures then (figures.samples * 65536 + figures.cells / 2) / figures.cells else figures.period

-- a text, and behind it what was found of a line in which a cell is this long, with the mean of the distances
abbrev pub found_behind : List ℕ → Figures → ℕ → Option ℕ → ℕ → List ℕ
found_behind front figures period rate mean =
    front ++ cells_text figures ++ codes ", " ++ period_text rate period ++ edges_text figures mean
    ++ dead_text figures ++ codes ", measured " ++ decimal figures.measured ++ codes " times\n"

-- the line of what was found of a line in which a cell is this long
pub record IsFoundLine (figures : Figures) (period : ℕ) (rate : Option ℕ) (text : List ℕ) : Type 0 where
  pub mean : ℕ
  pub is_mean : IsMean figures mean
  pub is : text ≡ found_behind [] figures period rate mean

-- the line of what was found so far, with the latest length of a cell, which says so where no line was
abbrev pub no_line_yet_text : Figures → List ℕ
no_line_yet_text figures = cells_text figures ++ codes ", no AES3 line yet\n"

abbrev pub IsFiguresLine : Figures → Option ℕ → List ℕ → Type 0
IsFiguresLine figures rate text =
    ((figures.measured ≡ 0) × (text ≡ no_line_yet_text figures))
    ⊎ ((figures.measured ≢ 0) × IsFoundLine figures figures.period rate text)

-- the line was measured more than twice, and has fewer cells for each time than a block has
abbrev pub was_lost : Figures → Bool
was_lost figures = nat_lt 2 figures.measured && nat_lt (figures.cells / figures.measured) 24576

-- why cells are likely to be wrong: the line was lost that often, or an edge was 0.4 cells from its place or more; else
-- nothing
abbrev pub lost_text : ℕ → List ℕ
lost_text measured =
    codes "aes3-cells: the line was lost and measured again " ++ decimal measured
    ++ codes " times, so cells are likely to be wrong: check that it is an AES3 line, and take more samples a second\n"

abbrev pub distance_text : ℕ → List ℕ
distance_text distance =
    codes "aes3-cells: an edge was " ++ thousandths distance
    ++ codes " of a cell from its expected place, and at 0.5 cells are wrong: take more samples a second\n"

abbrev pub doubt_text : Figures → List ℕ
doubt_text figures =
    if was_lost figures then lost_text figures.measured
    else if nat_le 400 (distance_of figures) then distance_text (distance_of figures)
    else []

-- what is said at the end of a capture in which a line was found: the line of what was found in all, and why cells are
-- likely to be wrong
pub record IsFoundText (figures : Figures) (rate : Option ℕ) (text : List ℕ) : Type 0 where
  pub line : List ℕ
  pub found : IsFoundLine figures (period_in_all figures) rate line
  pub is : text ≡ line ++ doubt_text figures

-- the line of the bit in which a line was found
abbrev pub bit_text : ℕ → List ℕ
bit_text bit = codes "aes3-cells: the AES3 line is in bit " ++ decimal bit ++ codes "\n"

-- nothing is said of the lowest bit, and where none was found
abbrev pub bit_line : Option ℕ → List ℕ
bit_line None = []
bit_line (Some bit) = if bit == 0 then [] else bit_text bit

-- what is said of a capture in which none was found: why not, or where the samples a cell are given, why these were not
-- confirmed
abbrev pub reason_text : Figures → List ℕ
reason_text figures =
    if figures.misses == 0
    then codes "there were too few edges: 129 are needed up to the end, or 257 up to a stretch without signal"
    else codes
    "no AES3 line of this rate was found in this bit: try another --bit, --unit 2 for sixteen inputs, or another --at"

abbrev pub no_line_text : Figures → Option ℕ → List ℕ → List ℕ
no_line_text figures None why =
    codes "aes3-cells: no AES3 line was found: " ++ why
    ++ codes ". Try another --bit, --unit 2 for sixteen inputs, or --rate with --at\n"
no_line_text figures (Some period) why =
    cells_text figures ++ codes " were written by --rate and --at, and no measurement confirmed them: "
    ++ reason_text figures ++ codes "\n"
