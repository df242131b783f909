-- How many samples lie between edges of a capture.
use Rattle.std.proofs.Common.{ℕ, List, ◌≡◌, ◌<◌, ◌≤◌, ◌+◌, ◌-◌, ◌*◌, ◌/◌, ◌%◌, ◌^◌, ◌⊎◌, inl, inr, length, get_or, refl, ap, arith}
use Rattle.std.specs.Prelude.{if◌then◌else◌, min, nat_eq}
use Rattle.std.proofs.lemmas.Bool.{cases_lt}
use Rattle.aes3_capture.specs.declared.follower.Bounds.{Bounds}
use Rattle.aes3_capture.specs.Captures.{AreDisplaced, lateness, sum_to}
use Rattle.aes3_capture.proofs.Telescope.{apart, sum-next}
use Rattle.aes3_capture_recovery.specs.Finding.{AreCapturedRuns, IsFindable, IsSix, pair_at}

pub same-lateness : (late later i j : ℕ) → i % 2 ≡ j % 2 → lateness late later i ≡ lateness late later j
same-lateness late later i j e = ap (λ r. if nat_eq r 0 then late else later) e

-- so many samples are so many cells, between edges of one direction
pub record IsLong (bounds : Bounds) (spread cells samples : ℕ) : Type 0 where
  pub least : bounds.low * cells ≤ 65536 * samples + spread
  pub most : 65536 * samples ≤ bounds.high * cells + spread

product : (low a b n : ℕ) → b ≡ a + n → low * b ≡ low * a + low * n
product low a b n e = grind (arith, e)

pub between-edges : (bounds : Bounds) (spread late later : ℕ) (places cells runs : List ℕ) (i k n samples : ℕ)
    → AreDisplaced bounds spread late later places cells runs → i + k ≤ length runs → i % 2 ≡ (i + k) % 2
    → sum_to cells (i + k) ≡ sum_to cells i + n → sum_to runs (i + k) ≡ sum_to runs i + samples → IsLong bounds spread n samples
between-edges bounds spread late later places cells runs i k n samples line within same count time =
    let a = apart bounds spread late later places cells runs i k line within in
    let high = product bounds.high (sum_to cells i) (sum_to cells (i + k)) n count in
    let low = product bounds.low (sum_to cells i) (sum_to cells (i + k)) n count in
    let e = same-lateness late later i (i + k) same in
    let first = line.side i (omega (arith, within)) in
    let last = line.side (i + k) within in
    record {
      least = omega (arith, a, low, e, first, last, time);
      most = omega (arith, a, high, e, first, last, time);
    }

-- two runs in a row
pub sum-two : (xs : List ℕ) (i : ℕ) → i + 1 < length xs → sum_to xs (i + 2) ≡ sum_to xs i + (get_or xs i 0 + get_or xs (i + 1) 0)
sum-two xs i h =
    let one = sum-next xs i (omega (arith, h)) in
    let two = sum-next xs (i + 1) h in
    let e : i + 1 + 1 ≡ i + 2 = omega arith in
    let f : sum_to xs (i + 2) ≡ sum_to xs (i + 1) + get_or xs (i + 1) 0 = rw e at two in
    omega (arith, one, f)

pub pair-long : (bounds : Bounds) (spread late later : ℕ) (places cells runs : List ℕ) (i n : ℕ)
    → AreDisplaced bounds spread late later places cells runs → i + 1 < length runs
    → get_or cells i 0 + get_or cells (i + 1) 0 ≡ n → IsLong bounds spread n (get_or runs i 0 + get_or runs (i + 1) 0)
pair-long bounds spread late later places cells runs i n line within count =
    let cells_count = line.cells_count in
    let c = sum-two cells i (omega (arith, within, cells_count)) in
    let r = sum-two runs i within in
    between-edges bounds spread late later places cells runs i 2 n _ line (omega (arith, within)) (omega arith)
    (omega (arith, c, count)) r

-- four runs in a row
pub four-long : (bounds : Bounds) (spread late later : ℕ) (places cells runs : List ℕ) (i n samples : ℕ)
    → AreDisplaced bounds spread late later places cells runs → i + 3 < length runs
    → get_or cells i 0 + get_or cells (i + 1) 0 + get_or cells (i + 2) 0 + get_or cells (i + 3) 0 ≡ n
    → samples ≡ get_or runs i 0 + get_or runs (i + 1) 0 + get_or runs (i + 2) 0 + get_or runs (i + 3) 0
    → IsLong bounds spread n samples
four-long bounds spread late later places cells runs i n samples line within count is =
    let cells_count = line.cells_count in
    let c = sum-four cells (omega (arith, within, cells_count)) in
    let r = sum-four runs within in
    between-edges bounds spread late later places cells runs i 4 n samples line (omega (arith, within)) (omega arith)
    (omega (arith, c, count)) (omega (arith, r, is))
  where
    sum-four : (xs : List ℕ) → i + 3 < length xs → sum_to xs (i + 4)
        ≡ sum_to xs i + (get_or xs i 0 + get_or xs (i + 1) 0 + get_or xs (i + 2) 0 + get_or xs (i + 3) 0)
    sum-four xs h =
        let one = sum-two xs i (omega (arith, h)) in
        let two = sum-two xs (i + 2) (omega (arith, h)) in
        let e : i + 2 + 2 ≡ i + 4 = omega arith in
        let f : i + 2 + 1 ≡ i + 3 = omega arith in
        let g : sum_to xs (i + 4) ≡ sum_to xs (i + 2) + (get_or xs (i + 2) 0 + get_or xs (i + 3) 0) = rw (e, f) at two in
        omega (arith, one, g)

-- one run, from an edge of one direction to one of the other
pub record IsRunLong (bounds : Bounds) (spread before behind cells samples : ℕ) : Type 0 where
  pub least : bounds.low * cells + behind ≤ 65536 * samples + before + spread
  pub most : 65536 * samples + before ≤ bounds.high * cells + behind + spread

turn-about : (a b : ℕ) → a * b ≡ b * a
turn-about a b = grind arith

pub run-long : (bounds : Bounds) (spread late later : ℕ) (places cells runs : List ℕ) (i n : ℕ)
    → AreDisplaced bounds spread late later places cells runs → i < length runs → get_or cells i 0 ≡ n
    → IsRunLong bounds spread (lateness late later i) (lateness late later (i + 1)) n (get_or runs i 0)
run-long bounds spread late later places cells runs i n line within count =
    let p = line.placed i within in
    let first = line.side i (omega (arith, within)) in
    let last = line.side (i + 1) (omega (arith, within)) in
    let b = p.between in
    let l : p.step ≤ n * bounds.high = rw count at p.longest in
    let s : n * bounds.low ≤ p.step = rw count at p.shortest in
    let low = turn-about n bounds.low in
    let high = turn-about n bounds.high in
    record {
      least = omega (arith, b, s, low, first, last);
      most = omega (arith, b, l, high, first, last);
    }

-- the sides of three edges in a row
pub lateness-between : (late later i : ℕ) → ◌⊎◌ ((lateness late later i ≡ late) × (lateness late later (i + 1) ≡ later))
    ((lateness late later i ≡ later) × (lateness late later (i + 1) ≡ late))
lateness-between late later i = grind arith

-- fewer cells take less time
pub fewer : (high n m : ℕ) → n ≤ m → high * n ≤ high * m
fewer high n m h = grind (arith, h)

-- Pairs of so many cells.
pub pair-is-short : (bounds : Bounds) (spread late later cells samples : ℕ) → IsFindable bounds spread late later
    → IsLong bounds spread cells samples → cells ≤ 6 → min samples (2 ^ 32 - 1) ≡ samples
pair-is-short bounds spread late later cells samples f long few =
    let most = long.most in
    let all = fewer bounds.high cells 6 few in
    omega (arith, most, all, f)

pub pair-of : (bounds : Bounds) (spread late later : ℕ) (places cells runs : List ℕ) (i n : ℕ)
    → AreDisplaced bounds spread late later places cells runs → IsFindable bounds spread late later → i + 1 < length runs
    → get_or cells i 0 + get_or cells (i + 1) 0 ≡ n → n ≤ 6 → IsLong bounds spread n (pair_at runs i)
pair-of bounds spread late later places cells runs i n line f within count few =
    let long = pair-long bounds spread late later places cells runs i n line within count in
    rw (pair-is-short bounds spread late later n _ f long few) long

pub six-of : (bounds : Bounds) (spread samples : ℕ) → IsLong bounds spread 6 samples → IsSix bounds spread samples
six-of bounds spread samples long =
    record { least = omega (arith, long); most = omega (arith, long) }

-- a pair that is no shorter than six cells has six
pub no-shorter : (bounds : Bounds) (spread late later n samples longest : ℕ) → IsFindable bounds spread late later
    → IsLong bounds spread n longest → IsLong bounds spread 6 samples → samples ≤ longest → n ≤ 6 → n ≡ 6
no-shorter bounds spread late later n samples longest f long six h few = by (cases_lt n 6)
  where
    by : (n < 6) ⊎ (6 ≤ n) → n ≡ 6
    by (inr many) = omega (arith, many, few)
    by (inl less) =
        let five = fewer bounds.high n 5 (omega (arith, less)) in
        let most = long.most in
        let least = six.least in
        absurd (omega (arith, five, most, least, h, f))

-- no pair is shorter than a quarter of six cells, and few are longer than four fifths
pub not-too-short : (bounds : Bounds) (spread late later n samples longest : ℕ) → IsFindable bounds spread late later
    → IsLong bounds spread n samples → IsSix bounds spread longest → 2 ≤ n → longest ≤ 4 * samples
not-too-short bounds spread late later n samples longest f long six many =
    let two = fewer bounds.low 2 n many in
    let least = long.least in
    let most = six.most in
    omega (arith, two, least, most, f)

pub not-too-long : (bounds : Bounds) (spread late later n samples longest : ℕ) → IsFindable bounds spread late later
    → IsLong bounds spread n samples → IsSix bounds spread longest → n ≤ 4 → samples ≤ longest - longest / 5
not-too-long bounds spread late later n samples longest f long six few =
    let four = fewer bounds.high n 4 few in
    let most = long.most in
    let least = six.least in
    omega (arith, four, most, least, f)

-- six cells have 12 samples at least, and at most 65,536
pub six-in-range : (bounds : Bounds) (spread late later longest : ℕ) → IsFindable bounds spread late later
    → IsSix bounds spread longest → (12 ≤ longest) × (longest ≤ 65536)
six-in-range bounds spread late later longest f six =
    (omega (arith, six, f), omega (arith, six, f))

-- three cells are no longer than two thirds of six, and longer than two of the same side
pub three-not-too-long : (bounds : Bounds) (spread late later i samples longest : ℕ) → IsFindable bounds spread late later
    → IsRunLong bounds spread (lateness late later i) (lateness late later (i + 1)) 3 samples → IsSix bounds spread longest
    → 3 * samples ≤ 2 * longest
three-not-too-long bounds spread late later i samples longest f run six = elim (lateness-between late later i) [
  | inl e ↦ omega (arith, e, run, six, f)
  | inr e ↦ omega (arith, e, run, six, f)
]

pub three-is-some : (bounds : Bounds) (spread late later i samples : ℕ) → IsFindable bounds spread late later
    → IsRunLong bounds spread (lateness late later i) (lateness late later (i + 1)) 3 samples → 0 < samples
three-is-some bounds spread late later i samples f run = elim (lateness-between late later i) [
  | inl e ↦ omega (arith, e, run, f)
  | inr e ↦ omega (arith, e, run, f)
]

pub longest-has-three : (bounds : Bounds) (spread late later i j n samples longest : ℕ) → IsFindable bounds spread late later
    → IsRunLong bounds spread (lateness late later i) (lateness late later (i + 1)) 3 samples
    → IsRunLong bounds spread (lateness late later j) (lateness late later (j + 1)) n longest → i % 2 ≡ j % 2
    → samples ≤ longest → n ≤ 3 → n ≡ 3
longest-has-three bounds spread late later i j n samples longest f three run same h few = by (cases_lt n 3)
  where
    by : (n < 3) ⊎ (3 ≤ n) → n ≡ 3
    by (inr many) = omega (arith, many, few)
    by (inl less) =
        let two = fewer bounds.high n 2 (omega (arith, less)) in
        let most = run.most in
        let least = three.least in
        let here = same-lateness late later i j same in
        let next = same-lateness late later (i + 1) (j + 1) (omega (arith, same)) in
        absurd (omega (arith, two, most, least, h, f, here, next))

-- What the longest pair of a capture is: six cells, of which the first three begin a preamble.
pub record IsOfSix (bounds : Bounds) (spread side samples at : ℕ) : Type 0 where
  pub six : IsSix bounds spread samples
  pub side_is : at % 2 ≡ side
  pub least : 12 ≤ samples
  pub most : samples ≤ 65536

pub longest-is-six : (bounds : Bounds) (spread late later place side : ℕ) (places line runs : List ℕ) (samples at : ℕ)
    → AreCapturedRuns bounds spread late later place side places line runs
    → ((i : ℕ) → i + 1 < length runs → pair_at runs i ≤ samples)
    → (0 < samples → (at + 1 < length runs) × (samples ≡ pair_at runs at)) → IsOfSix bounds spread side samples at
longest-is-six bounds spread late later place side places line runs samples at captured most value =
    let many = captured.many in
    let displaced = captured.displaced in
    let findable = captured.findable in
    let cells = displaced.cells_count in
    let x = many.longest in
    let within = x.within in
    let within_runs : x.run + 1 < length runs = omega (arith, within, cells) in
    let six = pair-of bounds spread late later places line runs x.run 6 displaced findable within_runs x.cells (omega arith) in
    let six_long = six.least in
    let no_longer = most x.run within_runs in
    let v = value (omega (arith, six_long, findable, no_longer)) in
    let in_runs = v.0 in
    let in_line : at + 1 < length line = omega (arith, in_runs, cells) in
    let a = many.few_cells at (omega (arith, in_line)) in
    let b = many.few_cells (at + 1) in_line in
    let n = get_or line at 0 + get_or line (at + 1) 0 in
    let few : n ≤ 6 = omega (arith, a, b) in
    let there = pair-of bounds spread late later places line runs at n displaced findable in_runs refl few in
    let long : IsLong bounds spread n samples = rw (v.1) there in
    let is_six = no-shorter bounds spread late later n (pair_at runs x.run) samples findable long six no_longer few in
    let is = six-of bounds spread samples (rw is_six at long) in
    let range = six-in-range bounds spread late later samples findable is in
    record {
      six = is;
      side_is = many.side_is at (omega (arith, in_line)) (many.sixes at in_line is_six);
      least = range.0;
      most = range.1;
    }

-- Pairs of a capture by the longest.
pub none-too-short : (bounds : Bounds) (spread late later place side : ℕ) (places line runs : List ℕ) (longest i : ℕ)
    → AreCapturedRuns bounds spread late later place side places line runs → IsSix bounds spread longest → i + 1 < length runs
    → longest ≤ 4 * pair_at runs i
none-too-short bounds spread late later place side places line runs longest i captured six within =
    let many = captured.many in
    let cells = captured.displaced.cells_count in
    let in_line : i + 1 < length line = omega (arith, within, cells) in
    let a = many.few_cells i (omega (arith, in_line)) in
    let b = many.few_cells (i + 1) in_line in
    let c = many.some_cells i (omega (arith, in_line)) in
    let d = many.some_cells (i + 1) in_line in
    let long = pair-of bounds spread late later places line runs i (get_or line i 0 + get_or line (i + 1) 0) captured.displaced
    captured.findable within refl (omega (arith, a, b)) in
    not-too-short bounds spread late later _ (pair_at runs i) longest captured.findable long six (omega (arith, c, d))

pub few-too-long : (bounds : Bounds) (spread late later place side : ℕ) (places line runs : List ℕ) (longest i : ℕ)
    → AreCapturedRuns bounds spread late later place side places line runs → IsSix bounds spread longest → i + 1 < length runs
    → get_or line i 0 + get_or line (i + 1) 0 ≤ 4 → pair_at runs i ≤ longest - longest / 5
few-too-long bounds spread late later place side places line runs longest i captured six within few =
    let long = pair-of bounds spread late later places line runs i (get_or line i 0 + get_or line (i + 1) 0) captured.displaced
    captured.findable within refl (omega (arith, few)) in
    not-too-long bounds spread late later _ (pair_at runs i) longest captured.findable long six few
