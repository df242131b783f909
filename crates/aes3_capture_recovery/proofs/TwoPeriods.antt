-- The two periods that are measured in a capture: from its first preamble to its last, and from its first edges to its last.
use Rattle.std.proofs.Common.{ℕ, zero, suc, List, ◌≡◌, ◌<◌, ◌≤◌, ◌+◌, ◌-◌, ◌*◌, ◌/◌, ◌%◌, ◌^◌, length, refl, ap, ◌∙◌, sym, take, Option, Some, None, arith}
use Rattle.std.specs.Prelude.{max, min}
use Rattle.std.specs.Option.{unwrap_or}
use Rattle.std.proofs.lemmas.List.{take_all}
use Rattle.aes3_capture.specs.declared.follower.Bounds.{Bounds}
use Rattle.aes3_capture.specs.Captures.{AreDisplaced, IsAbout, sum_to}
use Rattle.aes3_capture.proofs.Telescope.{apart}
use Rattle.aes3_capture_recovery.specs.declared.period.Anchor.{Anchor}
use Rattle.aes3_capture_recovery.specs.Finding.{AllowsCells, AreCapturedRuns, AreEnds, AreOfALine, IsFirst, IsLikeAPreamble, IsPeriodOf, sums_to}
use Rattle.aes3_capture_recovery.proofs.Captured.{IsLong, between-edges, fewer, four-long, run-long, same-lateness}
use Rattle.aes3_capture_recovery.proofs.Firsts.{sum-grows}
use Rattle.aes3_capture_recovery.proofs.NearPeriods.{fits-253, fits-first, fits-known, near-fewer, near-of}
use Rattle.aes3_capture_recovery.proofs.Periods.{sums-next, sums-none}

-- from the first preamble to the last
pub record IsFirstPeriod (bounds : Bounds) (spread subframes period : ℕ) : Type 0 where
  pub some : 3 ≤ subframes
  pub few : subframes ≤ 9
  pub near : IsPeriodOf bounds spread (64 * subframes) period
  pub near_192 : IsPeriodOf bounds spread 192 period

pub first-period : (bounds : Bounds) (spread late later place side : ℕ) (places line runs : List ℕ) (first last : Anchor)
    (subframes samples least period : ℕ) → AreCapturedRuns bounds spread late later place side places line runs
    → AreEnds place line runs first last → subframes ≡ last.subframes - first.subframes → samples ≡ last.samples - first.samples
    → least ≡ min samples (2 ^ 40) → period ≡ least * 65536 / (64 * subframes) → IsFirstPeriod bounds spread subframes period
first-period bounds spread late later place side places line runs first last subframes samples least period captured ends count time less is =
    let many = captured.many in
    let displaced = captured.displaced in
    let findable = captured.findable in
    let f = ends.first_is in
    let l = ends.last_is in
    let i = first.run in
    let j = last.run in
    let count_is = many.count in
    let cells_count = displaced.cells_count in
    let e : i + (j - i) ≡ j = omega (arith, f, l) in
    let within : i + (j - i) ≤ length runs = omega (arith, f, l, count_is, cells_count) in
    let below : j < length line = omega (arith, l, count_is) in
    let first_below : i < length line = omega (arith, f, count_is) in
    let enough = many.many i j (omega (arith, f, l)) below f.begins l.begins in
    let some : 3 ≤ subframes = omega (arith, count, ends, enough) in
    let few : subframes ≤ 9 = omega (arith, count, ends) in
    let line_end : sum_to line (i + (j - i)) ≡ sum_to line j = ap (sum_to line) e in
    let runs_end : sum_to runs (i + (j - i)) ≡ sum_to runs j = ap (sum_to runs) e in
    let grows = sum-grows runs i (j - i) within in
    let i_side = many.side_is i first_below f.begins in
    let j_side = many.side_is j below l.begins in
    let long = between-edges bounds spread late later places line runs i (j - i) (64 * subframes) samples displaced within
    (omega (arith, e, i_side, j_side)) (omega (arith, line_end, ends, count))
    (omega (arith, runs_end, time, f, l, grows)) in
    let long_most = long.most in
    let at_most = fewer bounds.high (64 * subframes) 576 (omega (arith, few)) in
    let longest = findable.longest in
    let short : least ≡ samples = omega (arith, less, long_most, at_most, longest) in
    let near = near-of bounds spread (64 * subframes) samples period long (omega (arith, some))
    (is ∙ ap (λ x. x * 65536 / (64 * subframes)) short) in
    record {
      some = some;
      few = few;
      near = near;
      near_192 = near-fewer bounds spread (64 * subframes) 192 period (omega (arith, some)) (omega arith) near;
    }

-- a preamble's first four runs are like those of a preamble
pub like-a-preamble : (bounds : Bounds) (spread late later place side : ℕ) (places line runs : List ℕ) (from run samples period : ℕ)
    → AreCapturedRuns bounds spread late later place side places line runs → IsFirst place line runs from run samples
    → IsPeriodOf bounds spread 192 period → run + 4 ≤ length runs → IsLikeAPreamble runs run period
like-a-preamble bounds spread late later place side places line runs from run samples period captured is near within =
    let many = captured.many in
    let displaced = captured.displaced in
    let findable = captured.findable in
    let cells_count = displaced.cells_count in
    let in_line : run + 3 < length line = omega (arith, within, cells_count) in
    let three = is.three in
    let one = many.third run in_line is.begins in
    let four = many.fourth run in_line is.begins in
    let eight = four-long bounds spread late later places line runs run 8 _ displaced (omega (arith, within))
    (omega (arith, three, one, four)) refl in
    let first = run-long bounds spread late later places line runs run 3 displaced (omega (arith, within)) three in
    let third = run-long bounds spread late later places line runs (run + 2) 1 displaced (omega (arith, within)) one in
    let f0 = first.least in
    let t1 = third.most in
    let here = same-lateness late later run (run + 2) (omega arith) in
    let next = same-lateness late later (run + 1) (run + 2 + 1) (omega arith) in
    let a = findable.alike in
    record {
      few = omega (arith, eight, findable, a, near);
      many = omega (arith, eight, findable, a, near);
      longer = omega (arith, f0, t1, here, next, findable, a, near);
    }

-- Sums of cells and of samples before some early edges, and before as many late ones, each as far as one of its direction.
pub record AreSums (bounds : Bounds) (spread early_cells late_cells early late : ℕ) : Type 0 where
  pub least : bounds.low * late_cells + 65536 * early ≤ 65536 * late + bounds.low * early_cells + spread
  pub most : 65536 * late + bounds.high * early_cells ≤ bounds.high * late_cells + 65536 * early + spread

two-edges : (bounds : Bounds) (spread late later : ℕ) (places line runs : List ℕ) (i k : ℕ)
    → AreDisplaced bounds spread late later places line runs → i + k ≤ length runs → i % 2 ≡ (i + k) % 2
    → AreSums bounds spread (sum_to line i) (sum_to line (i + k)) (sum_to runs i) (sum_to runs (i + k))
two-edges bounds spread late later places line runs i k displaced within same =
    let a = apart bounds spread late later places line runs i k displaced within in
    let e = same-lateness late later i (i + k) same in
    let first = displaced.side i (omega (arith, within)) in
    let last = displaced.side (i + k) within in
    record { least = omega (arith, a, e, first, last); most = omega (arith, a, e, first, last) }

product : (low a b c n : ℕ) → n ≡ a + b + c → low * n ≡ low * a + low * b + low * c
product low a b c n e = rw e (omega arith)

add-sums : (bounds : Bounds) (s0 s1 s2 s a0 b0 c0 d0 a1 b1 c1 d1 a2 b2 c2 d2 a b c d : ℕ) → AreSums bounds s0 a0 b0 c0 d0
    → AreSums bounds s1 a1 b1 c1 d1 → AreSums bounds s2 a2 b2 c2 d2
    → s ≡ s0 + s1 + s2 → a ≡ a0 + a1 + a2 → b ≡ b0 + b1 + b2 → c ≡ c0 + c1 + c2 → d ≡ d0 + d1 + d2 → AreSums bounds s a b c d
add-sums bounds s0 s1 s2 s a0 b0 c0 d0 a1 b1 c1 d1 a2 b2 c2 d2 a b c d x y z se ae be ce de =
    let la = product bounds.low a0 a1 a2 a ae in
    let ha = product bounds.high a0 a1 a2 a ae in
    let lb = product bounds.low b0 b1 b2 b be in
    let hb = product bounds.high b0 b1 b2 b be in
    record { least = omega (arith, x, y, z, la, lb, se, ce, de); most = omega (arith, x, y, z, ha, hb, se, ce, de) }

two-more : (xs : List ℕ) (i k : ℕ) → sums_to xs i (k + 2) ≡ sums_to xs i k + sum_to xs (i + k) + sum_to xs (i + k + 1)
two-more xs i k =
    let one = sums-next xs i k (k + 1) refl in
    let two = sums-next xs i (k + 1) (k + 2) (omega arith) in
    let e : i + (k + 1) ≡ i + k + 1 = omega arith in
    let f = ap (sum_to xs) e in
    omega (arith, one, two, f)

pub sums-apart : (bounds : Bounds) (spread late later : ℕ) (places line runs : List ℕ) (j n : ℕ)
    → AreDisplaced bounds spread late later places line runs → length runs ≡ 256 → n ≡ 2 * j → n ≤ 16
    → AreSums bounds (n * spread) (sums_to line 0 n) (sums_to line 241 n) (sums_to runs 0 n) (sums_to runs 241 n)
sums-apart bounds spread late later places line runs zero n displaced count even few =
    let e : n ≡ 0 = omega (arith, even) in
    rw (e, sums-none line 0, sums-none line 241, sums-none runs 0, sums-none runs 241)
    record { least = omega arith; most = omega arith }
sums-apart bounds spread late later places line runs (suc j) n displaced count even few =
    let k = 2 * j in
    let e : n ≡ 2 * j + 2 = omega (arith, even) in
    let before = sums-apart bounds spread late later places line runs j (2 * j) displaced count refl (omega (arith, even, few)) in
    let a = two-edges bounds spread late later places line runs (0 + 2 * j) 242 displaced (omega (arith, even, few, count)) (omega arith) in
    let b = two-edges bounds spread late later places line runs (0 + 2 * j + 1) 240 displaced (omega (arith, even, few, count)) (omega arith) in
    let f : 0 + 2 * j + 242 ≡ 241 + 2 * j + 1 = omega arith in
    let g : 0 + 2 * j + 1 + 240 ≡ 241 + 2 * j = omega arith in
    let line_f = ap (sum_to line) f in
    let line_g = ap (sum_to line) g in
    let runs_f = ap (sum_to runs) f in
    let runs_g = ap (sum_to runs) g in
    let l0 = two-more line 0 (2 * j) in
    let l1 = two-more line 241 (2 * j) in
    let r0 = two-more runs 0 (2 * j) in
    let r1 = two-more runs 241 (2 * j) in
    let s : (2 * j + 2) * spread ≡ 2 * j * spread + spread + spread = omega arith in
    rw e (add-sums bounds _ _ _ ((2 * j + 2) * spread) _ _ _ _ _ _ _ _ _ _ _ _ (sums_to line 0 (2 * j + 2)) (sums_to line 241 (2 * j + 2))
    (sums_to runs 0 (2 * j + 2)) (sums_to runs 241 (2 * j + 2)) before a b s l0 (omega (arith, l1, line_f, line_g)) r0
    (omega (arith, r1, runs_f, runs_g)))

-- from the first 16 edges to the last 16
difference : (x a n b : ℕ) → b ≡ a + n → x * b ≡ x * a + x * n
difference x a n b e = grind (arith, e)

pub second-period : (bounds : Bounds) (spread late later place side : ℕ) (places line runs : List ℕ) (period : ℕ)
    → AreCapturedRuns bounds spread late later place side places line runs
    → period ≡ (sums_to runs 241 16 - sums_to runs 0 16) * 65536 / max (sums_to line 241 16 - sums_to line 0 16) 1
    → IsPeriodOf bounds spread 253 period
second-period bounds spread late later place side places line runs period captured is =
    let displaced = captured.displaced in
    let cells_count = displaced.cells_count in
    let count : length runs ≡ 256 = omega (arith, captured, cells_count) in
    let sums = sums-apart bounds spread late later places line runs 8 16 displaced count (omega arith) (omega arith) in
    let cells = sums_to line 241 16 - sums_to line 0 16 in
    let cells_are : sums_to line 241 16 ≡ sums_to line 0 16 + (sums_to line 241 16 - sums_to line 0 16) = omega (arith, captured) in
    let some : max (sums_to line 241 16 - sums_to line 0 16) 1 ≡ sums_to line 241 16 - sums_to line 0 16 = omega (arith, captured) in
    let high = difference bounds.high (sums_to line 0 16) _ (sums_to line 241 16) cells_are in
    let low = difference bounds.low (sums_to line 0 16) _ (sums_to line 241 16) cells_are in
    let at_least = fewer bounds.low 4048 (sums_to line 241 16 - sums_to line 0 16) (omega (arith, captured)) in
    let later_is : sums_to runs 0 16 ≤ sums_to runs 241 16 = omega (arith, sums, low, at_least, captured) in
    let long : IsLong bounds (16 * spread) (sums_to line 241 16 - sums_to line 0 16) (sums_to runs 241 16 - sums_to runs 0 16) = record {
      least = omega (arith, sums, low, later_is);
      most = omega (arith, sums, high, later_is);
    } in
    let near = near-of bounds (16 * spread) (sums_to line 241 16 - sums_to line 0 16) (sums_to runs 241 16 - sums_to runs 0 16) period long
    (omega (arith, captured)) (rw some at is) in
    let fewer_cells = near-fewer bounds (16 * spread) (sums_to line 241 16 - sums_to line 0 16) 4048 period (omega (arith, captured))
    (omega arith) near in
    record { most = omega (arith, fewer_cells); least = omega (arith, fewer_cells) }

pub second-period-of : (bounds : Bounds) (spread late later place side : ℕ) (places line runs cells : List ℕ) (period : ℕ)
    → AreCapturedRuns bounds spread late later place side places line runs → length cells ≡ 256 → take (length runs) cells ≡ line
    → period ≡ (sums_to runs (length runs - 15) 16 - sums_to runs 0 16) * 65536
    / max (sums_to cells (length runs - 15) 16 - sums_to cells 0 16) 1
    → IsPeriodOf bounds spread 253 period
second-period-of bounds spread late later place side places line runs cells period captured long front is =
    let line_count = captured.many.count in
    let cells_count = captured.displaced.cells_count in
    let count : length runs ≡ 256 = omega (arith, line_count, cells_count) in
    let all : cells ≡ line = sym (take_all (length runs) cells (omega (arith, long, count))) ∙ front in
    let last : length runs - 15 ≡ 241 = omega (arith, count) in
    second-period bounds spread late later place side places line runs period captured (rw (last, all) at is)

-- A known period stands in the place of a measured one.
pub asked-in-range : (narrow : Bounds) (known : Option ℕ) (measured asked : ℕ) → AllowsCells known narrow → asked ≡ unwrap_or known measured
    → 132096 ≤ measured → measured ≤ 524288000 → (132096 ≤ asked) × (asked ≤ 524288000)
asked-in-range narrow None measured asked allows is least most = rw is (least, most)
asked-in-range narrow (Some period) measured asked allows is least most = rw is (allows.least, allows.most)

-- which part of a period its cells may change by, if it was measured from so many subframes
abbrev pub IsPart : Option ℕ → ℕ → ℕ → Type 0
IsPart None subframes part = part ≡ min (128 * (subframes + 3)) 1024
IsPart (Some period) subframes part = part ≡ 1024

-- With bounds by such periods a follower bears the line.
pub first-line : (narrow bounds : Bounds) (spread late later place side : ℕ) (places line runs : List ℕ) (known : Option ℕ)
    (subframes period asked part : ℕ) → AreCapturedRuns narrow spread late later place side places line runs
    → IsFirstPeriod narrow spread subframes period → AllowsCells known narrow → asked ≡ unwrap_or known period
    → IsPart known subframes part → IsAbout bounds asked part → AreOfALine narrow bounds spread late later places line runs
first-line narrow bounds spread late later place side places line runs None subframes period asked part captured first allows is part_is about =
    let fits = fits-first bounds narrow spread late later period subframes part captured.findable first.near first.some part_is
    (rw is at about) in
    record { displaced = captured.displaced; wide = fits.wide; borne = fits.borne }
first-line narrow bounds spread late later place side places line runs (Some known) subframes period asked part captured first allows is part_is
    about =
    let fits = fits-known bounds narrow spread late later known captured.findable allows (rw (is, part_is) at about) in
    record { displaced = captured.displaced; wide = fits.wide; borne = fits.borne }

pub second-line : (narrow bounds : Bounds) (spread late later place side : ℕ) (places line runs : List ℕ) (known : Option ℕ)
    (period asked : ℕ) → AreCapturedRuns narrow spread late later place side places line runs → IsPeriodOf narrow spread 253 period
    → AllowsCells known narrow → asked ≡ unwrap_or known period → IsAbout bounds asked 1024
    → AreOfALine narrow bounds spread late later places line runs
second-line narrow bounds spread late later place side places line runs None period asked captured near allows is about =
    let fits = fits-253 bounds narrow spread late later period captured.findable near (rw is at about) in
    record { displaced = captured.displaced; wide = fits.wide; borne = fits.borne }
second-line narrow bounds spread late later place side places line runs (Some known) period asked captured near allows is about =
    let fits = fits-known bounds narrow spread late later known captured.findable allows (rw is at about) in
    record { displaced = captured.displaced; wide = fits.wide; borne = fits.borne }
