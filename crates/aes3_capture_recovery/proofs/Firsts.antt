-- The first runs of preambles in a capture.
use Rattle.std.proofs.Common.{ℕ, zero, suc, List, [], ◌∷◌, ◌≡◌, ◌<◌, ◌≤◌, ◌+◌, ◌-◌, ◌*◌, ◌/◌, ◌%◌, length, get_or, refl, ap, ◌∙◌, sym, set, arith}
use Rattle.std.proofs.lemmas.List.{get_or-set_other, get_or-set_same}
use Rattle.std.proofs.lemmas.Nat.{div_below, le-div}
use Rattle.aes3_capture.specs.declared.follower.Bounds.{Bounds}
use Rattle.aes3_capture.specs.Captures.{sum_to}
use Rattle.aes3_capture.proofs.Telescope.{sum-next}
use Rattle.aes3_capture_recovery.specs.declared.period.Anchor.{Anchor}
use Rattle.aes3_capture_recovery.specs.Finding.{AreCapturedRuns, AreEnds, IsFindable, IsFirst, IsSix}
use Rattle.aes3_capture_recovery.specs.Measuring.{place_at}
use Rattle.aes3_capture_recovery.proofs.Captured.{IsLong, between-edges, longest-has-three, run-long, three-is-some, three-not-too-long}

-- the place of a run, by the cells before it
pub place-sum : (place : ℕ) (line : List ℕ) (i : ℕ) → place < 64 → place_at place line i ≡ (place + sum_to line i) % 64
place-sum place line zero h = omega (arith, h)
place-sum place [] (suc i) h = omega (arith, h)
place-sum place (m ∷ line) (suc i) h =
    let rest = place-sum ((place + m) % 64) line i (omega arith) in
    omega (arith, rest)

-- runs have a cell each at least
pub sum-more : (line : List ℕ) (i k : ℕ) → i + k ≤ length line → ((j : ℕ) → j < length line → 1 ≤ get_or line j 0)
    → sum_to line i + k ≤ sum_to line (i + k)
sum-more line i zero h some = let e : i + 0 ≡ i = omega arith in rw e (omega arith)
sum-more line i (suc k) h some =
    let before = sum-more line i k (omega (arith, h)) some in
    let next = sum-next line (i + k) (omega (arith, h)) in
    let one = some (i + k) (omega (arith, h)) in
    let e : i + suc k ≡ i + k + 1 = omega arith in
    rw e (omega (arith, before, next, one))

pub sum-grows : (xs : List ℕ) (i k : ℕ) → i + k ≤ length xs → sum_to xs i ≤ sum_to xs (i + k)
sum-grows xs i zero h = let e : i + 0 ≡ i = omega arith in rw e (omega arith)
sum-grows xs i (suc k) h =
    let before = sum-grows xs i k (omega (arith, h)) in
    let next = sum-next xs (i + k) (omega (arith, h)) in
    let e : i + suc k ≡ i + k + 1 = omega arith in
    rw e (omega (arith, before, next))

-- Between the first runs of two preambles lie whole subframes.
pub record AreWhole (line : List ℕ) (i j : ℕ) : Type 0 where
  pub subframes : ℕ
  pub some : 1 ≤ subframes
  pub cells : sum_to line j ≡ sum_to line i + 64 * subframes

pub whole-between : (place : ℕ) (line : List ℕ) (i k : ℕ) → place < 64 → i + k < length line → 0 < k
    → ((j : ℕ) → j < length line → 1 ≤ get_or line j 0) → place_at place line i ≡ 0 → place_at place line (i + k) ≡ 0
    → AreWhole line i (i + k)
whole-between place line i k h within more some first last =
    let a = place-sum place line i h in
    let b = place-sum place line (i + k) h in
    let least = sum-more line i k (omega (arith, within)) some in
    record {
      subframes = (sum_to line (i + k) - sum_to line i) / 64;
      some = omega (arith, a, b, first, last, least, more);
      cells = omega (arith, a, b, first, last, least);
    }

-- so many subframes are counted rightly
pub subframes-right : (bounds : Bounds) (spread late later k samples longest : ℕ) → IsFindable bounds spread late later
    → IsSix bounds spread longest → IsLong bounds spread (64 * k) samples → 1 ≤ k → k ≤ 3
    → (12 * samples + 64 * longest) / (128 * longest) ≡ k
subframes-right bounds spread late later k samples longest f six long some few = by-count k long some few
  where
    quotient : (x y q : ℕ) → 0 < y → q * y ≤ x → x < (q + 1) * y → x / y ≡ q
    quotient x y q p h g =
        let least = le-div q x y p h in
        let most = div_below x y (q + 1) p g in
        omega (arith, least, most)

    by-count : (k : ℕ) → IsLong bounds spread (64 * k) samples → 1 ≤ k → k ≤ 3
        → (12 * samples + 64 * longest) / (128 * longest) ≡ k
    by-count zero long some few = absurd (omega (arith, some))
    by-count (suc zero) long some few = quotient _ (128 * longest) 1 (omega (arith, f, six)) (omega (arith, f, six, long))
        (omega (arith, f, six, long))
    by-count (suc (suc zero)) long some few = quotient _ (128 * longest) 2 (omega (arith, f, six)) (omega (arith, f, six, long))
        (omega (arith, f, six, long))
    by-count (suc (suc (suc zero))) long some few = quotient _ (128 * longest) 3 (omega (arith, f, six)) (omega (arith, f, six, long))
        (omega (arith, f, six, long))
    by-count (suc (suc (suc (suc k)))) long some few = absurd (omega (arith, few))

pub first-of : (bounds : Bounds) (spread late later place side : ℕ) (places line runs : List ℕ) (longest from run samples : ℕ)
    → AreCapturedRuns bounds spread late later place side places line runs → IsSix bounds spread longest → from + 64 ≤ 256
    → ((i : ℕ) → from ≤ i → i < from + 64 → i % 2 ≡ side → 0 < get_or runs i 0 → 3 * get_or runs i 0 ≤ 2 * longest
    → (from ≤ run) × (run < from + 64) × (run % 2 ≡ side) × (get_or runs i 0 ≤ get_or runs run 0))
    → samples ≡ sum_to runs run → IsFirst place line runs from run samples
first-of bounds spread late later place side places line runs longest from run samples captured six within likeliest is =
    let many = captured.many in
    let displaced = captured.displaced in
    let findable = captured.findable in
    let count = many.count in
    let cells = displaced.cells_count in
    let first = many.firsts from (omega (arith, within, count)) in
    let i = first.run in
    let least = first.least in
    let most = first.most in
    let below : i < length line = omega (arith, most, within, count) in
    let below_runs : i < length runs = omega (arith, below, cells) in
    let at = first.begins in
    let three = many.first i below at in
    let side_is = many.side_is i below at in
    let long = run-long bounds spread late later places line runs i 3 displaced below_runs three in
    let some = three-is-some bounds spread late later i (get_or runs i 0) findable long in
    let short = three-not-too-long bounds spread late later i (get_or runs i 0) longest findable long six in
    let l = likeliest i least most side_is some short in
    let l0 = l.0 in
    let l1 = l.1 in
    let l2 = l.2 in
    let l3 = l.3 in
    let in_line : run < length line = omega (arith, l1, within, count) in
    let in_runs : run < length runs = omega (arith, in_line, cells) in
    let few = many.few_cells run in_line in
    let other = run-long bounds spread late later places line runs run (get_or line run 0) displaced in_runs refl in
    let has_three = longest-has-three bounds spread late later i run (get_or line run 0) (get_or runs i 0) (get_or runs run 0) findable
    long other (omega (arith, side_is, l2)) l3 few in
    record {
      least = l0;
      most = l1;
      three = has_three;
      begins = many.threes run in_line l2 has_three;
      samples_is = is;
    }

-- The first runs of preambles that were found so far, one in each 64 runs: the first of them and the last, before which so many
-- subframes were counted from the first on.
pub record AreFrom (place : ℕ) (line runs : List ℕ) (count : ℕ) (before first last : Anchor) : Type 0 where
  pub last_is : last ≡ before
  pub first_at : IsFirst place line runs 0 first.run first.samples
  pub last_at : IsFirst place line runs (64 * (count - 1)) before.run before.samples
  pub none : first.subframes ≡ 0
  pub few : before.subframes ≤ 3 * (count - 1)
  pub cells : 64 * before.subframes + sum_to line first.run ≡ sum_to line before.run

abbrev pub AreSoFar : ℕ → List ℕ → List ℕ → ℕ → Anchor → Anchor → Anchor → Type 0
AreSoFar place line runs count before first last = 0 < count → AreFrom place line runs count before first last

-- How many subframes lie from one such run to that in the next 64.
pub record IsNext (line : List ℕ) (i j more : ℕ) : Type 0 where
  pub cells : sum_to line j ≡ sum_to line i + 64 * more
  pub few : more ≤ 3

pub next-of : (bounds : Bounds) (spread late later place side : ℕ) (places line runs : List ℕ) (longest from i j si sj : ℕ)
    → AreCapturedRuns bounds spread late later place side places line runs → IsSix bounds spread longest → from + 128 ≤ 256
    → IsFirst place line runs from i si → IsFirst place line runs (from + 64) j sj
    → IsNext line i j ((12 * (sj - si) + 64 * longest) / (128 * longest))
next-of bounds spread late later place side places line runs longest from i j si sj captured six within a b =
    let many = captured.many in
    let displaced = captured.displaced in
    let findable = captured.findable in
    let count = many.count in
    let cells_count = displaced.cells_count in
    let k = j - i in
    let e : i + (j - i) ≡ j = omega (arith, a, b) in
    let below : i + (j - i) < length line = omega (arith, a, b, within, count) in
    let b_begins : place_at place line (i + (j - i)) ≡ 0 = rw e (b.begins) in
    let whole = whole-between place line i (j - i) many.subframes.within below (omega (arith, a, b)) many.some_cells a.begins b_begins in
    let n = whole.subframes in
    let some = whole.some in
    let cells = whole.cells in
    let most = many.few i (i + (j - i)) (omega arith) (omega (arith, a, b)) below a.begins b_begins in
    let few : n ≤ 3 = omega (arith, cells, most) in
    let i_side = many.side_is i (omega (arith, below)) a.begins in
    let j_side = many.side_is (i + (j - i)) below b_begins in
    let grows = sum-grows runs i (j - i) (omega (arith, below, cells_count)) in
    let more : sum_to runs (i + (j - i)) ≡ sum_to runs i + (sum_to runs (i + (j - i)) - sum_to runs i) = omega (arith, grows) in
    let long = between-edges bounds spread late later places line runs i (j - i) (64 * n) (sum_to runs (i + (j - i)) - sum_to runs i) displaced
    (omega (arith, below, cells_count)) (omega (arith, i_side, j_side)) cells more in
    let right = subframes-right bounds spread late later n (sum_to runs (i + (j - i)) - sum_to runs i) longest findable six long some few in
    let ends : sum_to runs (i + (j - i)) ≡ sum_to runs j = ap (sum_to runs) e in
    let line_end : sum_to line (i + (j - i)) ≡ sum_to line j = ap (sum_to line) e in
    let samples : sj - si ≡ sum_to runs (i + (j - i)) - sum_to runs i = omega (arith, a, b, ends) in
    record {
      cells = rw (samples, right) (omega (arith, cells, line_end));
      few = rw (samples, right) few;
    }

-- One such run more: the first, and one in the next 64.
pub first-found : (place : ℕ) (line runs : List ℕ) (found : List Anchor) (g : ℕ) (value other : Anchor) → g ≡ 0 → g < length found
    → IsFirst place line runs (64 * g) value.run value.samples → value.subframes ≡ 0
    → AreFrom place line runs (g + 1) value (get_or (set found g value) 0 other) (get_or (set found g value) (g + 1 - 1) other)
first-found place line runs found g value other none within is fresh =
    let start : 64 * g ≡ 0 = omega (arith, none) in
    let last_from : 64 * (g + 1 - 1) ≡ 0 = omega (arith, none) in
    let e : g + 1 - 1 ≡ g = omega arith in
    let is_first : IsFirst place line runs 0 value.run value.samples = rw start at is in
    let there : get_or (set found g value) g other ≡ value = get_or-set_same found g value other within in
    let first_is : get_or (set found g value) 0 other ≡ value = ap (λ k. get_or (set found g value) k other) (sym none) ∙ there in
    let last_is : get_or (set found g value) (g + 1 - 1) other ≡ value = ap (λ k. get_or (set found g value) k other) e ∙ there in
    let all : AreFrom place line runs (g + 1) value value value = record {
      last_is = refl;
      first_at = is_first;
      last_at = rw last_from is_first;
      none = fresh;
      few = omega (arith, fresh);
      cells = omega (arith, fresh);
    } in
    rw (first_is, last_is) all

pub next-found : (place : ℕ) (line runs : List ℕ) (found : List Anchor) (g more : ℕ) (before value other : Anchor) → 0 < g
    → g < length found → AreFrom place line runs g before (get_or found 0 other) (get_or found (g - 1) other)
    → IsFirst place line runs (64 * g) value.run value.samples → IsNext line before.run value.run more
    → value.subframes ≡ before.subframes + more
    → AreFrom place line runs (g + 1) value (get_or (set found g value) 0 other) (get_or (set found g value) (g + 1 - 1) other)
next-found place line runs found g more before value other some within from is next sum =
    let e : g + 1 - 1 ≡ g = omega arith in
    let there : get_or (set found g value) g other ≡ value = get_or-set_same found g value other within in
    let first_is : get_or (set found g value) 0 other ≡ get_or found 0 other =
    get_or-set_other found g 0 value other (omega (arith, some)) in
    let last_is : get_or (set found g value) (g + 1 - 1) other ≡ value = ap (λ k. get_or (set found g value) k other) e ∙ there in
    let all : AreFrom place line runs (g + 1) value (get_or found 0 other) value = record {
      last_is = refl;
      first_at = from.first_at;
      last_at = rw e is;
      none = from.none;
      few = omega (arith, sum, from, next, some);
      cells = omega (arith, sum, from, next);
    } in
    rw (first_is, last_is) all

pub ends-of : (place : ℕ) (line runs : List ℕ) (before first last : Anchor) → AreFrom place line runs 4 before first last
    → AreEnds place line runs first last
ends-of place line runs before first last from = rw from.last_is record {
  first_is = from.first_at;
  last_is = from.last_at;
  cells = from.cells;
  none = from.none;
  few = from.few;
}
