-- How far the beginnings of subframes lie apart among runs in a row, and how many cells lie between them.
use Rattle.std.proofs.Common.{◌≡◌, ℕ, zero, suc, ◌+◌, ◌-◌, ◌*◌, ◌<◌, ◌≤◌, ◌⊎◌, inl, inr, List, Bool, refl, length, get_or}
use Rattle.std.proofs.Common.{ap, ◌∙◌, arith}
use Rattle.std.proofs.lemmas.Bool.{cases_lt, cases_eq}
use Rattle.aes3_capture.specs.Captures.{sum_to}
use Rattle.aes3_capture.proofs.Telescope.{sum-next}
use Rattle.aes3_slot.specs.declared.mark.Mark.{Mark}
use Rattle.aes3_slot.specs.declared.mark.Mark.TheVariants.{X}
use Rattle.aes3_slot.specs.Slots.{mark_runs, runs_of}
use Rattle.aes3_capture_recovery.specs.Finding.{sums_to}
use Rattle.aes3_capture_recovery.specs.Measuring.{place_at}
use Rattle.aes3_capture_recovery.proofs.Periods.{sums-none, sums-next}
use Rattle.aes3_capture_recovery.specs.Finding.{HasFirst, HasLongest}
use Rattle.aes3_capture_laws.proofs.LineRuns.{EachSubframe, begin_of, begins-all, begins-apart, begins-sum}
use Rattle.aes3_capture_laws.proofs.LineWindows.{IsWindow, IsBegin, begin-is, first-is, next-begin, place-is, place_of, preamble-run}
use Rattle.aes3_capture_laws.proofs.LineWindows.{second-is, some-cells, third-is}

-- a preamble begins with one of the 64 runs from `from` on
pub firsts-are : {marks : ℕ → Mark} {slots : List (List Bool)} {k n : ℕ} {line : List ℕ} → IsWindow marks slots k n line
    → (from : ℕ) → from + 64 ≤ n → HasFirst (place_of marks slots k) line from
firsts-are {marks} {slots} {k} w from h =
    let b = next-begin w from (omega (arith, h)) in
    let l = b.least in
    let m = b.most in
    let e : k + (begin_of slots b.number - k) ≡ begin_of slots b.number = omega (arith, l) in
    let p = place-is w (begin_of slots b.number - k) (omega (arith, h, m)) in
    let s = begins-sum marks slots w.each b.number b.within in
    let z = ap (sum_to (runs_of marks slots)) e in
    record {
      run = begin_of slots b.number - k;
      least = omega (arith, l);
      most = omega (arith, l, m);
      begins = omega (arith, p, s, z);
    }

-- From one beginning to another there are so many subframes.
record AreSubframes (first last firsts lasts : ℕ) : Type 0 where
  count : ℕ
  sum : lasts ≡ firsts + 64 * count
  least : first + 32 * count ≤ last
  most : last ≤ first + 60 * count

between : {marks : ℕ → Mark} {slots : List (List Bool)} {i j : ℕ} → EachSubframe slots → IsBegin marks slots i
    → IsBegin marks slots j → i ≤ j
    → AreSubframes i j (sum_to (runs_of marks slots) i) (sum_to (runs_of marks slots) j)
between {marks} {slots} {i} {j} each a b h = go (cases_lt b.number a.number) a.index b.index a.sum_is b.sum_is
  where
    go : (b.number < a.number) ⊎ (a.number ≤ b.number) → i ≡ begin_of slots a.number → j ≡ begin_of slots b.number
        → sum_to (runs_of marks slots) i ≡ 64 * a.number → sum_to (runs_of marks slots) j ≡ 64 * b.number
        → AreSubframes i j (sum_to (runs_of marks slots) i) (sum_to (runs_of marks slots) j)
    go (inl l) x y s t = absurd
        (let d = begins-apart slots each b.number a.number (a.number - b.number) (omega (arith, l)) (let o = a.within in omega (arith, o)) in
        let m = d.least in
        omega (arith, m, x, y, h, l))
    go (inr l) x y s t =
        let d = begins-apart slots each a.number b.number (b.number - a.number) (omega (arith, l)) (let o = b.within in omega (arith, o)) in
        let m = d.least in
        let n = d.most in
        record {
          count = b.number - a.number;
          sum = omega (arith, s, t, l);
          least = omega (arith, m, x, y);
          most = omega (arith, n, x, y);
        }

pub few-are : {marks : ℕ → Mark} {slots : List (List Bool)} {k n : ℕ} {line : List ℕ} → IsWindow marks slots k n line
    → (i j : ℕ) → i ≤ j → j ≤ i + 127 → j < n → place_at (place_of marks slots k) line i ≡ 0
    → place_at (place_of marks slots k) line j ≡ 0 → sum_to line j ≤ sum_to line i + 192
few-are w i j le most h e f =
    let d = between w.each (begin-is w i (omega (arith, h, le)) e) (begin-is w j h f) (omega (arith, le)) in
    let s = d.sum in
    let l = d.least in
    let a = w.sum i (omega (arith, h, le)) in
    let b = w.sum j (omega (arith, h)) in
    omega (arith, s, l, a, b, most)

pub many-are : {marks : ℕ → Mark} {slots : List (List Bool)} {k n : ℕ} {line : List ℕ} → IsWindow marks slots k n line
    → (i j : ℕ) → i + 129 ≤ j → j < n → place_at (place_of marks slots k) line i ≡ 0
    → place_at (place_of marks slots k) line j ≡ 0 → sum_to line i + 192 ≤ sum_to line j
many-are w i j least h e f =
    let d = between w.each (begin-is w i (omega (arith, h, least)) e) (begin-is w j h f) (omega (arith, least)) in
    let s = d.sum in
    let l = d.most in
    let a = w.sum i (omega (arith, h, least)) in
    let b = w.sum j (omega (arith, h)) in
    omega (arith, s, l, a, b, least)

-- one cell at least in each run
sum-some : {marks : ℕ → Mark} {slots : List (List Bool)} {k n : ℕ} {line : List ℕ} → IsWindow marks slots k n line
    → (i d : ℕ) → i + d ≤ n → sum_to line i + d ≤ sum_to line (i + d)
sum-some w i zero h = let e : i + zero ≡ i = omega arith in rw e (omega arith)
sum-some {marks} {slots} {k} {n} {line} w i (suc d) h =
    let e : i + suc d ≡ i + d + 1 = omega arith in
    let rest = sum-some w i d (omega (arith, h)) in
    let l = w.count in
    let next = sum-next line (i + d) (omega (arith, h, l)) in
    let o = some-cells w (i + d) (omega (arith, h)) in
    rw e (omega (arith, rest, next, o))

-- a preamble has eight cells in four runs
preamble-sum : {marks : ℕ → Mark} {slots : List (List Bool)} {k n : ℕ} {line : List ℕ} → IsWindow marks slots k n line
    → (i : ℕ) → i + 4 ≤ n → place_at (place_of marks slots k) line i ≡ 0 → sum_to line (i + 4) ≡ sum_to line i + 8
preamble-sum {marks} {slots} {k} {n} {line} w i h e =
    let l = w.count in
    let a = sum-next line i (omega (arith, h, l)) in
    let b = sum-next line (i + 1) (omega (arith, h, l)) in
    let c = sum-next line (i + 2) (omega (arith, h, l)) in
    let d = sum-next line (i + 3) (omega (arith, h, l)) in
    let f : i + 1 + 1 ≡ i + 2 = omega arith in
    let g : i + 2 + 1 ≡ i + 3 = omega arith in
    let m : i + 3 + 1 ≡ i + 4 = omega arith in
    let b2 = rw f at b in
    let c2 = rw g at c in
    let d2 = rw m at d in
    let first = first-is w i (omega (arith, h)) e in
    let third = third-is w i (omega (arith, h)) e in
    let second = (second-is w i (omega (arith, h)) e).four in
    omega (arith, a, b2, c2, d2, first, second, third)

-- the beginning after this one
next-first : {marks : ℕ → Mark} {slots : List (List Bool)} {k n : ℕ} {line : List ℕ} → IsWindow marks slots k n line
    → (i : ℕ) → i + 60 ≤ n → (j : ℕ) × (i ≤ j) × (j < i + 60) × (place_at (place_of marks slots k) line j ≡ 0)
next-first {marks} {slots} {k} w i h =
    let b = next-begin w i (omega (arith, h)) in
    let l = b.least in
    let m = b.most in
    let e : k + (begin_of slots b.number - k) ≡ begin_of slots b.number = omega (arith, l) in
    let p = place-is w (begin_of slots b.number - k) (omega (arith, h, m)) in
    let s = begins-sum marks slots w.each b.number b.within in
    let z = ap (sum_to (runs_of marks slots)) e in
    (begin_of slots b.number - k, omega (arith, l), omega (arith, l, m), omega (arith, p, s, z))

-- 241 runs have 253 cells, since they have three whole preambles
cells-of : {marks : ℕ → Mark} {slots : List (List Bool)} {k n : ℕ} {line : List ℕ} → IsWindow marks slots k n line
    → (i : ℕ) → i + 241 ≤ n → sum_to line i + 253 ≤ sum_to line (241 + i)
cells-of {marks} {slots} {k} {n} {line} w i h =
    let one = next-first w i (omega (arith, h)) in
    let a = one.1 in
    let b = one.2 in
    let two = next-first w (one.0 + 4) (omega (arith, h, b)) in
    let c = two.1 in
    let d = two.2 in
    let three = next-first w (two.0 + 4) (omega (arith, h, b, d)) in
    let e = three.1 in
    let f = three.2 in
    let g = preamble-sum w one.0 (omega (arith, h, b)) one.3 in
    let m = preamble-sum w two.0 (omega (arith, h, b, d)) two.3 in
    let o = preamble-sum w three.0 (omega (arith, h, b, d, f)) three.3 in
    let p = sum-some w i (one.0 - i) (omega (arith, h, a, b)) in
    let q = sum-some w (one.0 + 4) (two.0 - (one.0 + 4)) (omega (arith, h, b, c, d)) in
    let r = sum-some w (two.0 + 4) (three.0 - (two.0 + 4)) (omega (arith, h, b, d, e, f)) in
    let s = sum-some w (three.0 + 4) (241 + i - (three.0 + 4)) (omega (arith, h, b, d, f)) in
    let p1 : i + (one.0 - i) ≡ one.0 = omega (arith, a) in
    let q1 : one.0 + 4 + (two.0 - (one.0 + 4)) ≡ two.0 = omega (arith, c) in
    let r1 : two.0 + 4 + (three.0 - (two.0 + 4)) ≡ three.0 = omega (arith, e) in
    let s1 : three.0 + 4 + (241 + i - (three.0 + 4)) ≡ 241 + i = omega (arith, b, d, f) in
    let p2 = rw p1 at p in
    let q2 = rw q1 at q in
    let r2 = rw r1 at r in
    let s2 = rw s1 at s in
    omega (arith, a, b, c, d, e, f, g, m, o, p2, q2, r2, s2)

cells-sums : {marks : ℕ → Mark} {slots : List (List Bool)} {k n : ℕ} {line : List ℕ} → IsWindow marks slots k n line
    → (count : ℕ) → count + 240 ≤ n → sums_to line 0 count + 253 * count ≤ sums_to line 241 count
cells-sums {line = line} w zero h = let a = sums-none line 0 in omega (arith, a)
cells-sums {line = line} w (suc count) h =
    let a = sums-next line 0 count (suc count) (omega arith) in
    let b = sums-next line 241 count (suc count) (omega arith) in
    let rest = cells-sums w count (omega (arith, h)) in
    let one = cells-of w count (omega (arith, h)) in
    let e : 0 + count ≡ count = omega arith in
    let a2 = rw e at a in
    omega (arith, a2, b, rest, one)

pub cells-are : {marks : ℕ → Mark} {slots : List (List Bool)} {k n : ℕ} {line : List ℕ} → IsWindow marks slots k n line
    → 256 ≤ n → sums_to line 0 16 + 4048 ≤ sums_to line 241 16
cells-are w h = let a = cells-sums w 16 (omega (arith, h)) in omega (arith, a)

-- `d` subframes on there is a subframe, if the line is long enough
on : (marks : ℕ → Mark) (slots : List (List Bool)) (each : EachSubframe slots) (q d : ℕ) → q < length slots
    → begin_of slots q + 60 * d < length (runs_of marks slots) → q + d < length slots
on marks slots each q zero l h = omega (arith, l)
on marks slots each q (suc d) l h =
    let before = on marks slots each q d l (omega (arith, h)) in
    let a = begins-apart slots each q (q + suc d) (suc d) refl (omega (arith, before)) in
    let m = a.most in
    let all = begins-all marks slots in
    go (cases_eq (q + suc d) (length slots)) before m all h
  where
    go : (q + suc d ≡ length slots) ⊎ (q + suc d ≡ length slots → ⊥) → q + d < length slots
        → begin_of slots (q + suc d) ≤ begin_of slots q + 60 * suc d
        → begin_of slots (length slots) ≡ length (runs_of marks slots)
        → begin_of slots q + 60 * suc d < length (runs_of marks slots) → q + suc d < length slots
    go (inl e) before m all h = absurd (let f = ap (begin_of slots) e in omega (arith, f, m, all, h))
    go (inr e) before m all h = omega (arith, before, e)

-- Of four subframes in a row one has an X preamble.
abbrev pub HaveX : (ℕ → Mark) → Type 0
HaveX marks = (q : ℕ) → (d : ℕ) × (d ≤ 3) × (marks (q + d) ≡ X)

longest-at : {marks : ℕ → Mark} {slots : List (List Bool)} {k n : ℕ} {line : List ℕ} → IsWindow marks slots k n line
    → (q run : ℕ) → q < length slots → k + run ≡ begin_of slots q → run + 1 < n → marks q ≡ X → HasLongest line
longest-at {line = line} w q run within at h x =
    let f : get_or line run 0 ≡ 3 = preamble-run w run run 0 q within at (omega arith) (omega (arith, h)) (omega arith)
    ∙ ap (λ mark. get_or (mark_runs mark) 0 0) x in
    let g : get_or line (run + 1) 0 ≡ 3 = preamble-run w run (run + 1) 1 q within at refl h (omega arith)
    ∙ ap (λ mark. get_or (mark_runs mark) 1 0) x in
    let l = w.count in
    record { run = run; within = omega (arith, h, l); cells = omega (arith, f, g) }

pub longest-is : {marks : ℕ → Mark} {slots : List (List Bool)} {k n : ℕ} {line : List ℕ} → IsWindow marks slots k n line
    → HaveX marks → 241 ≤ n → HasLongest line
longest-is {marks} {slots} {k} {n} {line} w have h =
    let r = w.room in
    let one = next-first w 0 (omega (arith, h)) in
    let m = one.2 in
    let b = begin-is w one.0 (omega (arith, h, m)) one.3 in
    let x = have b.number in
    let o = x.1 in
    let i = b.index in
    let within = on marks slots w.each b.number x.0 b.within (omega (arith, r, h, m, i, o)) in
    let a = begins-apart slots w.each b.number (b.number + x.0) x.0 refl (omega (arith, within)) in
    let f = a.least in
    let g = a.most in
    longest-at w (b.number + x.0) (begin_of slots (b.number + x.0) - k) within (omega (arith, f, i)) (omega (arith, h, g, i, m, o)) x.2
