-- Runs in a row of subframes, and where preambles begin among them.
use Rattle.std.proofs.Common.{◌≡◌, ℕ, zero, suc, ◌+◌, ◌-◌, ◌*◌, ◌%◌, ◌<◌, ◌≤◌, ◌⊎◌, inl, inr, List, [], ◌∷◌, Bool}
use Rattle.std.proofs.Common.{refl, length, get_or, take, drop, ap, ◌∙◌, sym, arith, min, length-drop, get_or-drop}
use Rattle.std.proofs.lemmas.Bool.{cases_eq}
use Rattle.std.proofs.lemmas.List.{get_or-take, length-take}
use Rattle.aes3_capture.specs.Captures.{sum_to}
use Rattle.aes3_capture.proofs.Telescope.{sum-next}
use Rattle.aes3_slot.specs.declared.mark.Mark.{Mark}
use Rattle.aes3_slot.specs.declared.mark.Mark.TheVariants.{X, Y, Z}
use Rattle.aes3_slot.specs.Slots.{mark_runs, runs_of}
use Rattle.aes3_capture_recovery.specs.Measuring.{place_at}
use Rattle.aes3_capture_laws.proofs.LineRuns.{EachSubframe, begin_of, begins-apart, begins-even}
use Rattle.aes3_capture_laws.proofs.LineRuns.{preamble-runs, IsInside, inside}
use Rattle.aes3_capture_recovery.proofs.Firsts.{place-sum}

-- the sums of a part of a list
sum-none : (i : ℕ) → sum_to [] i ≡ 0
sum-none zero = refl
sum-none (suc i) = refl

pub sum-drop : (xs : List ℕ) (k i : ℕ) → sum_to xs (k + i) ≡ sum_to xs k + sum_to (drop k xs) i
sum-drop xs zero i = let e : 0 + i ≡ i = omega arith in rw e (let f : sum_to xs i ≡ 0 + sum_to xs i = omega arith in f)
sum-drop [] (suc k) i =
    let e = sum-none (suc k + i) in
    let f = sum-none i in
    omega (arith, e, f)
sum-drop (x ∷ xs) (suc k) i =
    let e : suc k + i ≡ suc (k + i) = omega arith in
    let h = sum-drop xs k i in
    rw e (let f : x + sum_to xs (k + i) ≡ x + sum_to xs k + sum_to (drop k xs) i = omega (arith, h) in f)

pub sum-take : (xs : List ℕ) (n i : ℕ) → i ≤ n → sum_to (take n xs) i ≡ sum_to xs i
sum-take xs n zero h = refl
sum-take xs zero (suc i) h = absurd (omega (arith, h))
sum-take [] (suc n) (suc i) h = refl
sum-take (x ∷ xs) (suc n) (suc i) h = ap (λ s. x + s) (sum-take xs n i (omega (arith, h)))

-- `n` runs in a row of a line of subframes, from run `k` on
pub record IsWindow (marks : ℕ → Mark) (slots : List (List Bool)) (k n : ℕ) (line : List ℕ) : Type 0 where
  pub each : EachSubframe slots
  pub count : length line ≡ n
  pub room : k + n ≤ length (runs_of marks slots)
  pub run : (i : ℕ) → i < n → get_or line i 0 ≡ get_or (runs_of marks slots) (k + i) 0
  pub sum : (i : ℕ) → i ≤ n → sum_to (runs_of marks slots) (k + i) ≡ sum_to (runs_of marks slots) k + sum_to line i

pub window-of : (marks : ℕ → Mark) (slots : List (List Bool)) (k n : ℕ) (line : List ℕ) → EachSubframe slots → 0 < n
    → line ≡ take n (drop k (runs_of marks slots)) → length line ≡ n → IsWindow marks slots k n line
window-of marks slots k n line each some e count =
    let runs = runs_of marks slots in
    let l : length line ≡ min n (length runs - k) = ap length e ∙ length-take n (drop k runs) ∙ ap (min n) (length-drop k runs) in
    record {
      each = each;
      count = count;
      room = omega (arith, l, count, some);
      run = λ i h. ap (λ xs. get_or xs i 0) e ∙ get_or-take n (drop k runs) i 0 h ∙ get_or-drop k runs i 0;
      sum = λ i h. sum-drop runs k i ∙ ap (λ s. sum_to runs k + s) (sym (ap (λ xs. sum_to xs i) e ∙ sum-take (drop k runs) n i h));
    }

-- at which place the first of them begins
abbrev pub place_of : (ℕ → Mark) → List (List Bool) → ℕ → ℕ
place_of marks slots k = sum_to (runs_of marks slots) k % 64

-- A preamble begins with this run of the line.
pub record IsBegin (marks : ℕ → Mark) (slots : List (List Bool)) (j : ℕ) : Type 0 where
  pub number : ℕ
  pub within : number < length slots
  pub index : j ≡ begin_of slots number
  pub sum_is : sum_to (runs_of marks slots) j ≡ 64 * number

pub place-is : {marks : ℕ → Mark} {slots : List (List Bool)} {k n : ℕ} {line : List ℕ} → IsWindow marks slots k n line
    → (i : ℕ) → i ≤ n → place_at (place_of marks slots k) line i ≡ sum_to (runs_of marks slots) (k + i) % 64
place-is {marks} {slots} {k} {n} {line} w i h =
    let a = place-sum (place_of marks slots k) line i (omega arith) in
    let b = w.sum i h in
    omega (arith, a, b)

-- what is known of a run of the line
pub run-is : {marks : ℕ → Mark} {slots : List (List Bool)} {k n : ℕ} {line : List ℕ} → IsWindow marks slots k n line
    → (i : ℕ) → i < n → IsInside slots (k + i) (sum_to (runs_of marks slots) (k + i)) (get_or line i 0)
run-is {marks} {slots} {k} {n} {line} w i h =
    let r = w.room in
    rw (w.run i h) (inside marks slots w.each (k + i) (omega (arith, h, r)))

pub some-cells : {marks : ℕ → Mark} {slots : List (List Bool)} {k n : ℕ} {line : List ℕ} → IsWindow marks slots k n line
    → (i : ℕ) → i < n → 1 ≤ get_or line i 0
some-cells w i h = (run-is w i h).is.some

pub few-cells : {marks : ℕ → Mark} {slots : List (List Bool)} {k n : ℕ} {line : List ℕ} → IsWindow marks slots k n line
    → (i : ℕ) → i < n → get_or line i 0 ≤ 3
few-cells w i h = (run-is w i h).is.few

-- no run of the line goes past the end of a subframe
pub none-past : {marks : ℕ → Mark} {slots : List (List Bool)} {k n : ℕ} {line : List ℕ} → IsWindow marks slots k n line
    → (i : ℕ) → i < n → place_at (place_of marks slots k) line i + get_or line i 0 ≤ 64
none-past w i h =
    let r = run-is w i h in
    let p = place-is w i (omega (arith, h)) in
    let s = r.sum_is in
    let t = r.is.within in
    let o = r.is.some in
    omega (arith, p, s, t, o)

-- where a preamble begins
pub begin-is : {marks : ℕ → Mark} {slots : List (List Bool)} {k n : ℕ} {line : List ℕ} → IsWindow marks slots k n line
    → (i : ℕ) → i < n → place_at (place_of marks slots k) line i ≡ 0 → IsBegin marks slots (k + i)
begin-is {marks} {slots} {k} {n} {line} w i h e =
    let r = run-is w i h in
    let p = place-is w i (omega (arith, h)) in
    let s = r.sum_is in
    let t = r.is.within in
    let o = r.is.some in
    let x = r.index in
    let z : r.place ≡ 0 = omega (arith, p, s, t, o, e) in
    let y : r.offset ≡ 0 = r.is.begins z in
    record { number = r.number; within = r.within; index = omega (arith, x, y); sum_is = omega (arith, s, z) }

pub side-is : {marks : ℕ → Mark} {slots : List (List Bool)} {k n : ℕ} {line : List ℕ} → IsWindow marks slots k n line
    → (i : ℕ) → i < n → place_at (place_of marks slots k) line i ≡ 0 → i % 2 ≡ k % 2
side-is {marks} {slots} w i h e =
    let b = begin-is w i h e in
    let x = b.index in
    let v = begins-even slots w.each b.number in
    omega (arith, x, v)

-- run `i` of a preamble
pub preamble-run : {marks : ℕ → Mark} {slots : List (List Bool)} {k n : ℕ} {line : List ℕ} → (w : IsWindow marks slots k n line)
    → (b j i : ℕ) → (q : ℕ) → q < length slots → k + b ≡ begin_of slots q → j ≡ b + i → j < n → i < 4
    → get_or line j 0 ≡ get_or (mark_runs (marks q)) i 0
preamble-run {marks} {slots} {k} w b j i q l x e h f = w.run j h ∙ preamble-runs marks slots q (k + j) i l f (omega (arith, x, e))

pub first-is : {marks : ℕ → Mark} {slots : List (List Bool)} {k n : ℕ} {line : List ℕ} → IsWindow marks slots k n line
    → (i : ℕ) → i < n → place_at (place_of marks slots k) line i ≡ 0 → get_or line i 0 ≡ 3
first-is {marks} w i h e =
    let b = begin-is w i h e in
    preamble-run w i i 0 b.number b.within b.index (omega arith) h (omega arith) ∙ go (marks b.number)
  where
    go : (m : Mark) → get_or (mark_runs m) 0 0 ≡ 3
    go X = refl
    go Y = refl
    go Z = refl

pub third-is : {marks : ℕ → Mark} {slots : List (List Bool)} {k n : ℕ} {line : List ℕ} → IsWindow marks slots k n line
    → (i : ℕ) → i + 3 < n → place_at (place_of marks slots k) line i ≡ 0 → get_or line (i + 2) 0 ≡ 1
third-is {marks} w i h e =
    let b = begin-is w i (omega (arith, h)) e in
    preamble-run w i (i + 2) 2 b.number b.within b.index refl (omega (arith, h)) (omega arith) ∙ go (marks b.number)
  where
    go : (m : Mark) → get_or (mark_runs m) 2 0 ≡ 1
    go X = refl
    go Y = refl
    go Z = refl

-- the second run and the fourth
pub record AreSecond (second fourth : ℕ) : Type 0 where
  pub some : 1 ≤ second
  pub few : second ≤ 3
  pub four : second + fourth ≡ 4

pub second-is : {marks : ℕ → Mark} {slots : List (List Bool)} {k n : ℕ} {line : List ℕ} → IsWindow marks slots k n line
    → (i : ℕ) → i + 3 < n → place_at (place_of marks slots k) line i ≡ 0
    → AreSecond (get_or line (i + 1) 0) (get_or line (i + 3) 0)
second-is {marks} w i h e =
    let b = begin-is w i (omega (arith, h)) e in
    rw (
      preamble-run w i (i + 1) 1 b.number b.within b.index refl (omega (arith, h)) (omega arith),
      preamble-run w i (i + 3) 3 b.number b.within b.index refl h (omega arith),
    )
    (go (marks b.number))
  where
    go : (m : Mark) → AreSecond (get_or (mark_runs m) 1 0) (get_or (mark_runs m) 3 0)
    go X = record { some = omega arith; few = omega arith; four = omega arith }
    go Y = record { some = omega arith; few = omega arith; four = omega arith }
    go Z = record { some = omega arith; few = omega arith; four = omega arith }

-- runs of three cells of that side
pub three-is : {marks : ℕ → Mark} {slots : List (List Bool)} {k n : ℕ} {line : List ℕ} → IsWindow marks slots k n line
    → (i : ℕ) → i < n → i % 2 ≡ k % 2 → get_or line i 0 ≡ 3 → place_at (place_of marks slots k) line i ≡ 0
three-is {marks} {slots} w i h side e =
    let r = run-is w i h in
    let v = begins-even slots w.each r.number in
    let x = r.index in
    let z : r.offset ≡ 0 = r.is.three e (omega (arith, v, x, side)) in
    let y = (r.is.first z).1 in
    let s = r.sum_is in
    let p = place-is w i (omega (arith, h)) in
    omega (arith, p, s, y)

-- pairs of six cells
pub six-is : {marks : ℕ → Mark} {slots : List (List Bool)} {k n : ℕ} {line : List ℕ} → IsWindow marks slots k n line
    → (i : ℕ) → i + 1 < n → get_or line i 0 + get_or line (i + 1) 0 ≡ 6 → place_at (place_of marks slots k) line i ≡ 0
six-is {marks} {slots} {k} {n} {line} w i h e = go (cases_eq (i % 2) (k % 2))
  where
    first : get_or line i 0 ≡ 3
    first =
        let a = few-cells w i (omega (arith, h)) in
        let b = few-cells w (i + 1) h in
        omega (arith, a, b, e)

    go : (i % 2 ≡ k % 2) ⊎ (i % 2 ≡ k % 2 → ⊥) → place_at (place_of marks slots k) line i ≡ 0
    go (inl side) = three-is w i (omega (arith, h)) side first
    go (inr other) = absurd
        (let side : (i + 1) % 2 ≡ k % 2 = omega (arith, other) in
        let next = three-is w (i + 1) h side (omega (arith, e, first)) in
        let p = place-is w (i + 1) (omega (arith, h)) in
        let a = w.sum i (omega (arith, h)) in
        let b = w.sum (i + 1) (omega (arith, h)) in
        let l = w.count in
        let c = sum-next line i (omega (arith, h, l)) in
        let r = run-is w i (omega (arith, h)) in
        let s = r.sum_is in
        let t = r.is.within in
        let last = r.is.last (omega (arith, next, p, a, b, c, s, t, first)) in
        omega (arith, last, first))

-- A preamble begins with one of the 60 runs from run `j` on.
pub record HasBegin (marks : ℕ → Mark) (slots : List (List Bool)) (j : ℕ) : Type 0 where
  pub number : ℕ
  pub within : number ≤ length slots
  pub least : j ≤ begin_of slots number
  pub most : begin_of slots number < j + 60

next-of : {slots : List (List Bool)} {j sum cells : ℕ} → (marks : ℕ → Mark) → EachSubframe slots → IsInside slots j sum cells
    → HasBegin marks slots j
next-of {slots} {j} marks each r =
    let x = r.index in
    let s = r.short in
    let d = r.within in
    let a = begins-apart slots each r.number (suc r.number) 1 (omega arith) (omega (arith, d)) in
    let m = a.most in
    go (cases_eq r.offset 0) x s d m
  where
    go : (r.offset ≡ 0) ⊎ (r.offset ≡ 0 → ⊥) → j ≡ begin_of slots r.number + r.offset → j < begin_of slots (suc r.number)
        → r.number < length slots → begin_of slots (suc r.number) ≤ begin_of slots r.number + 60 * 1 → HasBegin marks slots j
    go (inl z) x s d m = record { number = r.number; within = omega (arith, d); least = omega (arith, x, z); most = omega (arith, x) }
    go (inr z) x s d m = record { number = suc r.number; within = omega (arith, d); least = omega (arith, s); most = omega (arith, x, z, m) }

pub next-begin : {marks : ℕ → Mark} {slots : List (List Bool)} {k n : ℕ} {line : List ℕ} → IsWindow marks slots k n line
    → (i : ℕ) → i < n → HasBegin marks slots (k + i)
next-begin {marks} w i h = next-of marks w.each (run-is w i h)
