-- The runs of subframes one after the other, by their numbers.
use Rattle.std.proofs.Common.{◌≡◌, ℕ, zero, suc, ◌+◌, ◌-◌, ◌*◌, ◌%◌, ◌<◌, ◌≤◌, ◌⊎◌, inl, inr, List, [], ◌∷◌, ◌++◌, Bool}
use Rattle.std.proofs.Common.{refl, length, get_or, ◌∙◌, sym, arith, length-append}
use Rattle.std.proofs.lemmas.Bool.{cases_lt}
use Rattle.std.proofs.lemmas.List.{get_or_append_left, get_or-append_right}
use Rattle.aes3_capture.specs.Captures.{sum_to}
use Rattle.aes3_slot.specs.declared.mark.Mark.{Mark}
use Rattle.aes3_slot.specs.declared.mark.Mark.TheVariants.{X, Y, Z}
use Rattle.aes3_slot.specs.Slots.{mark_runs, bits_runs, slot_runs, runs_of}
use Rattle.aes3_capture_laws.proofs.SubframeRuns.{IsSubframe, long-subframe, IsRunOf, run-of, sum-append_left}
use Rattle.aes3_capture_laws.proofs.SubframeRuns.{sum-append_right, sum-subframe, length-marks}

-- subframes one after the other
abbrev pub EachSubframe : List (List Bool) → Type 0
EachSubframe [] = Unit {0}
EachSubframe (bits ∷ slots) = IsSubframe bits × EachSubframe slots

-- how many runs come before subframe `q`
abbrev pub begin_of : List (List Bool) → ℕ → ℕ
begin_of slots zero = 0
begin_of [] (suc q) = 0
begin_of (bits ∷ slots) (suc q) = length (slot_runs X bits) + begin_of slots q

-- all preambles have four runs
same-length : (m : Mark) (bits : List Bool) → length (slot_runs m bits) ≡ length (slot_runs X bits)
same-length m bits = length-marks m bits ∙ sym (length-marks X bits)

-- from subframe `q` to subframe `p` there are 32 to 60 runs in each
pub record AreApart (first last count : ℕ) : Type 0 where
  pub least : first + 32 * count ≤ last
  pub most : last ≤ first + 60 * count

pub begins-apart : (slots : List (List Bool)) → EachSubframe slots → (q p d : ℕ) → p ≡ q + d → p ≤ length slots
    → AreApart (begin_of slots q) (begin_of slots p) d
begins-apart slots each zero zero d e l = record { least = omega (arith, e); most = omega (arith, e) }
begins-apart slots each (suc q) zero d e l = absurd (omega (arith, e))
begins-apart [] each zero (suc p) d e l = absurd (omega (arith, l))
begins-apart [] each (suc q) (suc p) d e l = absurd (omega (arith, l))
begins-apart (bits ∷ slots) each zero (suc p) d e l =
    let rest = begins-apart slots each.1 zero p (d - 1) (omega (arith, e)) (omega (arith, l)) in
    let a = rest.least in
    let b = rest.most in
    let long = long-subframe X bits each.0 in
    let c = long.least in
    let f = long.most in
    record { least = omega (arith, e, a, c); most = omega (arith, e, b, f) }
begins-apart (bits ∷ slots) each (suc q) (suc p) d e l =
    let rest = begins-apart slots each.1 q p d (omega (arith, e)) (omega (arith, l)) in
    let a = rest.least in
    let b = rest.most in
    record { least = omega (arith, a); most = omega (arith, b) }

-- preambles begin at runs of even numbers
pub begins-even : (slots : List (List Bool)) → EachSubframe slots → (q : ℕ) → begin_of slots q % 2 ≡ 0
begins-even slots each zero = refl
begins-even [] each (suc q) = refl
begins-even (bits ∷ slots) each (suc q) =
    let a = begins-even slots each.1 q in
    let long = long-subframe X bits each.0 in
    let b = long.even in
    omega (arith, a, b)

pub begins-within : (marks : ℕ → Mark) (slots : List (List Bool)) → EachSubframe slots → (q : ℕ) → q ≤ length slots
    → begin_of slots q ≤ length (runs_of marks slots)
begins-within marks slots each zero l = omega arith
begins-within marks [] each (suc q) l = omega arith
begins-within marks (bits ∷ slots) each (suc q) l =
    let rest = begins-within (λ j. marks (suc j)) slots each.1 q (omega (arith, l)) in
    let a = length-append (slot_runs (marks 0) bits) (runs_of (λ j. marks (suc j)) slots) in
    let b = same-length (marks 0) bits in
    omega (arith, rest, a, b)

pub begins-all : (marks : ℕ → Mark) (slots : List (List Bool)) → begin_of slots (length slots) ≡ length (runs_of marks slots)
begins-all marks [] = refl
begins-all marks (bits ∷ slots) =
    let rest = begins-all (λ j. marks (suc j)) slots in
    let a = length-append (slot_runs (marks 0) bits) (runs_of (λ j. marks (suc j)) slots) in
    let b = same-length (marks 0) bits in
    omega (arith, rest, a, b)

-- a subframe has 64 cells
pub begins-sum : (marks : ℕ → Mark) (slots : List (List Bool)) → EachSubframe slots → (q : ℕ) → q ≤ length slots
    → sum_to (runs_of marks slots) (begin_of slots q) ≡ 64 * q
begins-sum marks slots each zero l = omega arith
begins-sum marks [] each (suc q) l = absurd (omega (arith, l))
begins-sum marks (bits ∷ slots) each (suc q) l =
    let one = slot_runs (marks 0) bits in
    let more = runs_of (λ j. marks (suc j)) slots in
    let rest = begins-sum (λ j. marks (suc j)) slots each.1 q (omega (arith, l)) in
    let b = same-length (marks 0) bits in
    let both = sum-append_right one more (begin_of (bits ∷ slots) (suc q)) (begin_of slots q) (omega (arith, b)) in
    let whole = sum-subframe (marks 0) bits each.0 in
    omega (arith, rest, both, whole)

-- the four runs of a preamble
pub preamble-runs : (marks : ℕ → Mark) (slots : List (List Bool)) → (q j i : ℕ) → q < length slots → i < 4
    → j ≡ begin_of slots q + i → get_or (runs_of marks slots) j 0 ≡ get_or (mark_runs (marks q)) i 0
preamble-runs marks [] q j i l h e = absurd (omega (arith, l))
preamble-runs marks (bits ∷ slots) zero j i l h e =
    let f : j ≡ i = omega (arith, e) in
    let a = length-marks (marks 0) bits in
    let n : length (mark_runs (marks 0)) ≡ 4 = four (marks 0) in
    rw f (get_or_append_left (slot_runs (marks 0) bits) (runs_of (λ k. marks (suc k)) slots) 0 i (omega (arith, a, h))
    ∙ get_or_append_left (mark_runs (marks 0)) (bits_runs bits) 0 i (omega (arith, n, h)))
  where
    four : (m : Mark) → length (mark_runs m) ≡ 4
    four X = refl
    four Y = refl
    four Z = refl
preamble-runs marks (bits ∷ slots) (suc q) j i l h e =
    let b = same-length (marks 0) bits in
    get_or-append_right (slot_runs (marks 0) bits) (runs_of (λ k. marks (suc k)) slots) (length (slot_runs X bits)) j 0 b
    (omega (arith, e))
    ∙ preamble-runs (λ k. marks (suc k)) slots q (j - length (slot_runs X bits)) i (omega (arith, l)) h (omega (arith, e))

-- Run `j` is run `offset` of subframe `number`, and begins `place` cells after the subframe.
pub record IsInside (slots : List (List Bool)) (j sum cells : ℕ) : Type 0 where
  pub number : ℕ
  pub within : number < length slots
  pub offset : ℕ
  pub index : j ≡ begin_of slots number + offset
  pub short : j < begin_of slots (suc number)
  pub place : ℕ
  pub sum_is : sum ≡ 64 * number + place
  pub is : IsRunOf offset place cells

pub inside : (marks : ℕ → Mark) (slots : List (List Bool)) → EachSubframe slots → (j : ℕ) → j < length (runs_of marks slots)
    → IsInside slots j (sum_to (runs_of marks slots) j) (get_or (runs_of marks slots) j 0)
inside marks [] each j h = absurd (omega (arith, h))
inside marks (bits ∷ slots) each j h = go (cases_lt j (length one)) (inside (λ k. marks (suc k)) slots each.1 (j - length one))
  where
    one : List ℕ
    one = slot_runs (marks 0) bits

    more : List ℕ
    more = runs_of (λ k. marks (suc k)) slots

    same : length one ≡ length (slot_runs X bits)
    same = same-length (marks 0) bits

    go : (j < length one) ⊎ (length one ≤ j)
        → (j - length one < length more → IsInside slots (j - length one) (sum_to more (j - length one)) (get_or more (j - length one) 0))
        → IsInside (bits ∷ slots) j (sum_to (one ++ more) j) (get_or (one ++ more) j 0)
    go (inl l) before =
        rw (sum-append_left one more j (omega (arith, l)), get_or_append_left one more 0 j l) record {
          number = 0;
          within = omega arith;
          offset = j;
          index = omega arith;
          short = omega (arith, l, same);
          place = sum_to one j;
          sum_is = omega arith;
          is = run-of (marks 0) bits each.0 j l;
        }
    go (inr l) before =
        let n = length-append one more in
        let rest = before (omega (arith, h, n, l)) in
        let w = rest.within in
        let x = rest.index in
        let s = rest.short in
        let p = rest.sum_is in
        let both = sum-append_right one more j (j - length one) (omega (arith, l)) in
        let whole = sum-subframe (marks 0) bits each.0 in
        rw (get_or-append_right one more (length one) j 0 refl l) record {
          number = suc rest.number;
          within = omega (arith, w);
          offset = rest.offset;
          index = omega (arith, x, same, l);
          short = omega (arith, s, same, l);
          place = rest.place;
          sum_is = omega (arith, p, both, whole);
          is = rest.is;
        }
