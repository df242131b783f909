-- The preambles that are found among runs in a row of subframes.
use Rattle.std.proofs.Common.{◌≡◌, ℕ, zero, suc, ◌+◌, ◌-◌, ◌*◌, ◌%◌, ◌<◌, ◌≤◌, List, [], ◌∷◌, Bool, true, false, ◌&&◌, refl}
use Rattle.std.proofs.Common.{length, get_or, take, if◌then◌else◌, ap, ◌∙◌, sym, arith}
use Rattle.std.specs.Prelude.{nat_eq, nat_le, nat_lt}
use Rattle.std.proofs.lemmas.List.{length-take-le, get_or-take}
use Rattle.aes3_slot.specs.declared.mark.Mark.{Mark}
use Rattle.aes3_capture_recovery.specs.Finding.{AreOfSubframes}
use Rattle.aes3_capture_recovery.specs.Measuring.{are_preamble, place_at, places_from, preambles_from}
use Rattle.aes3_capture_laws.proofs.LineWindows.{AreSecond, IsWindow, first-is, none-past, place_of, second-is, some-cells, sum-take, third-is}
use Rattle.aes3_capture_recovery.proofs.Firsts.{place-sum}

-- run `i` has a cell, and lies within a subframe
record IsWithin (place : ℕ) (cells : List ℕ) (i : ℕ) : Type 0 where
  some : 1 ≤ get_or cells i 0
  within : place_at place cells i + get_or cells i 0 ≤ 64

AreWithin : ℕ → List ℕ → Type 0
AreWithin place cells = (i : ℕ) → i < length cells → IsWithin place cells i

within-rest : (place n : ℕ) (cells : List ℕ) → AreWithin place (n ∷ cells) → AreWithin ((place + n) % 64) cells
unfolding AreWithin
within-rest place n cells all i h =
    let one = all (suc i) (omega (arith, h)) in
    record { some = one.some; within = one.within }

-- what stands at one place
place-one : (place n : ℕ) → 1 ≤ n → place + n ≤ 64
    → (if nat_eq place 0 && nat_le 1 n then 1 else 0) + (if nat_lt 64 (place + n) then 1 else 0) ≡ (if nat_eq place 0 then 1 else 0)
place-one place n h l = grind (arith, h, l)

abbrev begun : ℕ → ℕ
begun zero = 0
begun (suc place) = 1

begun-most : (place : ℕ) → begun place ≤ 1
begun-most zero = omega arith
begun-most (suc place) = omega arith

-- a run more
counted : (place next n count places : ℕ) → next ≡ (place + n) % 64 → 1 ≤ n → place + n ≤ 64 → place < 64
    → next + count ≤ 64 * (places + begun next)
    → place + suc count ≤ 64 * ((if nat_eq place 0 then 1 else 0) + places + begun place)
counted zero zero n count places e h l o r = omega (arith, e, h, l, r)
counted zero (suc next) n count places e h l o r = omega (arith, e, h, l, r)
counted (suc place) zero n count places e h l o r = omega (arith, e, h, l, o, r)
counted (suc place) (suc next) n count places e h l o r = omega (arith, e, h, l, o, r)

-- so many runs have so many places
places-many : (place : ℕ) (cells : List ℕ) → AreWithin place cells → place < 64
    → place + length cells ≤ 64 * (places_from place cells + begun place)
unfolding AreWithin
places-many zero [] all h = omega arith
places-many (suc place) [] all h = omega (arith, h)
places-many place (n ∷ cells) all h =
    let one = all 0 (omega arith) in
    let p = place-one place n one.some one.within in
    let rest = places-many ((place + n) % 64) cells (within-rest place n cells all) (omega arith) in
    rw p (counted place ((place + n) % 64) n (length cells) (places_from ((place + n) % 64) cells) refl one.some one.within h rest)

-- a preamble begins at each place, unless it is cut
ArePreambles : ℕ → List ℕ → Type 0
ArePreambles place cells = (i : ℕ) → i + 3 < length cells → place_at place cells i ≡ 0
    → are_preamble (get_or cells i 0) (get_or cells (suc i) 0) (get_or cells (suc (suc i)) 0) (get_or cells (suc (suc (suc i))) 0) ≡ true

preambles-rest : (place n : ℕ) (cells : List ℕ) → ArePreambles place (n ∷ cells) → ArePreambles ((place + n) % 64) cells
unfolding ArePreambles
preambles-rest place n cells all i h e = all (suc i) (omega (arith, h)) e

one-preamble : (place : ℕ) (b : Bool) → (place ≡ 0 → b ≡ true) → (if nat_eq place 0 then 1 else 0) ≤ (if nat_eq place 0 && b then 1 else 0)
one-preamble zero b h = go b (h refl)
  where
    go : (b : Bool) → b ≡ true → (if nat_eq 0 0 then 1 else 0) ≤ (if nat_eq 0 0 && b then 1 else 0)
    go true e = omega arith
    go false e = absurd (cc)
one-preamble (suc place) b h = grind arith

all-found : (place count : ℕ) (cells : List ℕ) → count + 3 ≡ length cells → AreWithin place cells → ArePreambles place cells
    → places_from place (take count cells) ≤ preambles_from place cells
unfolding AreWithin ArePreambles
all-found place zero cells e all found = omega arith
all-found place (suc count) [] e all found = absurd (omega (arith, e))
all-found place (suc count) (n ∷ cells) e all found =
    let one = all 0 (omega arith) in
    let p = place-one place n one.some one.within in
    let rest = all-found ((place + n) % 64) count cells (omega (arith, e)) (within-rest place n cells all) (preambles-rest place n cells found) in
    let here = one-preamble place (are_preamble n (get_or cells 0 0) (get_or cells 1 0) (get_or cells 2 0)) (λ z. found 0 (omega (arith, e)) z) in
    rw p (omega (arith, rest, here))

within-front : (place count : ℕ) (cells : List ℕ) → count ≤ length cells → place < 64 → AreWithin place cells → AreWithin place (take count cells)
unfolding AreWithin
within-front place count cells h l all i o =
    let c = length-take-le count cells h in
    let one = all i (omega (arith, h, c, o)) in
    let s = one.some in
    let w = one.within in
    let g = get_or-take count cells i 0 (omega (arith, c, o)) in
    let p : place_at place (take count cells) i ≡ place_at place cells i = place-sum place (take count cells) i l
    ∙ ap (λ sum. (place + sum) % 64) (sum-take cells count i (omega (arith, c, o))) ∙ sym (place-sum place cells i l) in
    record { some = omega (arith, s, g); within = omega (arith, w, g, p) }

-- the four runs of a preamble
four-runs : (a b c d : ℕ) → a ≡ 3 → c ≡ 1 → AreSecond b d → are_preamble a b c d ≡ true
four-runs a b c d e f s =
    let x = s.some in
    let y = s.few in
    let z = s.four in
    let g : d ≡ 4 - b = omega (arith, z) in
    grind (arith, e, f, x, y, g)

pub subframes-are : {marks : ℕ → Mark} {slots : List (List Bool)} {k n : ℕ} {line : List ℕ} → IsWindow marks slots k n line
    → 256 ≤ n → AreOfSubframes (place_of marks slots k) line
unfolding AreWithin ArePreambles
subframes-are {marks} {slots} {k} {n} {line} w h =
    let l = w.count in
    let below : place_of marks slots k < 64 = omega arith in
    let c : length line - 3 + 3 ≡ length line = omega (arith, h, l) in
    let all : AreWithin (place_of marks slots k) line = λ i o. record {
      some = some-cells w i (omega (arith, o, l));
      within = none-past w i (omega (arith, o, l));
    } in
    let found : ArePreambles (place_of marks slots k) line = λ i o z.
    let a : i + 1 ≡ suc i = omega arith in
    let b : i + 2 ≡ suc (suc i) = omega arith in
    let d : i + 3 ≡ suc (suc (suc i)) = omega arith in
    let t = third-is w i (omega (arith, o, l)) z in
    let s = second-is w i (omega (arith, o, l)) z in
    four-runs _ _ _ _ (first-is w i (omega (arith, o, l)) z) (rw b at t) (rw (a, d) at s) in
    let most = all-found (place_of marks slots k) (length line - 3) line c all found in
    let front = within-front (place_of marks slots k) (length line - 3) line (omega arith) below all in
    let many = places-many (place_of marks slots k) (take (length line - 3) line) front below in
    let f = length-take-le (length line - 3) line (omega arith) in
    let g = begun-most (place_of marks slots k) in
    record { within = below; all = most; enough = omega (arith, most, many, f, g, h, l) }
