-- How many pairs of neighbouring runs have five cells or more.
use Rattle.std.proofs.Common.{◌≡◌, ℕ, zero, suc, ◌+◌, ◌*◌, ◌<◌, ◌≤◌, ◌⊎◌, inl, inr, List, Bool, refl, get_or}
use Rattle.std.proofs.Common.{min, if◌then◌else◌, ap, arith}
use Rattle.std.specs.Prelude.{nat_le}
use Rattle.std.proofs.lemmas.Bool.{cases_lt}
use Rattle.aes3_capture.specs.Captures.{sum_to}
use Rattle.aes3_capture.proofs.Telescope.{sum-next}
use Rattle.aes3_slot.specs.declared.mark.Mark.{Mark}
use Rattle.aes3_slot.specs.Slots.{runs_of}
use Rattle.aes3_capture_recovery.specs.Finding.{long_pairs}
use Rattle.aes3_capture_laws.proofs.LineRuns.{EachSubframe, begin_of, begins-apart, IsInside}
use Rattle.aes3_capture_laws.proofs.LineWindows.{IsWindow, run-is}

-- What the runs of a subframe from run `offset` on may have of such pairs, ten for each, and one for each run before. A pair begins
-- with the last run of a subframe, with its first, or with its fourth.
abbrev weight : ℕ → ℕ
weight zero = 30
weight (suc zero) = 21
weight (suc (suc zero)) = 22
weight (suc (suc (suc zero))) = 23
weight (suc (suc (suc (suc i)))) = 10 + min (4 + i) 31

weight-most : (i : ℕ) → weight i ≤ 41
weight-most zero = omega arith
weight-most (suc zero) = omega arith
weight-most (suc (suc zero)) = omega arith
weight-most (suc (suc (suc zero))) = omega arith
weight-most (suc (suc (suc (suc i)))) = omega arith

weight-least : (i : ℕ) → 14 ≤ weight i
weight-least zero = omega arith
weight-least (suc zero) = omega arith
weight-least (suc (suc zero)) = omega arith
weight-least (suc (suc (suc zero))) = omega arith
weight-least (suc (suc (suc (suc i)))) = omega arith

weight-last : (i : ℕ) → 31 ≤ i → weight i ≡ 41
weight-last (suc (suc (suc (suc i)))) h = omega (arith, h)
weight-last zero h = absurd (omega (arith, h))
weight-last (suc zero) h = absurd (omega (arith, h))
weight-last (suc (suc zero)) h = absurd (omega (arith, h))
weight-last (suc (suc (suc zero))) h = absurd (omega (arith, h))

-- one or none
abbrev long_one : ℕ → ℕ
long_one cells = if nat_le 5 cells then 1 else 0

record IsOne (cells one : ℕ) : Type 0 where
  most : one ≤ 1
  short : cells < 5 → one ≡ 0

one-is : (cells : ℕ) → IsOne cells (long_one cells)
one-is cells = go (cases_lt cells 5)
  where
    go : (cells < 5) ⊎ (5 ≤ cells) → IsOne cells (long_one cells)
    go (inl h) = record { most = grind (arith, h); short = λ l. grind (arith, h) }
    go (inr h) = record { most = grind (arith, h); short = λ l. absurd (omega (arith, h, l)) }

-- the run after run `offset` of a subframe is the next of it, or the first of the next
abbrev Follows : ℕ → ℕ → Type 0
Follows offset next = (next ≡ suc offset) ⊎ ((next ≡ 0) × (31 ≤ offset))

follows : {slots : List (List Bool)} {j sum cells i more others : ℕ} → EachSubframe slots → (a : IsInside slots j sum cells)
    → (b : IsInside slots i more others) → i ≡ j + 1 → more ≡ sum + cells → Follows a.offset b.offset
follows {slots} {j} {sum} {cells} {i} {more} {others} each a b e f =
    go (cases_lt (a.place + cells) 64) a.index b.index a.sum_is b.sum_is a.is.within b.is.within b.is.some
    (begins-apart slots each a.number (suc a.number) 1 (omega arith) (let d = a.within in omega (arith, d))).least
  where
    go : (a.place + cells < 64) ⊎ (64 ≤ a.place + cells) → j ≡ begin_of slots a.number + a.offset
        → i ≡ begin_of slots b.number + b.offset → sum ≡ 64 * a.number + a.place → more ≡ 64 * b.number + b.place
        → a.place + cells ≤ 64 → b.place + others ≤ 64 → 1 ≤ others
        → begin_of slots a.number + 32 * 1 ≤ begin_of slots (suc a.number) → Follows a.offset b.offset
    go (inl l) x y s t m n o r =
        let same : b.number ≡ a.number = omega (arith, e, f, l, s, t, n, o) in
        let g = ap (begin_of slots) same in
        inl (omega (arith, e, x, y, g))
    go (inr l) x y s t m n o r =
        let next : b.number ≡ suc a.number = omega (arith, e, f, l, s, t, m, n, o) in
        let none : b.place ≡ 0 = omega (arith, e, f, l, s, t, m, n, o) in
        let g = ap (begin_of slots) next in
        let z = b.is.begins none in
        inr (z, omega (arith, e, x, y, g, z, r))

-- one pair more
pair-more : (offset next first second : ℕ) → Follows offset next → first ≤ 3 → second ≤ 3
    → (next ≡ 2 → second ≡ 1) → (offset ≡ 2 → first ≡ 1) → (4 ≤ offset → first ≤ 2) → (4 ≤ next → second ≤ 2)
    → 10 * long_one (first + second) + weight next ≤ weight offset + 1
pair-more offset next first second (inr h) a b c d e f =
    let one = (one-is (first + second)).most in
    let w = weight-last offset h.1 in
    rw h.0 (omega (arith, one, w))
pair-more zero next first second (inl h) a b c d e f =
    let one = (one-is (first + second)).most in
    rw h (omega (arith, one))
pair-more (suc zero) next first second (inl h) a b c d e f =
    let two = c h in
    let one = (one-is (first + second)).short (omega (arith, a, two)) in
    rw h (omega (arith, one))
pair-more (suc (suc zero)) next first second (inl h) a b c d e f =
    let two = d refl in
    let one = (one-is (first + second)).short (omega (arith, b, two)) in
    rw h (omega (arith, one))
pair-more (suc (suc (suc zero))) next first second (inl h) a b c d e f =
    let one = (one-is (first + second)).most in
    rw h (omega (arith, one))
pair-more (suc (suc (suc (suc i)))) next first second (inl h) a b c d e f =
    let two = e (omega arith) in
    let three = f (omega (arith, h)) in
    let one = (one-is (first + second)).short (omega (arith, two, three)) in
    rw h (omega (arith, one))

pairs-none : (line : List ℕ) → long_pairs line 0 ≡ 0
unfolding long_pairs
pairs-none line = refl

pairs-next : (line : List ℕ) (i : ℕ) → long_pairs line (suc i) ≡ long_pairs line i + long_one (get_or line i 0 + get_or line (i + 1) 0)
unfolding long_pairs
pairs-next line i = refl

pair-step : {marks : ℕ → Mark} {slots : List (List Bool)} {k n : ℕ} {line : List ℕ} → IsWindow marks slots k n line
    → (i : ℕ) → (a : IsInside slots (k + i) (sum_to (runs_of marks slots) (k + i)) (get_or line i 0))
    → (b : IsInside slots (k + suc i) (sum_to (runs_of marks slots) (k + suc i)) (get_or line (suc i) 0)) → suc i < n
    → 10 * long_pairs line i + weight a.offset ≤ i + 41 → 10 * long_pairs line (suc i) + weight b.offset ≤ suc i + 41
pair-step {marks} {slots} {k} {n} {line} w i a b h before =
    let c = w.count in
    let e : i + 1 ≡ suc i = omega arith in
    let s = sum-next line i (omega (arith, h, c)) in
    let s2 = rw e at s in
    let t = w.sum i (omega (arith, h)) in
    let u = w.sum (suc i) (omega (arith, h)) in
    let follow = follows w.each a b (omega arith) (omega (arith, s2, t, u)) in
    let more = pair-more a.offset b.offset (get_or line i 0) (get_or line (suc i) 0) follow a.is.few b.is.few b.is.third a.is.third
    (λ x. (a.is.preamble x).0) (λ x. (b.is.preamble x).0) in
    let next = pairs-next line i in
    let next2 = rw e at next in
    omega (arith, before, more, next2)

pairs-most : {marks : ℕ → Mark} {slots : List (List Bool)} {k n : ℕ} {line : List ℕ} → (w : IsWindow marks slots k n line)
    → (i : ℕ) → (h : i < n) → 10 * long_pairs line i + weight (run-is w i h).offset ≤ i + 41
pairs-most {line = line} w zero h =
    let a = pairs-none line in
    let b = weight-most (run-is w 0 h).offset in
    omega (arith, a, b)
pairs-most {n = n} w (suc i) h =
    let l : i < n = omega (arith, h) in
    pair-step w i (run-is w i l) (run-is w (suc i) h) h (pairs-most w i l)

-- at most one pair in eight
pub few-long : {marks : ℕ → Mark} {slots : List (List Bool)} {k n : ℕ} {line : List ℕ} → IsWindow marks slots k n line
    → 256 ≤ n → long_pairs line 255 ≤ 32
few-long {n = n} w h =
    let l : 255 < n = omega (arith, h) in
    let a = pairs-most w 255 l in
    let b = weight-least (run-is w 255 l).offset in
    omega (arith, a, b)
