-- The cells counted of a capture, and those that are left of it.
use Rattle.std.proofs.Common.{ℕ, suc, List, [], ◌∷◌, ◌++◌, ◌≡◌, ◌<◌, ◌≤◌, ◌-◌, ◌*◌, ◌/◌, ◌+◌, sym, ◌∙◌, ap}
use Rattle.std.proofs.Common.{append_assoc, append-nil, arith, length, take, drop, get_or, set, add-one, drop-cons}
use Rattle.std.proofs.lemmas.List.{take_all, take_more_set}
use Rattle.std.proofs.Math.Seq.{drop-length}
use Rattle.aes3_capture.specs.declared.follower.Bounds.{Bounds}
use Rattle.aes3_capture.specs.declared.follower.Follower.{Follower}
use Rattle.aes3_capture.specs.Captures.{Captures, Spreads, SpreadsLate, IsBetween, IsRun, mean_with, margin, wander}
use Rattle.aes3_capture.specs.Following.{Follows, Counts}
use Rattle.aes3_capture.proofs.Mirror.{mean-between}

-- a follower has counted these cells of a capture, and these runs are left
pub record Left (f : Follower) (bounds : Bounds) (done counts runs : List ℕ) : Type 0 where
  pub same : ℕ
  pub other : ℕ
  pub displaced : ℕ
  pub rest : List ℕ
  pub follows : Follows f same other displaced 0 0
  pub captures : Captures bounds same other displaced rest runs
  pub whole : done ++ rest ≡ counts

pub counts-more : (old new : Follower) (bounds : Bounds) (done counts : List ℕ) (run : ℕ) (runs : List ℕ) (result : ℕ)
    → old.bounds ≡ bounds → Counts old run result new
    → (same other displaced : ℕ) (rest : List ℕ) → Follows old same other displaced 0 0
    → Captures bounds same other displaced rest (run ∷ runs) → done ++ rest ≡ counts
    → Left new bounds (done ++ result ∷ []) counts runs
counts-more old new bounds done counts run runs result is_bounds counted same other displaced [] follows captures whole
    = absurd captures
counts-more old new bounds done counts run runs result is_bounds counted same other displaced (n ∷ rest)
    follows captures whole =
    let is_run : IsRun old.bounds other displaced n (65536 * run) captures.0 = rw is_bounds captures.1 in
    let next = counted same other displaced n captures.0 follows is_run in
    record {
      same = mean_with other captures.0;
      other = same;
      displaced = captures.0;
      rest = rest;
      follows = next.1;
      captures = captures.2;
      whole = append_assoc done (result ∷ []) rest ∙ ap (λ k. done ++ k ∷ rest) next.0 ∙ whole;
    }

pub left-more : (old new : Follower) (bounds : Bounds) (done counts : List ℕ) (run : ℕ) (runs : List ℕ) (result : ℕ)
    → old.bounds ≡ bounds → Counts old run result new
    → Left old bounds done counts (run ∷ runs) → Left new bounds (done ++ result ∷ []) counts runs
left-more old new bounds done counts run runs result is_bounds counted left =
    counts-more old new bounds done counts run runs result is_bounds counted left.same left.other left.displaced
    left.rest left.follows left.captures left.whole

-- where no runs are left, all cells are counted
none-left : (bounds : Bounds) (same other displaced : ℕ) (done counts rest : List ℕ)
    → Captures bounds same other displaced rest [] → done ++ rest ≡ counts → done ≡ counts
none-left bounds same other displaced done counts [] captures whole = sym (append-nil done) ∙ whole
none-left bounds same other displaced done counts (n ∷ rest) captures whole = absurd captures

pub all-counted : (f : Follower) (bounds : Bounds) (done counts : List ℕ) → Left f bounds done counts [] → done ≡ counts
all-counted f bounds done counts left
    = none-left bounds left.same left.other left.displaced done counts left.rest left.captures left.whole

-- a mean of displacements within a spread lies within it
mean-below : (mean displaced spread : ℕ) → mean ≤ spread → displaced ≤ spread → mean_with mean displaced ≤ spread
mean-below mean displaced spread m d = omega arith

pub first-below : (bounds : Bounds) (spread displaced : ℕ) (counts runs : List ℕ)
    → Spreads bounds spread displaced counts runs → displaced ≤ spread
first-below bounds spread displaced [] [] s = s
first-below bounds spread displaced [] (run ∷ runs) s = absurd s
first-below bounds spread displaced (n ∷ counts) [] s = absurd s
first-below bounds spread displaced (n ∷ counts) (run ∷ runs) s = s.1

-- where no edge is displaced by more than half a cell less the margin, each is near the mean and the edge before
pub captures-spread : (bounds : Bounds) (spread same other displaced : ℕ) (counts runs : List ℕ)
    → spread < bounds.low / 2 - margin bounds → same ≤ spread → other ≤ spread
    → Spreads bounds spread displaced counts runs → Captures bounds same other displaced counts runs
captures-spread bounds spread same other displaced [] [] narrow s o spreads = tt
captures-spread bounds spread same other displaced [] (run ∷ runs) narrow s o spreads = absurd spreads
captures-spread bounds spread same other displaced (n ∷ counts) [] narrow s o spreads = absurd spreads
captures-spread bounds spread same other displaced (n ∷ counts) (run ∷ runs) narrow s o spreads =
    let next : spreads.0 ≤ spread = first-below bounds spread spreads.0 counts runs spreads.3 in
    let first : displaced ≤ spread = spreads.1 in (
      spreads.0,
      record {
        placed = spreads.2;
        mean_near = record { below = omega (arith, next, narrow); above = omega (arith, o, narrow) };
        before_near = record { below = omega (arith, next, narrow); above = omega (arith, first, narrow) };
      },
      captures-spread bounds spread (mean_with other spreads.0) same spreads.0 counts runs narrow
          (mean-below other spreads.0 spread o next) s spreads.3,
    )

-- where each direction has edges within a spread, each is near the mean and the edge before
pub captures-late : (bounds : Bounds) (spread late later same other displaced : ℕ) (counts runs : List ℕ)
    → spread < bounds.low / 2 - margin bounds
    → late + spread < later + (bounds.low - wander bounds) → later + spread < late + (bounds.low - wander bounds)
    → IsBetween late same spread → IsBetween later other spread
    → SpreadsLate bounds spread late later displaced counts runs → Captures bounds same other displaced counts runs
captures-late bounds spread late later same other displaced [] [] narrow above below s o spreads = tt
captures-late bounds spread late later same other displaced [] (run ∷ runs) narrow above below s o spreads
    = absurd spreads
captures-late bounds spread late later same other displaced (n ∷ counts) [] narrow above below s o spreads
    = absurd spreads
captures-late bounds spread late later same other displaced (n ∷ counts) (run ∷ runs) narrow above below s o spreads =
    let before : IsBetween late displaced spread = spreads.1 in
    let next : IsBetween later spreads.0 spread = spreads.2 in
    let o0 = o.least in
    let o1 = o.most in (
      spreads.0,
      record {
        placed = spreads.3;
        mean_near = record { below = omega (arith, next, o0, narrow); above = omega (arith, next, o1, narrow) };
        before_near = record { below = omega (arith, next, before, below); above = omega (arith, next, before, above) };
      },
      captures-late bounds spread later late (mean_with other spreads.0) same spreads.0 counts runs narrow below above
          (mean-between other spreads.0 later spread o next) s spreads.4,
    )

-- one turn of the loop, and its end
pub left-at : (old new : Follower) (bounds : Bounds) (cells counts runs : List ℕ) (i result : ℕ) → i < length runs
    → length cells ≡ length runs → old.bounds ≡ bounds
    → Counts old (get_or runs i 0) result new → Left old bounds (take i cells) counts (drop i runs)
    → Left new bounds (take (i + 1) (set cells i result)) counts (drop (i + 1) runs)
left-at old new bounds cells counts runs i result within room is_bounds counted left =
    let here : i < length cells = omega (arith, within, room) in
    let split : drop i runs ≡ get_or runs i 0 ∷ drop (suc i) runs = drop-cons runs i 0 within in
    let first : Left old bounds (take i cells) counts (get_or runs i 0 ∷ drop (suc i) runs) = rw split at left in
    rw (take_more_set cells i result here, add-one)
    (left-more old new bounds (take i cells) counts (get_or runs i 0) (drop (suc i) runs)
    result is_bounds counted first)

pub counted-all : (f : Follower) (bounds : Bounds) (cells counts runs : List ℕ) (i : ℕ) → length cells ≡ length runs
    → i ≡ length runs
    → Left f bounds (take i cells) counts (drop i runs) → cells ≡ counts
counted-all f bounds cells counts runs i room end left =
    let few : length cells ≤ i = omega (arith, room, end) in
    let none : drop i runs ≡ [] = rw end (drop-length runs) in
    let done : Left f bounds cells counts [] = rw none at (rw (take_all i cells few) at left) in
    all-counted f bounds cells counts done
