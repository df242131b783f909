-- What a step in 32 bits comes to where its numbers are bounded: it is the follower's own.
use Rattle.std.proofs.Common.{ℕ, List, zero, suc, length, take, drop, get_or, ◌≡◌, ◌<◌, ◌≤◌, ◌+◌, ◌-◌, ◌*◌, ◌/◌, ◌%◌, ◌^◌, refl, sym, arith}
use Rattle.std.proofs.lemmas.List.{take_more, take_all, get_or-drop, length-drop}
use Rattle.aes3_capture.specs.declared.follower.Bounds.{Bounds}
use Rattle.aes3_capture.specs.declared.follower.Follower.{Follower}
use Rattle.aes3_capture.specs.Following.{IsNear, Tracked, middle_of}
use Rattle.aes3_capture.specs.Leaps.{IsBounded, IsStep}
use Rattle.aes3_capture.proofs.Nearness.{counted-near, tracked-more}

times-most : (n p : ℕ) → n ≤ 3 → n * p ≤ 3 * p
times-most n p few = grind (arith, few)

-- A step that is right: its place and the numbers behind it, without a remainder.
pub record IsRight (low high run time same other period place s o p : ℕ) : Type 0 where
  pub behind : time ≤ 65536 * run + low
  pub ahead : 65536 * run < time + low
  pub place_is : place + time ≡ 65536 * run + other
  pub from : low ≤ place
  pub below : place < 2 * low
  pub same_is : s ≡ place - place / 16 + (low + low / 2) / 16
  pub other_is : o + time ≡ 65536 * run + same
  pub period_is : p + (low + low / 2) / 8192 ≡ period + place / 8192
  pub least : low ≤ p
  pub most : p ≤ high
  pub together : (s - o) + (o - s) ≤ low / 2
  pub other_bound : o ≤ 3 * low

pub right-step : (low high run n time same other period place s o p : ℕ) → time ≡ n * period
    → 131072 ≤ low → low ≤ high → high ≤ 2 ^ 26 → period ≤ high → low ≤ period → same ≤ 3 * low → other ≤ 3 * low
    → IsStep (low + low / 2) run n same other period place s o p
    → IsBounded low run n other place s o p 8191 3 (low - 1) (2 * low - 1) (2 * (low / 2)) (high - low)
    → IsRight low high run time same other period place s o p
right-step low high run n time same other period place s o p product least ordered short longest shortest same_bound other_bound step bounded =
    let few : time ≤ 3 * period = rw product (times-most n period bounded.cells_is) in
    let is : place ≡ ((run * 65536 % 2 ^ 32 + other) % 2 ^ 32 + (2 ^ 32 - time % 2 ^ 32)) % 2 ^ 32
    = rw product step.place_is in
    let from : low ≤ place = omega (arith, bounded, is, least, short, ordered) in
    let below : place < 2 * low = omega (arith, bounded, is, least, short, ordered) in
    let exact : place + time ≡ 65536 * run + other = omega (arith, is, from, below, bounded, few, other_bound, short, ordered, longest) in
    let behind : time ≤ 65536 * run + low = omega (arith, exact, bounded, from, below, other_bound, short, ordered, least) in
    let ahead : 65536 * run < time + low = omega (arith, exact, bounded, from, below, other_bound, short, ordered, least) in
    let same_is : s ≡ place - place / 16 + (low + low / 2) / 16 = omega (arith, step, below, short, ordered) in
    let other_is : o + time ≡ 65536 * run + same
    = omega (arith, exact, behind, ahead, step, same_is, from, below, bounded, same_bound, other_bound, short, ordered, least) in
    let last_least : low ≤ p = omega (arith, bounded, step, least, short, ordered) in
    let last_most : p ≤ high = omega (arith, bounded, last_least, short, ordered) in
    record {
      behind = behind;
      ahead = ahead;
      place_is = exact;
      from = from;
      below = below;
      same_is = same_is;
      other_is = other_is;
      period_is = omega (arith, step, last_least, last_most, below, longest, shortest, least, short, ordered);
      least = last_least;
      most = last_most;
      together = omega (arith, bounded, same_is, other_is, behind, ahead, from, below, same_bound, other_bound, short, ordered, least);
      other_bound = omega (arith, bounded, same_is, other_is, behind, ahead, from, below, same_bound, other_bound, short, ordered, least);
    }

-- such a step is that of the follower, whatever follower has these numbers behind it
near-step : (at new : Follower) (run n place s o p : ℕ) → at.elapsed ≡ 0 → n ≤ 3
    → IsRight at.bounds.low at.bounds.high run (n * at.period) at.same at.other at.period place s o p
    → new.bounds ≡ at.bounds → new.elapsed ≡ 0 → new.same ≡ s → new.other ≡ o → new.period ≡ p → IsNear at run n new
near-step at new run n place s o p quiet few right bounds_is elapsed_is same_is other_is period_is = record {
  counted = counted-near at new run n place (record {
    quiet = quiet;
    few = few;
    behind = right.behind;
    ahead = right.ahead;
    place_is = right.place_is;
    from = right.from;
    below = right.below;
    bounds_is = bounds_is;
    elapsed_is = elapsed_is;
    same_is = rw same_is right.same_is;
    other_is = rw other_is right.other_is;
    period_is = rw period_is right.period_is;
    least = rw period_is right.least;
    most = rw period_is right.most;
    other_bound = rw other_is right.other_bound;
  });
  few = few;
  bounds_is = bounds_is;
  together = rw (same_is, other_is, bounds_is) right.together;
}

-- The follower that a leap has come to behind so many edges.
pub record Reached (old : Follower) (runs cells sames others periods : List ℕ) (k : ℕ) : Type 0 where
  pub at : Follower
  pub tracked : Tracked old (take k runs) (take k cells) (take k (drop 1 sames)) at
  pub bounds_is : at.bounds ≡ old.bounds
  pub elapsed_is : at.elapsed ≡ 0
  pub same_is : at.same ≡ get_or sames k 0
  pub other_is : at.other ≡ get_or others k 0
  pub period_is : at.period ≡ get_or periods k 0

-- What a leap has made of each run, where its numbers are bounded.
pub record IsLeap (old : Follower) (runs cells places sames others periods : List ℕ) : Type 0 where
  pub runs_long : length runs ≡ 16
  pub cells_long : length cells ≡ 16
  pub sames_long : length sames ≡ 17
  pub quiet : old.elapsed ≡ 0
  pub short : old.bounds.high ≤ 2 ^ 26
  pub same_begins : get_or sames 0 0 ≡ old.same
  pub other_begins : get_or others 0 0 ≡ old.other
  pub period_begins : get_or periods 0 0 ≡ old.period
  pub steps : (i : ℕ) → i < 16 → IsStep (middle_of old.bounds) (get_or runs i 0) (get_or cells i 0)
      (get_or sames i 0) (get_or others i 0) (get_or periods i 0) (get_or places i 0)
      (get_or sames (i + 1) 0) (get_or others (i + 1) 0) (get_or periods (i + 1) 0)
  pub bounded : (i : ℕ) → i < 16 → IsBounded old.bounds.low (get_or runs i 0) (get_or cells i 0)
      (get_or others i 0) (get_or places i 0) (get_or sames (i + 1) 0) (get_or others (i + 1) 0) (get_or periods (i + 1) 0)
      8191 3 (old.bounds.low - 1) (2 * old.bounds.low - 1) (2 * (old.bounds.low / 2)) (old.bounds.high - old.bounds.low)

-- the step from where it has come to
right-from : (old : Follower) (runs cells places sames others periods : List ℕ) (k : ℕ) → k < 16
    → IsLeap old runs cells places sames others periods → (r : Reached old runs cells sames others periods k)
    → IsRight r.at.bounds.low r.at.bounds.high (get_or runs k 0) (get_or cells k 0 * r.at.period)
    r.at.same r.at.other r.at.period (get_or places k 0)
    (get_or sames (k + 1) 0) (get_or others (k + 1) 0) (get_or periods (k + 1) 0)
right-from old runs cells places sames others periods k few leap r = right-step r.at.bounds.low r.at.bounds.high
    (get_or runs k 0) (get_or cells k 0) (get_or cells k 0 * r.at.period) r.at.same r.at.other r.at.period (get_or places k 0)
    (get_or sames (k + 1) 0) (get_or others (k + 1) 0) (get_or periods (k + 1) 0) refl
    r.at.bounds.least r.at.bounds.ordered (rw r.bounds_is leap.short) r.at.longest r.at.shortest r.at.same_bound r.at.other_bound
    (rw (r.bounds_is, r.same_is, r.other_is, r.period_is) (leap.steps k few))
    (rw (r.bounds_is, r.other_is) (leap.bounded k few))

again : (list : List ℕ) (i j : ℕ) → i ≡ j → get_or list i 0 ≡ get_or list j 0
again list i j same = rw same refl

next-near : (old new : Follower) (runs cells places sames others periods : List ℕ) (k : ℕ) → k < 16
    → IsLeap old runs cells places sames others periods → (r : Reached old runs cells sames others periods k)
    → new.bounds ≡ old.bounds → new.elapsed ≡ 0 → new.same ≡ get_or sames (k + 1) 0 → new.other ≡ get_or others (k + 1) 0
    → new.period ≡ get_or periods (k + 1) 0
    → Tracked old (take (k + 1) runs) (take (k + 1) cells) (take (k + 1) (drop 1 sames)) new
next-near old new runs cells places sames others periods k few leap r bounds_is elapsed_is same_is other_is period_is =
    let place : get_or (drop 1 sames) k 0 ≡ get_or sames (k + 1) 0 = rw (get_or-drop 1 sames k 0) (again sames (1 + k) (k + 1) (omega arith)) in
    let long : length (drop 1 sames) ≡ 16 = rw (length-drop 1 sames) (omega (arith, leap)) in
    rw (
      take_more runs k 0 (omega (arith, few, leap)),
      take_more cells k 0 (omega (arith, few, leap)),
      take_more (drop 1 sames) k 0 (omega (arith, few, long)),
      place,
    ) (tracked-more (take k runs) (take k cells) (take k (drop 1 sames)) old r.at new (get_or runs k 0) (get_or cells k 0)
    (get_or sames (k + 1) 0) r.tracked (near-step r.at new (get_or runs k 0) (get_or cells k 0) (get_or places k 0)
    (get_or sames (k + 1) 0) (get_or others (k + 1) 0) (get_or periods (k + 1) 0) r.elapsed_is (leap.bounded k few).cells_is
    (right-from old runs cells places sames others periods k few leap r) (rw r.bounds_is bounds_is) elapsed_is
    same_is other_is period_is) same_is)

-- one edge more
reached-more : (old : Follower) (runs cells places sames others periods : List ℕ) (k : ℕ) → k < 16
    → IsLeap old runs cells places sames others periods → Reached old runs cells sames others periods k
    → Reached old runs cells sames others periods (k + 1)
reached-more old runs cells places sames others periods k few leap r =
    let right = right-from old runs cells places sames others periods k few leap r in
    let shortest = right.least in
    let low_least = r.at.bounds.least in
    let new : Follower = record {
      bounds = r.at.bounds;
      period = get_or periods (k + 1) 0;
      elapsed = 0;
      same = get_or sames (k + 1) 0;
      other = get_or others (k + 1) 0;
      longest = right.most;
      shortest = shortest;
      told = omega (arith, shortest, low_least);
      same_bound = omega (arith, right);
      other_bound = right.other_bound;
    } in
    record {
      at = new;
      tracked = next-near old new runs cells places sames others periods k few leap r r.bounds_is refl refl refl refl;
      bounds_is = r.bounds_is;
      elapsed_is = refl;
      same_is = refl;
      other_is = refl;
      period_is = refl;
    }

next : (k : ℕ) → suc k ≡ k + 1
next k = omega arith

-- It comes there.
pub reached : (old : Follower) (runs cells places sames others periods : List ℕ) (k : ℕ) → k < 16
    → IsLeap old runs cells places sames others periods → Reached old runs cells sames others periods k
reached old runs cells places sames others periods zero few leap = record {
  at = old;
  tracked = refl;
  bounds_is = refl;
  elapsed_is = leap.quiet;
  same_is = sym leap.same_begins;
  other_is = sym leap.other_begins;
  period_is = sym leap.period_begins;
}
reached old runs cells places sames others periods (suc k) few leap =
    rw (next k) (reached-more old runs cells places sames others periods k (omega (arith, few)) leap
    (reached old runs cells places sames others periods k (omega (arith, few)) leap))

-- The numbers of the follower behind its last edge are those of a follower.
pub record EndsWithin (bounds : Bounds) (same other period : ℕ) : Type 0 where
  pub longest : period ≤ bounds.high
  pub shortest : bounds.low ≤ period
  pub same_bound : same ≤ 3 * bounds.low
  pub other_bound : other ≤ 3 * bounds.low

pub ends-within : (old : Follower) (runs cells places sames others periods : List ℕ)
    → IsLeap old runs cells places sames others periods
    → EndsWithin old.bounds (get_or sames 16 0) (get_or others 16 0) (get_or periods 16 0)
ends-within old runs cells places sames others periods leap = by (reached-more old runs cells places sames others periods 15
    (omega arith) leap (reached old runs cells places sames others periods 15 (omega arith) leap))
  where
    by : Reached old runs cells sames others periods 16
        → EndsWithin old.bounds (get_or sames 16 0) (get_or others 16 0) (get_or periods 16 0)
    by r = record {
      longest = rw (sym r.period_is, sym r.bounds_is) r.at.longest;
      shortest = rw (sym r.period_is, sym r.bounds_is) r.at.shortest;
      same_bound = rw (sym r.same_is, sym r.bounds_is) r.at.same_bound;
      other_bound = rw (sym r.other_is, sym r.bounds_is) r.at.other_bound;
    }

-- A leap that is right: the follower with its last numbers is the one behind all of its edges.
pub leapt : (old new : Follower) (runs cells places sames others periods : List ℕ)
    → IsLeap old runs cells places sames others periods → new.bounds ≡ old.bounds → new.elapsed ≡ 0
    → new.same ≡ get_or sames 16 0 → new.other ≡ get_or others 16 0 → new.period ≡ get_or periods 16 0
    → Tracked old runs cells (drop 1 sames) new
leapt old new runs cells places sames others periods leap bounds_is elapsed_is same_is other_is period_is =
    let long : length (drop 1 sames) ≡ 16 = rw (length-drop 1 sames) (omega (arith, leap)) in
    rw (
      sym (take_all 16 runs (omega (arith, leap))),
      sym (take_all 16 cells (omega (arith, leap))),
      sym (take_all 16 (drop 1 sames) (omega (arith, long))),
    ) (next-near old new runs cells places sames others periods 15 (omega arith) leap
    (reached old runs cells places sames others periods 15 (omega arith) leap) bounds_is elapsed_is same_is other_is period_is)
