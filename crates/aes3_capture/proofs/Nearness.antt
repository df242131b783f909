-- An edge near its place, behind as many cells as were told of it.
use Rattle.std.proofs.Common.{ℕ, List, [], ◌∷◌, ◌++◌, length, take, get_or, set, zero, suc, Bool, true, false, ◌≡◌, ◌<◌, ◌≤◌, ◌+◌, ◌-◌, ◌*◌, ◌/◌, ◌⊎◌, inl, inr, refl, sym, arith}
use Rattle.std.specs.Prelude.{nat_le}
use Rattle.std.specs.List.{between}
use Rattle.std.proofs.lemmas.List.{take_more, take_more_set, take-append-drop, take-take}
use Rattle.std.proofs.lemmas.Slice.{between_is}
use Rattle.std.proofs.lemmas.Bool.{cases_lt, le-leb, lt-leb}
use Rattle.aes3_capture.specs.declared.follower.Follower.{Follower}
use Rattle.aes3_capture.specs.Following.{Counted, IsNear, Tracked, Turned, ends_cell, last_cell, middle_of, place_of}

-- what is compared of an edge: its place, against the time of the cells, and the follower behind it
pub record Compared (old : Follower) (samples cells place : ℕ) (new : Follower) : Type 0 where
  pub quiet : old.elapsed ≡ 0
  pub few : cells ≤ 3
  pub behind : cells * old.period ≤ 65536 * samples + old.bounds.low
  pub ahead : 65536 * samples < cells * old.period + old.bounds.low
  pub place_is : place + cells * old.period ≡ 65536 * samples + old.other
  pub from : old.bounds.low ≤ place
  pub below : place < 2 * old.bounds.low
  pub bounds_is : new.bounds ≡ old.bounds
  pub elapsed_is : new.elapsed ≡ 0
  pub same_is : new.same ≡ place - place / 16 + middle_of old.bounds / 16
  pub other_is : new.other + cells * old.period ≡ 65536 * samples + old.same
  pub period_is : new.period + middle_of old.bounds / 8192 ≡ old.period + place / 8192
  pub least : old.bounds.low ≤ new.period
  pub most : new.period ≤ old.bounds.high
  pub other_bound : new.other ≤ 3 * old.bounds.low

-- the time of one more cell
more-cells : (n period : ℕ) → suc n * period ≡ n * period + period
more-cells n period = grind arith

-- the follower behind the edge, from one at which the time of the cells but the last has passed
turned-so : (old at new : Follower) (samples cells place last : ℕ) (more : Bool) → Compared old samples cells place new
    → at.bounds ≡ old.bounds → at.period ≡ old.period → at.same ≡ old.same
    → more ≡ ends_cell at → last_cell at ≡ last → place_of at ≡ place
    → at.elapsed + cells * old.period ≡ 65536 * samples + last
    → Turned at more new
turned-so old at new samples cells place last more c bounds period same is_more is_last is_place time =
    let other = c.other_is in
    let other_most = c.other_bound in
    let moved = c.period_is in
    let least = c.least in
    let most = c.most in
    let from = c.from in
    record {
      more_is = is_more;
      bounds_is = rw bounds c.bounds_is;
      elapsed_is = c.elapsed_is;
      same_is = rw (is_place, bounds) c.same_is;
      other_is = rw (is_last, bounds) (omega (arith, other, other_most, same, time));
      period_is = rw (is_place, bounds) (omega (arith, moved, least, most, period));
    }

-- the follower when so much time has passed since its latest cell
abbrev with-left : (old : Follower) (left : ℕ) → left < old.period → Follower
with-left old left told = record {
  bounds = old.bounds;
  period = old.period;
  elapsed = left;
  same = old.same;
  other = old.other;
  longest = old.longest;
  shortest = old.shortest;
  told = told;
  same_bound = old.same_bound;
  other_bound = old.other_bound;
}

-- Where the time is that of the cells or more, all of them pass before the edge.
all-pass : (old new : Follower) (samples cells place : ℕ) → Compared old samples cells place new
    → cells * old.period ≤ 65536 * samples → Counted old samples cells new
all-pass old new samples cells place c long =
    let shortest = old.shortest in
    let ahead = c.ahead in
    let is = c.place_is in
    let below = c.below in
    let quiet = c.quiet in
    let left : ℕ = 65536 * samples - cells * old.period in
    let at : Follower = with-left old left (omega (arith, ahead, shortest, long)) in
    let none : nat_le (old.period + old.bounds.low) (left + old.other) ≡ false
    = lt-leb (old.period + old.bounds.low) (left + old.other) (omega (arith, is, below, shortest, long)) in
    let last : last_cell at ≡ 0 = rw none refl in
    record {
      told = cells;
      more = false;
      at = at;
      passed = record {
        bounds_is = refl;
        period_is = refl;
        same_is = refl;
        other_is = refl;
        time = omega (arith, quiet, long);
      };
      turned = turned-so old at new samples cells place 0 false c refl refl refl (sym none) last
          (omega (arith, last, is, long)) (omega (arith, long));
      sum = omega arith;
    }

-- Where it is less, the last of them ends at the edge.
one-left : (old new : Follower) (samples cells place : ℕ) → Compared old samples cells place new
    → 65536 * samples < cells * old.period → Counted old samples cells new
one-left old new samples zero place c short = absurd (omega (arith, short))
one-left old new samples (suc n) place c short =
    let shortest = old.shortest in
    let behind = c.behind in
    let is = c.place_is in
    let from = c.from in
    let quiet = c.quiet in
    let product : suc n * old.period ≡ n * old.period + old.period = more-cells n old.period in
    let left : ℕ = 65536 * samples - n * old.period in
    let at : Follower = with-left old left (omega (arith, short, product)) in
    let one : nat_le (old.period + old.bounds.low) (left + old.other) ≡ true
    = le-leb (old.period + old.bounds.low) (left + old.other) (omega (arith, is, from, shortest, behind, product)) in
    let last : last_cell at ≡ old.period = rw one refl in
    record {
      told = n;
      more = true;
      at = at;
      passed = record {
        bounds_is = refl;
        period_is = refl;
        same_is = refl;
        other_is = refl;
        time = omega (arith, quiet, behind, shortest, product);
      };
      turned = turned-so old at new samples (suc n) place old.period true c refl refl refl (sym one) last
          (omega (arith, last, is, from, shortest, behind, product)) (omega (arith, product, behind, shortest));
      sum = omega arith;
    }

-- such an edge is counted as any other
pub counted-near : (old new : Follower) (samples cells place : ℕ) → Compared old samples cells place new
    → Counted old samples cells new
counted-near old new samples cells place c = by (cases_lt (65536 * samples) (cells * old.period))
  where
    by : (65536 * samples < cells * old.period) ⊎ (cells * old.period ≤ 65536 * samples)
        → Counted old samples cells new
    by (inl short) = one-left old new samples cells place c short
    by (inr long) = all-pass old new samples cells place c long

-- one more run of those that were tracked
tracked-one : (old at new : Follower) (run n place : ℕ) → old ≡ at → IsNear at run n new → new.same ≡ place
    → Tracked old (run ∷ []) (n ∷ []) (place ∷ []) new
tracked-one old at new run n place same near is_place = (new, rw same near, is_place, refl)

pub tracked-more : (runs cells places : List ℕ) (old at new : Follower) (run n place : ℕ)
    → Tracked old runs cells places at → IsNear at run n new → new.same ≡ place
    → Tracked old (runs ++ run ∷ []) (cells ++ n ∷ []) (places ++ place ∷ []) new
tracked-more [] [] [] old at new run n place tracked near is_place
    = tracked-one old at new run n place (sym tracked) near is_place
tracked-more [] [] (q ∷ places) old at new run n place tracked near is_place = absurd tracked
tracked-more [] (m ∷ cells) places old at new run n place tracked near is_place = absurd tracked
tracked-more (r ∷ runs) [] places old at new run n place tracked near is_place = absurd tracked
tracked-more (r ∷ runs) (m ∷ cells) [] old at new run n place tracked near is_place = absurd tracked
tracked-more (r ∷ runs) (m ∷ cells) (q ∷ places) old at new run n place tracked near is_place = (
  tracked.0,
  tracked.1,
  tracked.2,
  tracked-more runs cells places tracked.0 at new run n place tracked.3 near is_place,
)

-- some more of them
pub tracked-append : (runs cells places more many most : List ℕ) (old at new : Follower)
    → Tracked old runs cells places at → Tracked at more many most new
    → Tracked old (runs ++ more) (cells ++ many) (places ++ most) new
tracked-append [] [] [] more many most old at new tracked rest = rw (sym tracked) rest
tracked-append [] [] (q ∷ places) more many most old at new tracked rest = absurd tracked
tracked-append [] (m ∷ cells) places more many most old at new tracked rest = absurd tracked
tracked-append (r ∷ runs) [] places more many most old at new tracked rest = absurd tracked
tracked-append (r ∷ runs) (m ∷ cells) [] more many most old at new tracked rest = absurd tracked
tracked-append (r ∷ runs) (m ∷ cells) (q ∷ places) more many most old at new tracked rest = (
  tracked.0,
  tracked.1,
  tracked.2,
  tracked-append runs cells places more many most tracked.0 at new tracked.3 rest,
)

-- a list up to a place behind another
pub take-on : (xs : List ℕ) (i j : ℕ) → i ≤ j → take j xs ≡ take i xs ++ between i j xs
take-on xs i j ordered = rw (between_is xs i j, sym (take-take i j xs ordered)) (sym (take-append-drop i (take j xs)))

-- the next of the runs, once it is tracked
pub tracked-at : (runs cells places : List ℕ) (old at new : Follower) (i place : ℕ) → i < length runs → i < length cells
    → i < length places → Tracked old (take i runs) (take i cells) (take i places) at
    → IsNear at (get_or runs i 0) (get_or cells i 0) new → new.same ≡ place
    → Tracked old (take (i + 1) runs) (take (i + 1) cells) (take (i + 1) (set places i place)) new
tracked-at runs cells places old at new i place a b c tracked near is =
    rw (take_more runs i 0 a, take_more cells i 0 b, take_more_set places i place c)
    (tracked-more (take i runs) (take i cells) (take i places) old at new (get_or runs i 0) (get_or cells i 0) place
    tracked near is)
