-- A line whose edges lie near their places stays followed, edge by edge.
use Rattle.std.proofs.Common.{ℕ, List, [], ◌∷◌, ◌≡◌, ◌<◌, ◌≤◌, ◌+◌, ◌-◌, ◌*◌, ◌/◌, inl, inr, arith, max, min, zero-add, ◌∙◌, sym, subst}
use Rattle.std.proofs.Math.Nat.{mul-le-mul_left, mul-le-mul_right}
use Rattle.std.proofs.lemmas.Bool.{cases_lt}
use Rattle.aes3_capture.specs.declared.follower.Bounds.{Bounds}
use Rattle.aes3_capture.specs.declared.follower.Follower.{Follower}
use Rattle.aes3_capture.specs.Captures.{IsBetween, IsPlaced, IsRun, SpreadsLate, mean_with}
use Rattle.aes3_capture.specs.Directions.{IsBorne, IsWider}
use Rattle.aes3_capture.specs.Following.{Counted, Follows, last_cell, middle_of}
use Rattle.aes3_capture.proofs.Edges.{decided, on-grids}
use Rattle.aes3_capture.proofs.Mirror.{placed-wider, mean-between}
use Rattle.aes3_capture.proofs.Steps.{longest-cells, place-moves}
use Rattle.aes3_capture.proofs.Whole.{counted-counts, passed-passes, last-late, last-early}
use Rattle.aes3_capture_recovery.specs.Keeping.{AreNear, IsCalm, IsKeepable, IsKept, drift, off_middle}
use Rattle.aes3_capture_recovery.specs.RecoverySteps.{apart_of, distance_of}

-- the cells of a run at a follower's period and at the line's own lengths
cells-near : (n low high least most period step : ℕ) → n ≤ 3 → low ≤ period → period ≤ high → step ≤ n * most → n * least ≤ step
    → (step ≤ n * period + 3 * max (high - least) (most - low)) × (n * period ≤ step + 3 * max (high - least) (most - low))
cells-near n low high least most period step few shortest longest top bottom =
    let a : n * most ≤ n * (low + (most - low)) = mul-le-mul_left n (omega arith) in
    let b : n * (low + (most - low)) ≤ n * low + 3 * (most - low) = longest-cells n low (most - low) few in
    let c : n * low ≤ n * period = mul-le-mul_left n shortest in
    let d : n * period ≤ n * (least + (high - least)) = mul-le-mul_left n (omega (arith, longest)) in
    let e : n * (least + (high - least)) ≤ n * least + 3 * (high - least) = longest-cells n least (high - least) few in
    (omega (arith, a, b, c, top), omega (arith, d, e, bottom))

-- a grid that goes a sixteenth of the way to an edge, and the mean that goes with it
corrected : (drift displaced mean place middle far : ℕ)
    → place + mean ≤ middle + displaced + (32 * drift + 32 + far) → middle + displaced ≤ place + mean + (32 * drift + 32 + far)
    → (place - place / 16 + middle / 16 + (mean - mean / 16 + displaced / 16) ≤ middle + displaced + (30 * drift + 32 + (far - far / 16)))
    × (middle + displaced ≤ place - place / 16 + middle / 16 + (mean - mean / 16 + displaced / 16) + (30 * drift + 32 + (far - far / 16)))
corrected drift displaced mean place middle far most least = (omega arith, omega arith)

-- The grids behind an edge: the direction's own goes nearer to the line's, the other's stays as far from it as it was.
goes-near : (f g : Follower) (narrow : Bounds) (drift same other before run given cells displaced told near far : ℕ)
    → f.bounds.low ≤ f.period → f.period ≤ f.bounds.high
    → Follows f same other before run given → IsRun f.bounds other before cells run displaced
    → (placed : IsPlaced narrow before cells run displaced)
    → (placed.step ≤ cells * f.period + drift) × (cells * f.period ≤ placed.step + drift)
    → AreNear f drift same other before near far
    → f.elapsed + cells * f.period ≡ run + told
    → g.bounds ≡ f.bounds
    → g.same ≡ f.elapsed + f.other - told - (f.elapsed + f.other - told) / 16 + (f.bounds.low + f.bounds.low / 2) / 16
    → g.other ≡ min (f.elapsed + f.same - told) (3 * f.bounds.low)
    → AreNear g drift (mean_with other displaced) same displaced (far - far / 16) near
goes-near f g narrow drift same other before run given cells displaced told near far shortest longest follows is_run placed close
    places since bounds grid_is other_is =
    let grids = on-grids f same other before run given cells displaced shortest longest follows is_run in
    let place = grids.place in
    let apart = grids.apart in
    let at_is : f.elapsed + f.other - told + cells * f.period ≡ run + f.other = omega (arith, since, place.0) in
    let moved : (f.elapsed + f.other - told + other
    ≤ f.bounds.low + f.bounds.low / 2 + displaced + (31 * drift + 32 + far + drift))
    × (f.bounds.low + f.bounds.low / 2 + displaced ≤ f.elapsed + f.other - told + other + (31 * drift + 32 + far + drift)) =
    place-moves drift placed.step (cells * f.period) run before displaced other f.other (f.elapsed + f.other - told)
    (f.bounds.low + f.bounds.low / 2) (31 * drift + 32 + far)
    close.0 close.1 placed.between at_is places.other_place.below places.other_place.above in
    let nearer : ((f.elapsed + f.other - told) - (f.elapsed + f.other - told) / 16
    + (f.bounds.low + f.bounds.low / 2) / 16 + (other - other / 16 + displaced / 16)
    ≤ f.bounds.low + f.bounds.low / 2 + displaced + (30 * drift + 32 + (far - far / 16)))
    × (f.bounds.low + f.bounds.low / 2 + displaced
    ≤ (f.elapsed + f.other - told) - (f.elapsed + f.other - told) / 16 + (f.bounds.low + f.bounds.low / 2) / 16
    + (other - other / 16 + displaced / 16) + (30 * drift + 32 + (far - far / 16))) =
    corrected drift displaced other (f.elapsed + f.other - told) (f.bounds.low + f.bounds.low / 2) far
    (omega (arith, moved.0)) (omega (arith, moved.1)) in
    let stays : f.elapsed + f.same - told + cells * f.period ≡ run + f.same = omega (arith, since, apart.0) in
    let next_is : g.other + cells * f.period ≡ run + f.same = rw other_is (omega (arith, stays, apart.1)) in
    let drifted : (g.other + same ≤ f.bounds.low + f.bounds.low / 2 + displaced + (30 * drift + 32 + near + drift))
    × (f.bounds.low + f.bounds.low / 2 + displaced ≤ g.other + same + (30 * drift + 32 + near + drift)) =
    place-moves drift placed.step (cells * f.period) run before displaced same f.same g.other
    (f.bounds.low + f.bounds.low / 2) (30 * drift + 32 + near)
    close.0 close.1 placed.between next_is places.same_place.below places.same_place.above in
    record {
      same_place = rw (bounds, grid_is) (record { below = nearer.0; above = nearer.1 });
      other_place = rw bounds (record { below = omega (arith, drifted.0); above = omega (arith, drifted.1) });
    }

-- the same of a run that is counted
counted-near : (old new : Follower) (narrow : Bounds) (drift same other before run n cells displaced near far : ℕ)
    → Counted old run n new → Follows old same other before 0 0 → IsRun old.bounds other before cells (65536 * run) displaced
    → (placed : IsPlaced narrow before cells (65536 * run) displaced)
    → (placed.step ≤ cells * old.period + drift) × (cells * old.period ≤ placed.step + drift)
    → AreNear old drift same other before near far
    → AreNear new drift (mean_with other displaced) same displaced (far - far / 16) near
counted-near old new narrow drift same other before run n cells displaced near far c follows is_run placed close places =
    let at : Follower = c.at in
    let start : Follows at same other before (0 + 65536 * run) (0 + c.told)
    = passed-passes old at run c.told c.passed same other before 0 0 follows in
    let at_follows : Follows at same other before (65536 * run) c.told = rw zero-add at (rw zero-add at start) in
    let at_run : IsRun at.bounds other before cells (65536 * run) displaced = rw c.passed.bounds_is is_run in
    let at_places : AreNear at drift same other before near far = record {
      same_place = rw (c.passed.same_is, c.passed.bounds_is) places.same_place;
      other_place = rw (c.passed.other_is, c.passed.bounds_is) places.other_place;
    } in
    let at_close : (placed.step ≤ cells * at.period + drift) × (cells * at.period ≤ placed.step + drift)
    = rw c.passed.period_is close in
    elim (decided at same other before (65536 * run) c.told cells displaced at.shortest at.longest at.told at_follows at_run) [
      | inl d ↦
          let none : last_cell at ≡ 0 = last-early (at.period + at.bounds.low) (at.elapsed + at.other) at.period d.early in
          goes-near at new narrow drift same other before (65536 * run) c.told cells displaced (last_cell at) near far
          at.shortest at.longest at_follows at_run placed at_close at_places (omega (arith, d.since, none))
          c.turned.bounds_is c.turned.same_is c.turned.other_is
      | inr d ↦
          let one : last_cell at ≡ at.period
          = last-late (at.period + at.bounds.low) (at.elapsed + at.other) at.period d.late in
          goes-near at new narrow drift same other before (65536 * run) c.told cells displaced (last_cell at) near far
          at.shortest at.longest at_follows at_run placed at_close at_places (omega (arith, d.since, one))
          c.turned.bounds_is c.turned.same_is c.turned.other_is
    ]

-- How far the edge is from the mean with it: two thirds of the spread, but for what the mean's way to the middle pays.
mean-costs : (late spread mean displaced : ℕ) → IsBetween late mean spread → IsBetween late displaced spread
    → 16 * ((displaced - mean_with mean displaced) + (mean_with mean displaced - displaced))
    + 40 * off_middle late spread (mean_with mean displaced)
    ≤ 40 * off_middle late spread mean + 10 * spread + 90
mean-costs late spread mean displaced m d =
    omega (arith, m, d)

pub off-most : (late spread place : ℕ) → IsBetween late place spread → off_middle late spread place ≤ spread
off-most late spread place b = omega (arith, b)

distance-most : (a : ℕ) → 3840 * (a / 256 + a / 256 / 15) ≤ 16 * a
distance-most a = omega arith

-- how far an edge is from its place on the grid, by how far it is from the mean
place-most : (drift same mean middle displaced slack : ℕ) → same + mean ≤ middle + displaced + (30 * drift + 32 + slack)
    → middle + displaced ≤ same + mean + (30 * drift + 32 + slack)
    → (same - middle) + (middle - same) ≤ (displaced - mean) + (mean - displaced) + (30 * drift + 32 + slack)
place-most drift same mean middle displaced slack below above = omega arith

-- The mean distance behind one more edge: it stays below a bound that is more than what each edge adds in the mean.
distance-stays : (distance next edge first second second' spread drift most near far bound : ℕ)
    → 3840 * edge + 40 * second' + 240 * (far - far / 16) ≤ 40 * second + 240 * far + 10 * spread + 480 * drift + 842
    → first ≤ spread → second ≤ spread → near ≤ most → far ≤ most
    → 11 * spread + 512 * drift + 2 * most + 5000 ≤ 16 * bound
    → next ≤ distance - distance / 256 + edge
    → 96 * distance + first + second + 6 * (near + far) ≤ 96 * bound
    → 96 * next + second' + first + 6 * ((far - far / 16) + near) ≤ 96 * bound
distance-stays distance next edge first second second' spread drift most near far bound costs f s n r room is small =
    elim (cases_lt (3840 * (distance / 256)) (10 * spread + 480 * drift + 842)) [
      | inl less ↦ omega arith
      | inr more ↦ omega arith
    ]

edge-costs : (edge apart way second second' spread drift far : ℕ) → 3840 * edge ≤ 16 * way
    → way ≤ apart + (30 * drift + 32 + (far - far / 16)) → 16 * apart + 40 * second' ≤ 40 * second + 10 * spread + 90
    → 3840 * edge + 40 * second' + 240 * (far - far / 16) ≤ 40 * second + 240 * far + 10 * spread + 480 * drift + 842
edge-costs edge apart way second second' spread drift far a b c = omega arith

-- the bounds in which a line can be kept are within those in which its cells are counted
keepable-borne : (bounds narrow : Bounds) (spread late later most : ℕ) → IsKeepable bounds narrow spread late later most
    → IsBorne bounds spread late later
keepable-borne bounds narrow spread late later most k =
    let ordered = narrow.ordered in
    record {
      narrow = omega (arith, k, ordered);
      above = omega (arith, k, ordered);
      below = omega (arith, k, ordered);
    }

-- what the watch over a line asks of its latest edge
pub record IsUnsuspected (f : Follower) (distance : ℕ) : Type 0 where
  pub near : distance ≤ f.period / 5
  pub together : apart_of f ≤ f.bounds.low / 2

pub record KeptNext (g : Follower) (next : ℕ) (narrow : Bounds) (spread : ℕ) (ahead : List ℕ) : Type 0 where
  pub kept : IsKept g next narrow spread ahead
  pub fine : IsUnsuspected g next

-- the latest edge of a line that is kept is where the watch expects it
calm-fine : (f : Follower) (distance : ℕ) (narrow : Bounds) (spread late later most displaced : ℕ)
    → IsCalm f distance narrow spread late later most displaced → IsUnsuspected f distance
calm-fine f distance narrow spread late later most displaced calm =
    let shortest = f.shortest in
    record {
      near = omega (arith, calm, shortest);
      together = omega (arith, calm.keepable, calm.places, calm.first_side, calm.second_side, calm);
    }

-- An edge behind a run that is counted: its direction's mean goes with it, and the grids are near the line's.
pub record IsNext (g : Follower) (spread later drift displaced first mean near far : ℕ) : Type 0 where
  pub follows : Follows g mean first displaced 0 0
  pub side : IsBetween later mean spread
  pub places : AreNear g drift mean first displaced near far

pub edge-next : (f g : Follower) (narrow : Bounds) (spread later first second before run n m displaced near far : ℕ)
    → Counted f run n g → Follows f first second before 0 0 → IsBetween later second spread → IsBetween later displaced spread
    → IsPlaced narrow before m (65536 * run) displaced → IsRun f.bounds second before m (65536 * run) displaced
    → AreNear f (drift f.bounds narrow) first second before near far
    → IsNext g spread later (drift f.bounds narrow) displaced first (mean_with second displaced) (far - far / 16) near
edge-next f g narrow spread later first second before run n m displaced near far counted follows second_side side placed is_run places =
    let count = counted-counts f g run n counted first second before m displaced follows is_run in
    let close = cells-near m f.bounds.low f.bounds.high narrow.low narrow.high f.period placed.step placed.few f.shortest f.longest
    placed.longest placed.shortest in
    record {
      follows = count.1;
      side = mean-between second displaced later spread second_side side;
      places = counted-near f g narrow (drift f.bounds narrow) first second before run n m displaced near far counted follows
          is_run placed close places;
    }

-- one run that is counted, of a line that is kept
calm-next : (f g : Follower) (distance next : ℕ) (narrow : Bounds) (spread late later most before run n m : ℕ)
    → Counted f run n g → next ≤ distance - distance / 256 + distance_of g
    → (calm : IsCalm f distance narrow spread late later most before)
    → (displaced : ℕ) → IsBetween later displaced spread → IsPlaced narrow before m (65536 * run) displaced
    → IsRun f.bounds calm.second before m (65536 * run) displaced
    → IsCalm g next narrow spread later late most displaced
calm-next f g distance next narrow spread late later most before run n m counted is calm displaced side placed is_run =
    let bounds : g.bounds ≡ f.bounds = counted.turned.bounds_is ∙ counted.passed.bounds_is in
    let d : ℕ = drift f.bounds narrow in
    let mean : ℕ = mean_with calm.second displaced in
    let edge = edge-next f g narrow spread later calm.first calm.second before run n m displaced calm.near calm.far counted
    calm.follows calm.second_side side placed is_run calm.places in
    let way = place-most d g.same mean (middle_of g.bounds) displaced (calm.far - calm.far / 16) edge.places.same_place.below
    edge.places.same_place.above in
    let costs = edge-costs (distance_of g) ((displaced - mean) + (mean - displaced))
    ((g.same - middle_of g.bounds) + (middle_of g.bounds - g.same)) (off_middle later spread calm.second)
    (off_middle later spread mean) spread d calm.far
    (distance-most ((g.same - middle_of g.bounds) + (middle_of g.bounds - g.same))) way
    (mean-costs later spread calm.second displaced calm.second_side side) in
    let far : calm.far - calm.far / 16 ≤ most = let r = calm.far_most in omega (arith, r) in
    record {
      keepable = rw bounds (record {
        wide = calm.keepable.wide;
        near = calm.keepable.near;
        above = calm.keepable.below;
        below = calm.keepable.above;
      });
      first = mean;
      second = calm.first;
      follows = edge.follows;
      first_side = edge.side;
      second_side = calm.first_side;
      near = calm.far - calm.far / 16;
      far = calm.near;
      near_most = far;
      far_most = calm.near_most;
      places = subst (λ (b : Bounds). AreNear g (drift b narrow) mean calm.first displaced (calm.far - calm.far / 16) calm.near)
          (sym bounds) edge.places;
      small = rw bounds
          (distance-stays distance next (distance_of g) (off_middle late spread calm.first) (off_middle later spread calm.second)
          (off_middle later spread mean) spread d most calm.near calm.far (f.bounds.low / 5) costs
          (off-most late spread calm.first calm.first_side) (off-most later spread calm.second calm.second_side)
          calm.near_most calm.far_most calm.keepable.near is calm.small);
    }

-- a run between two edges is one of the line
pub run-ahead : (f : Follower) (narrow : Bounds) (spread late later second before m run displaced : ℕ)
    → IsBorne f.bounds spread late later → IsWider f.bounds narrow → IsBetween later second spread
    → IsBetween late before spread → IsBetween later displaced spread → IsPlaced narrow before m run displaced
    → IsRun f.bounds second before m run displaced
run-ahead f narrow spread late later second before m run displaced borne wide mean b d placed =
    record {
      placed = placed-wider narrow f.bounds before m run displaced wide.low wide.high placed;
      mean_near = record { below = omega (arith, d, mean, borne); above = omega (arith, d, mean, borne) };
      before_near = record { below = omega (arith, d, b, borne); above = omega (arith, d, b, borne) };
    }

pub kept-next : (f g : Follower) (distance next : ℕ) (narrow : Bounds) (spread run n : ℕ) (ahead : List ℕ)
    → Counted f run n g → next ≤ distance - distance / 256 + distance_of g
    → IsKept f distance narrow spread (run ∷ ahead) → KeptNext g next narrow spread ahead
kept-next f g distance next narrow spread run n ahead counted is k = go k.counts k.captured
  where
    go : (counts : List ℕ) → SpreadsLate narrow spread k.late k.later k.displaced counts (run ∷ ahead)
        → KeptNext g next narrow spread ahead
    go [] captured = absurd captured
    go (m ∷ counts) captured =
        let calm = k.calm in
        let borne = keepable-borne f.bounds narrow spread k.late k.later k.most calm.keepable in
        let is_run = run-ahead f narrow spread k.late k.later calm.second k.displaced m (65536 * run) captured.0 borne
        calm.keepable.wide calm.second_side captured.1 captured.2 captured.3 in
        let after = calm-next f g distance next narrow spread k.late k.later k.most k.displaced run n m counted is calm captured.0
        captured.2 captured.3 is_run in
        record {
          kept = record {
            late = k.later;
            later = k.late;
            most = k.most;
            displaced = captured.0;
            calm = after;
            counts = counts;
            captured = captured.4;
          };
          fine = calm-fine g next narrow spread k.later k.late k.most captured.0 after;
        }

-- a run of a line that is kept is short
pub kept-short : (f : Follower) (distance : ℕ) (narrow : Bounds) (spread run : ℕ) (ahead : List ℕ)
    → IsKept f distance narrow spread (run ∷ ahead) → 1024 * run < f.bounds.low
kept-short f distance narrow spread run ahead k = go k.counts k.captured
  where
    cells : (m high : ℕ) → m ≤ 3 → m * high ≤ 3 * high
    cells m high few = mul-le-mul_right high few

    go : (counts : List ℕ) → SpreadsLate narrow spread k.late k.later k.displaced counts (run ∷ ahead)
        → 1024 * run < f.bounds.low
    go [] captured = absurd captured
    go (m ∷ counts) captured =
        let few = cells m narrow.high captured.3.few in
        omega (arith, captured.1, captured.2, captured.3, k.calm.keepable, f.bounds, few)
