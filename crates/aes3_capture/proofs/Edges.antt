-- What a follower tells at an edge of the line that it follows, and where it goes on from.
use Rattle.std.proofs.Common.{ℕ, ◌≡◌, ◌<◌, ◌≤◌, ◌+◌, ◌-◌, ◌*◌, ◌/◌, ◌⊎◌, inl, inr, arith, min, ◌∙◌, zero-add}
use Rattle.std.specs.Prelude.{Bool, nat_le, if◌then◌else◌}
use Rattle.aes3_capture.specs.declared.follower.Follower.{Follower}
use Rattle.aes3_capture.specs.Captures.{IsRun, mean_with, margin, wander}
use Rattle.aes3_capture.specs.Following.{Follows, Passes, Ends, Counts}
use Rattle.aes3_capture.proofs.Steps.{steps-near, run-near, told-near, one-more, place-near, place-moves}
use Rattle.aes3_capture.proofs.Steps.{place-corrected, other-near, mean-near}

-- the cells told before an edge, and what has passed since: all cells, or all but one
pub record AllTold (f : Follower) (run given cells : ℕ) : Type 0 where
  pub number : given ≡ cells
  pub since : f.elapsed + cells * f.period ≡ run
  pub early : f.elapsed + f.other < f.period + f.bounds.low

pub record OneLeft (f : Follower) (run given cells : ℕ) : Type 0 where
  pub number : given + 1 ≡ cells
  pub since : f.elapsed + cells * f.period ≡ run + f.period
  pub late : f.period + f.bounds.low ≤ f.elapsed + f.other

-- a run at the follower's period, and where the edge after it lies on both grids
pub record OnGrids (f : Follower) (run cells step : ℕ) : Type 0 where
  pub steps : (step ≤ cells * f.period + wander f.bounds) × (cells * f.period ≤ step + wander f.bounds)
  pub place : (cells * f.period + f.bounds.low < run + f.other) × (run + f.other < cells * f.period + 2 * f.bounds.low)
  pub apart : (cells * f.period ≤ run + f.same) × (run + f.same ≤ cells * f.period + 3 * f.bounds.low)

pub on-grids : (f : Follower) (same other before run given cells displaced : ℕ) → f.bounds.low ≤ f.period
    → f.period ≤ f.bounds.high → Follows f same other before run given
    → (is_run : IsRun f.bounds other before cells run displaced) → OnGrids f run cells is_run.placed.step
on-grids f same other before run given cells displaced shortest longest follows is_run =
    let step : ℕ = is_run.placed.step in
    let steps = steps-near cells f.bounds.low f.bounds.high f.period step is_run.placed.few shortest longest
    is_run.placed.longest is_run.placed.shortest in
    record {
      steps = steps;
      place = place-near f.bounds.low (wander f.bounds) step (cells * f.period) run before displaced other f.other steps.0 steps.1
          is_run.placed.between follows.other_place.below follows.other_place.above is_run.mean_near.below is_run.mean_near.above;
      apart = other-near f.bounds.low (wander f.bounds) step (cells * f.period) run before displaced same f.same steps.0 steps.1
          is_run.placed.between is_run.before_near.below is_run.before_near.above follows.same_place.below
          follows.same_place.above follows.mean_near.below follows.mean_near.above
          (omega (arith, is_run.mean_near.below, is_run.mean_near.above));
    }

pub decided : (f : Follower) (same other before run given cells displaced : ℕ) → f.bounds.low ≤ f.period
    → f.period ≤ f.bounds.high → f.elapsed < f.period
    → Follows f same other before run given → IsRun f.bounds other before cells run displaced
    → (AllTold f run given cells) ⊎ (OneLeft f run given cells)
decided f same other before run given cells displaced shortest longest told follows is_run =
    let low : ℕ = f.bounds.low in
    let grids = on-grids f same other before run given cells displaced shortest longest follows is_run in
    let steps = grids.steps in
    let near : (run < cells * f.period + f.bounds.low) × (cells * f.period < run + f.bounds.low) =
    run-near f.bounds.low (wander f.bounds) is_run.placed.step (cells * f.period)
    run before displaced steps.0 steps.1 is_run.placed.between
    is_run.before_near.below is_run.before_near.above in
    let place = grids.place in
    let above : run < cells * f.period + f.period = omega (arith, near.0, shortest) in
    let below : cells * f.period < run + f.period = omega (arith, near.1, shortest) in
    let which : (given ≡ cells) ⊎ (given + 1 ≡ cells)
    = told-near given cells f.period f.elapsed run follows.passed told above below in
    elim which [
      | inl e ↦ let at : cells * f.period + f.elapsed ≡ run = rw e at follows.passed in
          inl (record { number = e; since = omega (arith, at); early = omega (arith, at, place.1, shortest) })
      | inr e ↦ let product : cells * f.period ≡ given * f.period + f.period = one-more given cells f.period e in
          inr (record {
            number = e;
            since = omega (arith, product, follows.passed);
            late
                = omega (arith, product, follows.passed, place.0);
          })
    ]

-- the line behind the edge
pub goes-on : (f g : Follower) (same other before run given cells displaced told : ℕ) → f.bounds.low ≤ f.period
    → f.period ≤ f.bounds.high
    → Follows f same other before run given → IsRun f.bounds other before cells run displaced
    → f.elapsed + cells * f.period ≡ run + told
    → g.bounds ≡ f.bounds → g.elapsed ≡ 0
    → g.same ≡ f.elapsed + f.other - told - (f.elapsed + f.other - told) / 16 + (f.bounds.low + f.bounds.low / 2) / 16
    → g.other ≡ min (f.elapsed + f.same - told) (3 * f.bounds.low)
    → Follows g (mean_with other displaced) same displaced 0 0
goes-on f g same other before run given cells displaced told shortest longest follows is_run since bounds elapsed
    grid_is other_is =
    let grids = on-grids f same other before run given cells displaced shortest longest follows is_run in
    let steps = grids.steps in
    let place = grids.place in
    let apart = grids.apart in
    let at : ℕ = f.elapsed + f.other - told in
    let at_is : f.elapsed + f.other - told + cells * f.period ≡ run + f.other = omega (arith, since, place.0) in
    let moved : (f.elapsed + f.other - told + other
    ≤ f.bounds.low + f.bounds.low / 2 + displaced + (31 * wander f.bounds + 32 + wander f.bounds))
    × (f.bounds.low + f.bounds.low / 2 + displaced
    ≤ f.elapsed + f.other - told + other + (31 * wander f.bounds + 32 + wander f.bounds)) =
    place-moves (wander f.bounds) is_run.placed.step (cells * f.period) run before displaced other f.other
    (f.elapsed + f.other - told)
    (f.bounds.low + f.bounds.low / 2) (31 * wander f.bounds + 32)
    steps.0 steps.1 is_run.placed.between at_is follows.other_place.below follows.other_place.above in
    let corrected : ((f.elapsed + f.other - told) - (f.elapsed + f.other - told) / 16
    + (f.bounds.low + f.bounds.low / 2) / 16 + (other - other / 16 + displaced / 16)
    ≤ f.bounds.low + f.bounds.low / 2 + displaced + (30 * wander f.bounds + 32))
    × (f.bounds.low + f.bounds.low / 2 + displaced
    ≤ (f.elapsed + f.other - told) - (f.elapsed + f.other - told) / 16 + (f.bounds.low + f.bounds.low / 2) / 16
    + (other - other / 16 + displaced / 16) + (30 * wander f.bounds + 32)) =
    place-corrected (wander f.bounds) displaced other (f.elapsed + f.other - told) (f.bounds.low + f.bounds.low / 2)
    (omega (arith, moved.0)) (omega (arith, moved.1)) in
    let stays : f.elapsed + f.same - told + cells * f.period ≡ run + f.same = omega (arith, since, apart.0) in
    let next : ℕ = min (f.elapsed + f.same - told) (3 * f.bounds.low) in
    let next_is : g.other + cells * f.period ≡ run + f.same = rw other_is (omega (arith, stays, apart.1)) in
    let drifted : (g.other + same
    ≤ f.bounds.low + f.bounds.low / 2 + displaced + (30 * wander f.bounds + 32 + wander f.bounds))
    × (f.bounds.low + f.bounds.low / 2 + displaced ≤ g.other + same + (30 * wander f.bounds + 32 + wander f.bounds)) =
    place-moves (wander f.bounds) is_run.placed.step (cells * f.period) run before displaced same f.same g.other
    (f.bounds.low + f.bounds.low / 2) (30 * wander f.bounds + 32)
    steps.0 steps.1 is_run.placed.between next_is follows.same_place.below follows.same_place.above in
    let near : (displaced ≤ mean_with other displaced + (f.bounds.low / 2 - margin f.bounds))
    × (mean_with other displaced ≤ displaced + (f.bounds.low / 2 - margin f.bounds)) =
    mean-near other displaced (f.bounds.low / 2 - margin f.bounds) is_run.mean_near.below is_run.mean_near.above in
    record {
      passed = omega (arith, elapsed);
      same_place = rw (bounds, grid_is) (record { below = corrected.0; above = corrected.1 });
      other_place = rw bounds (record { below = omega (arith, drifted.0); above = omega (arith, drifted.1) });
      mean_near = rw bounds (record { below = near.0; above = near.1 });
    }

-- what the answer at an edge adds
pub one-told : (given before after cells : ℕ) → after ≤ before → given + 1 ≡ cells
    → given + (if nat_le after before then 1 else 0) ≡ cells
one-told given before after cells late number = grind (arith, late, number)

pub none-told : (given before after cells : ℕ) → before < after → given ≡ cells
    → given + (if nat_le after before then 1 else 0) ≡ cells
none-told given before after cells early number = grind (arith, early, number)

-- samples that pass, and then an edge
pub run-counts : (old mid new : Follower) (samples told result : ℕ) (more : Bool) → mid.bounds ≡ old.bounds
    → Passes old samples told mid → Ends mid more new
    → result ≡ told + (if more then 1 else 0) → Counts old samples result new
run-counts old mid new samples told result more bounds passes ends sum
    = λ same other before cells displaced follows is_run.
    let start : Follows mid same other before (0 + 65536 * samples) (0 + told) = passes same other before 0 0 follows in
    let mid_follows : Follows mid same other before (65536 * samples) told =
    rw zero-add at (rw zero-add at start) in
    let mid_run : IsRun mid.bounds other before cells (65536 * samples) displaced = rw bounds is_run in
    let end = ends same other before (65536 * samples) told cells displaced mid_follows mid_run in
    (sum ∙ end.0, end.1)
