use Rattle.std.proofs.Common.{ℕ, List, ◌≡◌, ◌≤◌, ◌*◌, ◌/◌, ◌∙◌, arith, length, refl, take}
use Rattle.aes3_capture.specs.declared.follower.Bounds.{Bounds}
use Rattle.aes3_capture.specs.Captures.{IsAbout}
use Rattle.aes3_capture_recovery.specs.Finding.{AllowsCells, AreCapturedRuns, AreEnds, IsPeriodOf, IsStarted}
use Rattle.aes3_capture_recovery.proofs.Lines.{found-measured, measured-line, not-both, started-is-some}
use Rattle.aes3_capture_recovery.proofs.NearPeriods.{in-range-192, near-fewer}
use Rattle.aes3_capture_recovery.proofs.TwoPeriods.{IsFirstPeriod, IsPart, asked-in-range, first-line, first-period, like-a-preamble, second-line, second-period-of}
use Rattle.aes3_capture_recovery.proofs.period.by_anchors.Goals.{in-Some, in-None, then-not-may_begin-via-then-not-may_begin}
use Rattle.aes3_capture_recovery.proofs.period.by_anchors.Goals.{then-not-may_begin-via-else-not-may_begin+then-not-may_begin-2}
use Rattle.aes3_capture_recovery.proofs.period.by_anchors.Goals.{After-min, After-unwrap_or, After-start, After-unwrap_or-2}
use Rattle.aes3_capture_recovery.proofs.period.by_anchors.Goals as goal

pub returns-clause-measured : goal.returns-clause-measured
returns-clause-measured c = measured-line c.args.known c.args.runs.now c.period_of-measured.result c.unwrap_or-2.result c.in-Some-bounds_around.bounds
    c.start-2.result c.unwrap_or-2.ensures c.in-Some-bounds_around.ensures.around c.start-2.ensures.line

pub returns-then-subframes-eq0-clause-found : goal.returns-then-subframes-eq0-clause-found
returns-then-subframes-eq0-clause-found c = λ narrow spread late later place side places line captured ends allows.
    let many = captured.many in
    let f = ends.first_is in
    let l = ends.last_is in
    let f1 = f.most in
    let count = many.count in
    let enough = many.many c.args.first.run c.args.last.run (omega (arith, f1, l)) (omega (arith, l, count)) f.begins l.begins in
    let is = c.saturating_sub-subframes.ensures in
    let either = c.then-subframes-eq0.either in
    omega (arith, enough, ends, is, either)

-- the period that the first and the last preamble give
first-is : (c : After-min) {narrow : Bounds} {spread late later place side : ℕ} {places line : List ℕ}
    → AreCapturedRuns narrow spread late later place side places line c.args.runs.now
    → AreEnds place line c.args.runs.now c.args.first c.args.last
    → IsFirstPeriod narrow spread c.saturating_sub-subframes.result
    (c.min.result * 65536 / (64 * c.saturating_sub-subframes.result))
first-is c captured ends =
    first-period _ _ _ _ _ _ _ _ c.args.runs.now c.args.first c.args.last c.saturating_sub-subframes.result
    c.saturating_sub-samples.result c.min.result _ captured ends c.saturating_sub-subframes.ensures
    c.saturating_sub-samples.ensures c.min.ensures refl

in-range : (c : After-unwrap_or) {narrow : Bounds} {spread late later place side : ℕ} {places line : List ℕ}
    → AreCapturedRuns narrow spread late later place side places line c.args.runs.now
    → AreEnds place line c.args.runs.now c.args.first c.args.last
    → AllowsCells c.args.known narrow → (132096 ≤ c.unwrap_or.result) × (c.unwrap_or.result ≤ 524288000)
in-range c captured ends allows =
    let possible = in-range-192 _ _ _ _ _ captured.findable (first-is (goal.at.After-unwrap_or c).After-min captured ends).near_192 in
    asked-in-range _ c.args.known _ c.unwrap_or.result allows c.unwrap_or.ensures possible.0 possible.1

-- the follower that is started with it
is-started : (c : After-start) {narrow : Bounds} {spread late later place side : ℕ} {places line : List ℕ}
    → AreCapturedRuns narrow spread late later place side places line c.args.runs.now
    → AreEnds place line c.args.runs.now c.args.first c.args.last
    → AllowsCells c.args.known narrow → IsStarted narrow spread late later places c.start.result
    × (take (length c.args.runs.now) c.start.new.cells ≡ line)
is-started c captured ends allows =
    let range = in-range (goal.at.After-start c).After-unwrap_or captured ends allows in
    let part : IsPart c.args.known c.saturating_sub-subframes.result c.match-known.part =
    elim c.match-known.branch [
      | in-Some w ↦ rw w.in-Some.is w.part-is
      | in-None w ↦ rw w.in-None.is (w.part-is ∙ w.min-part.ensures)
    ] in
    let line_is = first-line _ c.in-Some-bounds_within.bounds _ _ _ _ _ _ _ c.args.runs.now c.args.known
    c.saturating_sub-subframes.result _ c.unwrap_or.result c.match-known.part captured (first-is (goal.at.After-start c).After-min captured ends) allows
    c.unwrap_or.ensures part (c.in-Some-bounds_within.ensures.about range.0 range.1) in
    c.start.ensures.found _ _ _ _ _ _ _ line_is captured.many.subframes ends.last_is.three ends.last_is.begins

-- the period of all its cells
second-is : (c : After-unwrap_or-2) {narrow : Bounds} {spread late later place side : ℕ} {places line : List ℕ}
    → AreCapturedRuns narrow spread late later place side places line c.args.runs.now
    → AreEnds place line c.args.runs.now c.args.first c.args.last
    → AllowsCells c.args.known narrow → IsPeriodOf narrow spread 253 c.period_of-measured.result
    × (132096 ≤ c.unwrap_or-2.result) × (c.unwrap_or-2.result ≤ 524288000)
second-is c captured ends allows =
    let cells = (is-started (goal.at.After-unwrap_or-2 c).After-start captured ends allows).1 in
    let near = second-period-of _ _ _ _ _ _ _ _ c.args.runs.now c.start.new.cells c.period_of-measured.result captured
    c.start.array_long cells c.period_of-measured.ensures in
    let possible = in-range-192 _ _ _ _ _ captured.findable (near-fewer _ _ 253 192 _ (omega arith) (omega arith) near) in
    let range = asked-in-range _ c.args.known _ c.unwrap_or-2.result allows c.unwrap_or-2.ensures possible.0 possible.1 in
    (near, range.0, range.1)

pub returns-then-not-may_begin-clause-found : goal.returns-then-not-may_begin-clause-found
returns-then-not-may_begin-clause-found c = λ narrow spread late later place side places line captured ends allows.
    let period = c.min.result * 65536 / (64 * c.saturating_sub-subframes.result) in
    let first = first-is (goal.at.returns-then-not-may_begin-clause-found c).After-min captured ends in
    elim c.then-not-may_begin.branch [
      | then-not-may_begin-via-then-not-may_begin w ↦
          let begins = c.may_begin.ensures.begins (like-a-preamble narrow spread late later place side places line c.args.runs.now 0
          c.args.first.run c.args.first.samples period captured ends.first_is first.near_192) in
          not-both c.may_begin.result begins w.if-not-may_begin.true
      | then-not-may_begin-via-else-not-may_begin+then-not-may_begin-2 w ↦
          let begins = w.may_begin-else-not-may_begin.ensures.begins (like-a-preamble narrow spread late later place side places line
          c.args.runs.now 192 c.args.last.run c.args.last.samples period captured ends.last_is first.near_192) in
          not-both w.may_begin-else-not-may_begin.result begins w.if-not-may_begin-2.true
    ]

pub returns-in_default-clause-found : goal.returns-in_default-clause-found
returns-in_default-clause-found c = λ narrow spread late later place side places line captured ends allows.
    let range = in-range (goal.at.returns-in_default-clause-found c).After-unwrap_or captured ends allows in
    rw c.in_default.is at (c.bounds_within.ensures.about range.0 range.1)

pub returns-then-is_none-clause-found : goal.returns-then-is_none-clause-found
returns-then-is_none-clause-found c = λ narrow spread late later place side places line captured ends allows.
    let started = is-started (goal.at.returns-then-is_none-clause-found c).After-start captured ends allows in
    started-is-some narrow spread late later places c.start.result started.0 c.if-is_none.ensures

pub returns-in_default-bounds_around-clause-found : goal.returns-in_default-bounds_around-clause-found
returns-in_default-bounds_around-clause-found c = λ narrow spread late later place side places line captured ends allows.
    let range = second-is (goal.at.returns-in_default-bounds_around-clause-found c).After-unwrap_or-2 captured ends allows in
    rw c.in_default-bounds_around.is at (c.bounds_around.ensures.about range.1 range.2)

pub returns-clause-found : goal.returns-clause-found
returns-clause-found c = λ narrow spread late later place side places line captured ends allows.
    let last = ends.last_is in
    let both = second-is (goal.at.returns-clause-found c).After-unwrap_or-2 captured ends allows in
    let second = both.0 in
    let second_about : IsAbout c.in-Some-bounds_around.bounds c.unwrap_or-2.result 1024 =
    c.in-Some-bounds_around.ensures.about both.1 both.2 in
    let second_line = second-line narrow c.in-Some-bounds_around.bounds spread late later place side places line c.args.runs.now
    c.args.known c.period_of-measured.result c.unwrap_or-2.result captured second allows c.unwrap_or-2.ensures second_about in
    let again = c.start-2.ensures.found narrow spread late later place places line second_line captured.many.subframes last.three last.begins in
    found-measured c.args.known narrow c.in-Some-bounds_around.bounds spread late later places c.args.runs.now
    c.period_of-measured.result c.unwrap_or-2.result c.start-2.result again.0 c.start-2.ensures.line second c.unwrap_or-2.ensures
    second_about
