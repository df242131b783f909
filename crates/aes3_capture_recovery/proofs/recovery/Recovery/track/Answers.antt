use Rattle.std.proofs.Common.{◌≡◌, ◌-◌, ap, ◌∙◌, sym, subst, take, drop, length, List, ℕ, arith, rules}
use Rattle.std.proofs.lemmas.List.{length-take, take-take}
use Rattle.aes3_level.specs.Cells.{after}
use Rattle.aes3_capture.specs.Following.{Tracked, middle_of}
use Rattle.aes3_capture_recovery.proofs.Ahead.{runs-tracked, stands-counted, tracked-short}
use Rattle.aes3_capture_recovery.proofs.OnLineAhead.{stays-tracked}
use Rattle.aes3_capture_recovery.proofs.recovery.Recovery.track.Goals as goal

pub put_runs-requires-clause-short : goal.put_runs-requires-clause-short
put_runs-requires-clause-short g c = λ i below.
    tracked-short c.follower-follower.result c.track-some.new.self (take c.track-some.result c.runs.result.now)
    (take c.track-some.result c.guess-cells.result) (take c.track-some.result c.track-some.new.places) i
    c.track-some.ensures.tracked below

pub returns-clause-counted : goal.returns-clause-counted
returns-clause-counted g c = λ before turns.
    let old = c.args.self.now in
    let new = c.note_all.new.self in
    let n = c.track-some.result in
    let line_is = c.note_all.ensures.noted.line_is in
    let counts = take n c.guess-cells.result in
    let grid = take n c.track-some.new.places in
    let all = drop c.args.at c.args.places.now.runs in
    let some = c.track-some.ensures.some in
    let is : take n c.runs.result.now ≡ take n all
    = ap (take n) c.runs.ensures ∙ take-take n (c.args.count - c.args.at) all
    (let many = ap length c.runs.ensures ∙ length-take (c.args.count - c.args.at) all in omega (arith, some, many)) in
    let follower : new.line.follower ≡ c.track-some.new.self
    = ap (λ l. l.follower) line_is ∙ c.follow.ensures.follower in
    let from : Tracked old.line.follower (take n c.runs.result.now) counts grid c.track-some.new.self
    = subst (λ f. Tracked f (take n c.runs.result.now) counts grid c.track-some.new.self)
    c.follower-follower.ensures c.track-some.ensures.tracked in
    let t : Tracked old.line.follower (take n all) counts grid new.line.follower
    = subst (λ f. Tracked old.line.follower (take n all) counts grid f) (sym follower)
    (subst (λ (x : List ℕ). Tracked old.line.follower x counts grid c.track-some.new.self) is from) in
    let queue : new.line.queue ≡ c.put_runs.new.self.queue = ap (λ l. l.queue) line_is ∙ c.follow.ensures.queue in
    runs-tracked old.line new.line c.args.sink.now c.put_runs.new.sink tt before (take n all) counts grid
    c.put_runs.new.self.queue t queue (c.in_ok-put_runs.ensures.cells before turns)

pub returns-clause-told : goal.returns-clause-told
returns-clause-told g c = λ setting level runs w turns.
    let k = c.note_all.ensures.noted.keeps in
    stands-counted c.args.self.now c.note_all.new.self c.args.sink.now c.put_runs.new.sink setting level runs
    (take c.track-some.result (drop c.args.at c.args.places.now.runs))
    (search (rules, c.ne.ensures, c.if-ne.false, c.if-ne.ensures)) w
    (returns-clause-counted g c (after level runs) turns) k.found_is k.known_is k.measured_is k.count_is

pub returns-clause-stays : goal.returns-clause-stays
returns-clause-stays g c = λ is narrow spread more k.
    let old = c.args.self.now in
    let new = c.note_all.new.self in
    let n = c.track-some.result in
    let noted = c.note_all.ensures.noted in
    let counts = take n c.guess-cells.result in
    let grid = take n c.track-some.new.places in
    let follower : new.line.follower ≡ c.track-some.new.self
    = ap (λ l. l.follower) noted.line_is ∙ c.follow.ensures.follower in
    let from : Tracked old.line.follower (take n c.runs.result.now) counts grid c.track-some.new.self
    = subst (λ f. Tracked f (take n c.runs.result.now) counts grid c.track-some.new.self)
    c.follower-follower.ensures c.track-some.ensures.tracked in
    stays-tracked old new narrow spread _ c.args.at c.args.count n c.args.places.now.runs c.runs.result.now counts grid
    (take n c.distances_of-distances.result.each) more is noted.state_is noted.keeps.measured_is (omega (arith, c.requires.within))
    c.runs.ensures (subst (λ f. Tracked old.line.follower (take n c.runs.result.now) counts grid f) (sym follower) from)
    (ap middle_of (c.bounds-low.ensures ∙ ap (λ f. f.bounds) c.follower-follower.ensures)) c.distances_of-distances.ensures.each
    noted.spread k
