use Rattle.std.proofs.Common.{ℕ, ◌≡◌, ◌<◌, ◌+◌, ◌-◌, ◌*◌, ◌%◌, ◌≤◌, ◌∙◌, ap, arith, drop, get_or, length, take}
use Rattle.std.proofs.lemmas.List.{drop_all, length-drop, length-take}
use Rattle.aes3_capture_recovery.proofs.Lines.{is-at-most}
use Rattle.aes3_capture_recovery.specs.Finding.{AreOfSubframes}
use Rattle.aes3_capture_recovery.specs.Measuring.{place_at, places_from, preambles_from}
use Rattle.aes3_capture_recovery.proofs.Preambles.{found-step, front-at, none-cut, one-most, place-before, place-from, two-most, places-step}
use Rattle.aes3_capture_recovery.proofs.period.have_preambles.Goals.{After-max}
use Rattle.aes3_capture_recovery.proofs.period.have_preambles.Goals as goal

pub loop-i-preserved : goal.loop-i-preserved
loop-i-preserved c =
    let v = c.loop-i.invariant in
    let i = c.loop-i.i in
    let place = c.loop-i.place in
    let cells = c.args.cells.now in
    let count = c.args.count in
    let line = take count cells in
    let front = take (count - 3) line in
    let below = c.loop-i-test.true in
    let few = c.requires.few in
    let many = c.requires.many in
    let told = c.told-cells in
    let long : length line ≡ count = let e = length-take count cells in omega (arith, e, few, told) in
    let short : length front ≡ count - 3 = let e = length-take (count - 3) line in omega (arith, e, long) in
    let n = c.from.ensures in
    let first = front-at cells count i (omega (arith, below)) in
    let step = found-step line i place (get_or cells i 0) c.from.result (get_or cells (i + 1) 0) (get_or cells (i + 2) 0) (get_or cells (i + 3) 0)
    (omega (arith, long, below)) first n
    (front-at cells count (i + 1 + 0) (omega (arith, below)) ∙ ap (λ k. get_or cells k 0) (omega arith))
    (front-at cells count (i + 1 + 1) (omega (arith, below)) ∙ ap (λ k. get_or cells k 0) (omega arith))
    (front-at cells count (i + 1 + 2) (omega (arith, below)) ∙ ap (λ k. get_or cells k 0) (omega arith)) in
    let places = places-step front i place (get_or cells i 0) c.from.result (omega (arith, short, below))
    (front-at line (count - 3) i (omega (arith, below)) ∙ first) n in
    let one = c.preamble_at-found.ensures in
    let some = c.places_at-due.ensures in
    let one_most = one-most _ c.preamble_at-found.result one in
    let two_most = two-most _ _ c.places_at-due.result some in
    record {
      few = omega (arith, v, one_most);
      some = omega (arith, v, two_most);
      within = omega arith;
      found = omega (arith, v, step, one);
      due = omega (arith, v, places, some);
    }

-- after the last run no place of a preamble is left
at-end : (c : After-max) → (length (take c.args.count c.args.cells.now) ≡ c.args.count)
    × (places_from c.loop-i.place (drop c.loop-i.i (take (c.args.count - 3) (take c.args.count c.args.cells.now))) ≡ 0)
at-end c =
    let cells = c.args.cells.now in
    let count = c.args.count in
    let line = take count cells in
    let front = take (count - 3) line in
    let few = c.requires.few in
    let told = c.told-cells in
    let past = c.loop-i-test.false in
    let long : length line ≡ count = let e = length-take count cells in omega (arith, e, few, told) in
    let short : length front ≡ count - 3 = let e = length-take (count - 3) line in omega (arith, e, long) in
    (long, ap (places_from c.loop-i.place) (drop_all c.loop-i.i front (omega (arith, short, past))))

-- all preambles were counted, and all places of preambles
all-counted : (c : After-max) (place : ℕ) → AreOfSubframes place (take c.args.count c.args.cells.now)
    → place_at place (take c.args.count c.args.cells.now) c.args.run ≡ 0 → c.args.run < c.args.count
    → (c.loop-i.found ≡ preambles_from place (take c.args.count c.args.cells.now))
    × (c.loop-i.due ≡ places_from place (take (c.args.count - 3) (take c.args.count c.args.cells.now)))
all-counted c place are at within =
    let v = c.loop-i.invariant in
    let cells = c.args.cells.now in
    let count = c.args.count in
    let line = take count cells in
    let front = take (count - 3) line in
    let past = c.loop-i-test.false in
    let end = c.loop-i.auto.i-end in
    let ended = at-end c in
    let long = ended.0 in
    let none = ended.1 in
    let rest : preambles_from c.loop-i.place (drop c.loop-i.i line) ≡ 0
    = let e = length-drop c.loop-i.i line in none-cut c.loop-i.place (drop c.loop-i.i line) (omega (arith, e, long, past)) in
    let place_is : (64 - c.cells_before.result) % 64 ≡ place =
    let value = c.cells_before.ensures.value in
    let before = place-before place cells count c.args.run (omega (arith, within)) in
    let from = place-from place cells c.args.run are.within in
    let below = are.within in
    omega (arith, value, before, from, at, below) in
    let found_there : c.loop-i.found ≡ preambles_from ((64 - c.cells_before.result) % 64) line =
    let f = v.found in omega (arith, f, rest) in
    let due_there : c.loop-i.due ≡ places_from ((64 - c.cells_before.result) % 64) front =
    let d = v.due in omega (arith, d, none) in
    (rw place_is at found_there, rw place_is at due_there)

pub returns-then-found-max-clause-found : goal.returns-then-found-max-clause-found
returns-then-found-max-clause-found c = λ place are at within.
    let few = c.requires.few in
    let counted = all-counted (goal.at.returns-then-found-max-clause-found c).After-max place are at within in
    let found = counted.0 in
    let enough = are.enough in
    let wanted = c.max.ensures in
    let under = c.if-found-max.true in
    absurd (omega (arith, found, enough, wanted, few, under))

pub returns-clause-found : goal.returns-clause-found
returns-clause-found c = λ place are at within.
    let counted = all-counted (goal.at.returns-clause-found c).After-max place are at within in
    let found = counted.0 in
    let due = counted.1 in
    let all = rw (at-end (goal.at.returns-clause-found c).After-max).0 at are.all in
    is-at-most _ _ (omega (arith, found, due, all))

pub returns-clause-some : goal.returns-clause-some
returns-clause-some c most =
    let v = c.loop-i.invariant in
    let many = c.requires.many in
    let ended = at-end (goal.at.returns-clause-some c).After-max in
    let long = ended.0 in
    let none = ended.1 in
    let enough = c.if-found-max.false in
    let wanted = c.max.ensures in
    let least : 3 * c.loop-i.due ≤ 4 * c.loop-i.found = search (arith, most) in
    record {
      place = (64 - c.cells_before.result) % 64;
      some = omega (arith, v, enough, wanted);
      many = omega (arith, v, enough, wanted, long);
      most = rw long (omega (arith, v, none, least));
    }
