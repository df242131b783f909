use Rattle.std.proofs.Common.{◌≡◌, ◌+◌, ◌-◌, ◌*◌, ◌≤◌, ◌∙◌, arith, rules, get_or}
use Rattle.std.specs.Prelude.{min}
use Rattle.aes3_capture.specs.Following.{Begins, middle_of}
use Rattle.aes3_capture.specs.Directions.{IsBehind}
use Rattle.aes3_capture.proofs.Mirror.{anchored-at, back-next, turned-at}
use Rattle.aes3_capture_recovery.proofs.period.at_first.Goals as goal

low-at : (c : goal.After-at-follower) → c.args.bounds.low ≤ c.clamp-period.result
low-at c = search (rules, arith, c.clamp-period.ensures)

high-at : (c : goal.After-at-follower) → c.clamp-period.result ≤ c.args.bounds.high
high-at c = search (rules, arith, c.clamp-period.ensures)

pub loop-i-init : goal.loop-i-init
loop-i-init c =
    let f = c.at-follower.result in
    let bounds = c.args.bounds in
    let period = c.clamp-period.result in
    let run = get_or c.args.runs.now c.args.anchor 0 in
    let other : c.min.result ≡ min (middle_of bounds + 3 * period - 65536 * run) (3 * bounds.low) =
    search (rules, arith, c.min.ensures, c.saturating_sub-other.ensures, c.from-run.ensures) in
    record {
      bounds_is = c.at-follower.ensures.bounds;
      behind = λ narrow spread late later places cells line three.
          let e : c.args.anchor + 1 - 0 ≡ c.args.anchor + 1 = omega arith in
          let begins : Begins f bounds period (middle_of bounds)
          (min (middle_of bounds + 3 * period - 65536 * run) (3 * bounds.low)) = rw other at c.at-follower.ensures.begins in
          rw e (anchored-at f bounds narrow spread late later (late + later + spread) period places cells c.args.runs.now
          c.args.anchor line.displaced line.wide line.borne (omega arith) (omega arith) c.requires.within three (low-at c) (high-at c)
          begins);
    }

pub loop-i-preserved : goal.loop-i-preserved
loop-i-preserved c =
    let v = c.loop-i.invariant in
    let below = c.loop-i-test.true in
    let within = c.requires.within in
    let b = v.bounds_is in
    record {
      bounds_is = c.run.ensures.bounds ∙ b;
      behind = λ narrow spread late later places cells line three.
          let e : c.args.anchor + 1 - c.loop-i.i ≡ c.args.anchor - c.loop-i.i + 1 = omega (arith, below) in
          let f : c.args.anchor + 1 - (c.loop-i.i + 1) ≡ c.args.anchor - c.loop-i.i = omega (arith, below) in
          let at : IsBehind c.loop-i.follower spread late later (late + later + spread) places (c.args.anchor - c.loop-i.i + 1) =
          rw e at (v.behind narrow spread late later places cells line three) in
          let wide = line.wide in
          let borne = line.borne in
          let next = back-next c.loop-i.follower c.run.new.self narrow spread late later (late + later + spread) places cells
          c.args.runs.now (c.args.anchor - c.loop-i.i) c.run.result line.displaced (rw b wide) (rw b borne) (omega arith)
          (omega arith) (omega (arith, within)) c.run.ensures.line at in
          rw f next.1;
    }

pub reverse-requires-clause-longest : goal.reverse-requires-clause-longest
reverse-requires-clause-longest c = let b = c.loop-i.invariant.bounds_is in rw b (search (rules, arith, c.clamp-period.ensures))

pub reverse-requires-clause-shortest : goal.reverse-requires-clause-shortest
reverse-requires-clause-shortest c = let b = c.loop-i.invariant.bounds_is in rw b (search (rules, arith, c.clamp-period.ensures))

pub returns-clause-found : goal.returns-clause-found
returns-clause-found c = λ narrow spread late later places cells line three.
    let v = c.loop-i.invariant in
    let past = c.loop-i-test.false in
    let e : c.args.anchor + 1 - c.loop-i.i ≡ 0 = omega (arith, past) in
    let at : IsBehind c.loop-i.follower spread late later (late + later + spread) places 0 =
    rw e at (v.behind narrow spread late later places cells line three) in
    let b = v.bounds_is in
    let borne = line.borne in
    turned-at c.loop-i.follower c.reverse.result c.clamp-period.result spread late later (late + later + spread) places 0
    (rw b borne) (omega arith) (omega arith) (line.displaced.side 0 (omega arith)) c.reverse.ensures.begins at
