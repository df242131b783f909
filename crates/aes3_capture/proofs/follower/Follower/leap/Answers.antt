use Rattle.std.proofs.Common.{refl, arith}
use Rattle.aes3_capture.proofs.Leapt.{IsLeap, ends-within, leapt}
use Rattle.aes3_capture.proofs.follower.Follower.leap.Goals.{After-from}
use Rattle.aes3_capture.proofs.follower.Follower.leap.Goals as goal

leap : (c : After-from) → IsLeap c.args.self.now c.args.runs.now c.args.cells.now c.make.new.self.places
    c.make.new.self.sames c.make.new.self.others c.make.new.self.periods
leap c =
    let waiting = c.if-self-gt0.false in
    let short = c.if-self-gt-SHORT.false in
    record {
      runs_long = c.requires.runs_long;
      cells_long = c.requires.cells_long;
      sames_long = c.make.new.self.sames_long;
      quiet = omega (arith, waiting);
      short = short;
      same_begins = c.make.ensures.begins.0;
      other_begins = c.make.ensures.begins.1;
      period_begins = c.make.ensures.begins.2;
      steps = c.make.ensures.steps;
      bounded = c.if-not-is_right.ensures refl;
    }

pub invariant_of-result : goal.invariant_of-result
invariant_of-result c =
    let waiting = c.if-self-gt0.false in
    let last = ends-within _ _ _ _ _ _ _ (leap (goal.at.invariant_of-result c).After-from) in
    let period = c.from.ensures in
    let same = c.from-2.ensures in
    let other = c.from-3.ensures in
    let least = c.args.self.now.bounds.least in
    record {
      longest = omega (arith, period, last);
      shortest = omega (arith, period, last);
      told = omega (arith, period, last, least, waiting);
      same_bound = omega (arith, same, last);
      other_bound = omega (arith, other, last);
    }

pub returns : goal.returns
returns c =
    let waiting = c.if-self-gt0.false in
    let period = c.from.ensures in
    let same = c.from-2.ensures in
    let other = c.from-3.ensures in
    leapt _ _ _ _ _ _ _ _ (leap (goal.at.returns c).After-from) refl (omega (arith, waiting)) (omega (arith, same)) (omega (arith, other)) (omega (arith, period))
