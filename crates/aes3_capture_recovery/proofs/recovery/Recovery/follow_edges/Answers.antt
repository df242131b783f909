use Rattle.std.proofs.Common.{◌≡◌, ◌++◌, ◌+◌, ◌<◌, ◌≤◌, ◌^◌, inl, inr, ap, ◌∙◌, sym, take, drop, refl, append-nil, arith, subst, List, ℕ, length}
use Rattle.std.proofs.lemmas.List.{drop_all, length-take-le}
use Rattle.aes3_level.specs.Cells.{after, other}
use Rattle.aes3_level.proofs.Runs.{after-append}
use Rattle.aes3_capture_recovery.specs.Recovering.{StandsBehind}
use Rattle.aes3_capture_recovery.specs.RecoverySteps.{RunsCounted}
use Rattle.aes3_capture_recovery.specs.declared.recovery.State.TheVariants.{Following}
use Rattle.aes3_capture_recovery.proofs.Ahead.{length-some, take-on, take-on-from}
use Rattle.aes3_capture_recovery.proofs.FollowedAhead.{runs-chain, runs-none}
use Rattle.aes3_capture_recovery.specs.Keeping.{StaysKept}
use Rattle.aes3_capture_recovery.proofs.OnLineAhead.{stays-chain, stays-none}
use Rattle.aes3_capture_recovery.proofs.States.{following-or}
use Rattle.aes3_capture_recovery.proofs.recovery.Recovery.follow_edges.Goals as goal

pub loop-at-init : goal.loop-at-init
loop-at-init g c = record {
  within = omega arith;
  quiet = refl;
  samples = refl;
  up = omega arith;
  level = λ before turns. turns;
  counted = λ was is same room before turns. runs-none c.args.self.now.line c.args.sink.now before;
  none = λ e. (refl, refl);
  told = λ setting level runs w turns. subst
      (λ (x : List ℕ). StandsBehind (g.T.Sink.taken c.args.sink.now) setting level x c.args.self.now)
      (sym (append-nil runs)) w;
  stays = λ is narrow spread more k.
      stays-none c.args.self.now narrow spread (take c.args.count c.args.places.now.runs ++ more) is k;
}

pub loop-at-preserved : goal.loop-at-preserved
loop-at-preserved g c =
    let v = c.loop-at.invariant in
    let most = c.in_ok-some.ensures.most in
    let below = c.loop-at-test.true in
    let few = c.requires.few in
    let all = c.args.places.now.runs in
    let some = take c.in_ok-some.some (drop c.loop-at.at all) in
    let until = take c.loop-at.at all in
    let on : (next : ℕ) → next ≡ c.loop-at.at + c.in_ok-some.some → until ++ some ≡ take next all
    = λ next is. take-on-from all c.loop-at.at c.in_ok-some.some next is in
    let up1 = v.up in
    let up2 = c.take_edges.ensures.up in
    record {
      within = omega (arith, most, below);
      quiet = c.in_ok-some.ensures.no_failure ∙ v.quiet;
      samples = c.take_edges.ensures.samples ∙ v.samples;
      up = omega (arith, up1, up2);
      level = λ before turns.
          c.level_behind-high.ensures (after before until) some
          (length-some all c.loop-at.at c.in_ok-some.some (omega (arith, most, below, few, c.args.places.now.many)))
          (v.level before turns)
          ∙ ap other (sym (after-append before until some)) ∙ ap (λ x. other (after before x)) (on _ (omega arith));
      counted = λ was is same room before turns.
          let kept : c.loop-at.self.figures.measured ≡ c.args.self.now.figures.measured
          = omega (arith, up1, up2, same) in
          let room2 : c.loop-at.self.figures.measured + 1 < 2 ^ 64 = omega (arith, kept, room) in
          let follows : c.loop-at.self.state ≡ Following = elim (following-or c.loop-at.self.state) [
            | inl e ↦ e
            | inr n ↦ let more = c.take_edges.ensures.begun n is room2 in absurd (omega (arith, more, same, kept))
          ] in
          subst (λ (x : List ℕ). RunsCounted g.T.Sink.taken c.args.self.now.line c.take_edges.new.self.line
          c.args.sink.now c.take_edges.new.sink before x) (on _ (omega arith))
          (runs-chain c.args.self.now.line c.loop-at.self.line c.take_edges.new.self.line c.args.sink.now c.loop-at.sink
          c.take_edges.new.sink before until some (v.counted was follows kept room before turns)
          (c.in_ok-some.ensures.counted follows (after before until) (v.level before turns)));
      none = λ e. let some = c.in_ok-some.ensures.some in absurd (omega (arith, e, some));
      told = λ setting level runs w turns.
          subst (λ (x : List ℕ). StandsBehind (g.T.Sink.taken c.take_edges.new.sink) setting level x c.take_edges.new.self)
          (take-on runs all c.loop-at.at c.in_ok-some.some _ (omega arith))
          (c.in_ok-some.ensures.told setting level (runs ++ until) (v.told setting level runs w turns)
          (v.level (after level runs) turns ∙ ap other (sym (after-append level runs until))));
      stays = λ is narrow spread more k.
          let before = v.stays is narrow spread more k in
          let left = take c.args.count all in
          let step = c.in_ok-some.ensures.stays before.state narrow spread more before.kept in
          stays-chain c.args.self.now c.loop-at.self c.take_edges.new.self narrow spread (drop c.loop-at.at left ++ more) _
          before step;
    }

pub returns-clause-none : goal.returns-clause-none
returns-clause-none g c = λ e. let within = c.loop-at.invariant.within in
    c.loop-at.invariant.none (omega (arith, e, within))

pub returns-clause-stays : goal.returns-clause-stays
returns-clause-stays g c = λ is narrow spread more k.
    let left = take c.args.count c.args.places.now.runs in
    let within = c.loop-at.invariant.within in
    let end = c.loop-at-test.false in
    let long : length left ≤ c.loop-at.at
    = let most = length-take-le c.args.count c.args.places.now.runs (omega (arith, c.requires.few, c.args.places.now.many)) in
    omega (arith, most, end) in
    subst (λ (l : List ℕ). StaysKept narrow spread (l ++ more) c.args.self.now c.loop-at.self) (drop_all c.loop-at.at left long)
    (c.loop-at.invariant.stays is narrow spread more k)
