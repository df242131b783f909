use Rattle.std.proofs.Common.{refl, sym, ap, ◌∙◌, ◌∷◌, ◌++◌, [], arith, take, get_or, subst, ◌≡◌, ◌+◌, List, ℕ}
use Rattle.aes3_level.specs.Cells.{after, other}
use Rattle.aes3_capture_recovery.specs.RecoverySteps.{RunsTold}
use Rattle.aes3_capture_recovery.proofs.RunsToEnd.{after-more}
use Rattle.aes3_capture_recovery.proofs.SameLevels.{level-not}
use Rattle.aes3_capture_recovery.proofs.Telling.{keeps-chain, keeps-same, take-next, told-chain, told-nothing}
use Rattle.aes3_capture_recovery.proofs.recovery.Recovery.release.Goals as goal

pub loop-i-init : goal.loop-i-init
loop-i-init g c = record {
  quiet = refl;
  state = refl;
  distance = refl;
  keeps = keeps-same c.args.self.now;
  told = λ level e. (
    level-not c.is_high_before-high.result ∙ ap other (c.is_high_before-high.ensures level e),
    told-nothing c.args.self.now c.args.sink.now level (omega arith),
  );
}

pub loop-i-preserved : goal.loop-i-preserved
loop-i-preserved g c =
    let old = c.args.self.now in
    let mid = c.loop-i.self in
    let v = c.loop-i.invariant in
    let runs = take c.loop-i.i old.runs in
    let run = get_or mid.runs c.loop-i.i 0 in
    let within = c.requires.within in
    let below = c.loop-i-test.true in
    let next : take (c.loop-i.i + 1) old.runs ≡ runs ++ run ∷ []
    = take-next old.runs mid.runs c.loop-i.i v.keeps.runs_are (omega (arith, within, below)) in
    record {
      quiet = c.in_ok-tell.ensures.no_failure ∙ v.quiet;
      state = c.tell.ensures.state ∙ v.state;
      distance = c.tell.ensures.distance ∙ v.distance;
      keeps = keeps-chain old mid c.tell.new.self v.keeps c.tell.ensures.keeps;
      told = λ level e.
          let t = v.told level e in (
            level-not c.loop-i.high ∙ ap other (t.0 ∙ sym (after-more level runs run) ∙ sym (ap (after level) next)),
            subst (λ (x : List ℕ). RunsTold g.T.Sink.taken old c.tell.new.self c.args.sink.now c.tell.new.sink level x)
                (sym next)
                (told-chain old mid c.tell.new.self c.args.sink.now c.loop-i.sink c.tell.new.sink level runs (run ∷ [])
                v.keeps.found_is t.1 (c.in_ok-tell.ensures.told (after level runs) t.0)),
          );
    }

pub returns-in_err-tell-clause-keeps : goal.returns-in_err-tell-clause-keeps
returns-in_err-tell-clause-keeps g c =
    keeps-chain c.args.self.now c.loop-i.self c.tell.new.self c.loop-i.invariant.keeps c.tell.ensures.keeps

pub returns-clause-keeps : goal.returns-clause-keeps
returns-clause-keeps g c = c.loop-i.invariant.keeps

pub returns-clause-told : goal.returns-clause-told
returns-clause-told g c = λ level e.
    let end : c.loop-i.i ≡ c.args.count = omega (arith, c.loop-i-test.false, c.loop-i.auto.i-end) in
    subst (λ n. RunsTold g.T.Sink.taken c.args.self.now c.loop-i.self c.args.sink.now c.loop-i.sink level
    (take n c.args.self.now.runs)) end (c.loop-i.invariant.told level e).1
