use Rattle.std.proofs.Common.{◌∙◌, ◌+◌, ◌-◌, ◌≡◌, arith, take, sym, ap, get_or}
use Rattle.aes3_capture_recovery.specs.Turns.{gaps}
use Rattle.aes3_capture_recovery.proofs.Turning.{gaps-all, gaps-at}
use Rattle.aes3_capture_recovery.proofs.edges.Places.measure.Goals as goal

pub loop-i-preserved : goal.loop-i-preserved
loop-i-preserved c =
    let below = c.loop-i-test.true in
    let few = c.requires.few in (
      c.loop-i.invariant.0,
      λ first more are.
          gaps-at first c.args.count more c.args.self.now.places c.loop-i.self.runs c.loop-i.i
          _ below are (omega (arith, few)) (omega (arith, below, few))
          (let run = c.saturating_sub-run.ensures
          ∙ ap (λ l. get_or l (c.loop-i.i + 1) 0 - get_or l c.loop-i.i 0) c.loop-i.invariant.0 in
          omega (arith, run))
          (c.loop-i.invariant.1 first more are),
    )

pub returns-clause-runs : goal.returns-clause-runs
returns-clause-runs c = λ first more are.
    let end : c.loop-i.i ≡ c.args.count = omega (arith, c.loop-i-test.false, c.loop-i.auto.i-end) in
    ap (λ n. take n c.loop-i.self.runs) (sym end) ∙ c.loop-i.invariant.1 first more are
    ∙ ap (λ n. gaps first (take n more)) end
    ∙ gaps-all first c.args.count more c.args.self.now.places are
