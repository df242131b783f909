use Rattle.std.proofs.Common.{◌+◌, ◌/◌, refl, ap, ◌∙◌, arith, sym}
use Rattle.std.proofs.lemmas.Result.{err_from_is_err_and}
use Rattle.aes3_cell.proofs.Growing.{grew-is, grew-join}
use Rattle.aes3_watch.specs.Sums.{ends_before, notice_lines, periods, periods_told, with_period}
use Rattle.aes3_watch.proofs.Sums.{ended-front, ended-lines, ends-is, loop-few, loop-near, next-is, period-is}
use Rattle.aes3_watch.proofs.Sums.{periods-more}
use Rattle.aes3_watch.proofs.EventWrites.{wrote-failed}
use Rattle.aes3_watch.proofs.summing.Summer.end_periods.Goals as goal

pub end_period-requires-clause-few : goal.end_period-requires-clause-few
end_period-requires-clause-few g c =
    let k = c.args.self.now in
    let n = c.ending.self in
    let l = loop-few k.every c.ending._told c.saturating_sub.result
    (with_period k.watcher.state k.period) (with_period n.watcher.state n.period)
    c.args.to c.requires.some c.saturating_sub.ensures (omega arith) c.ending.invariant.state in
    let f = c.requires.few in
    omega arith

pub end_period-requires-clause-near : goal.end_period-requires-clause-near
end_period-requires-clause-near g c =
    let k = c.args.self.now in
    let n = c.ending.self in
    let l = loop-near k.every c.ending._told c.saturating_sub.result
    (with_period k.watcher.state k.period) (with_period n.watcher.state n.period)
    c.args.to c.requires.some c.saturating_sub.ensures (omega arith) c.ending.invariant.state in
    let e = c.ending.invariant.every in
    let r = c.ranges.to.fits in
    omega arith

pub returns-in_err-end_period-clause-wrote : goal.returns-in_err-end_period-clause-wrote
returns-in_err-end_period-clause-wrote g c =
    let k = c.args.self.now in
    let v = c.ending.invariant in
    let u = with_period k.watcher.state k.period in
    let s = c.saturating_sub.result in
    let e = ends-is k.every u c.args.to s (s / k.every) c.saturating_sub.ensures refl in
    let p = err_from_is_err_and c.from_residual.result c.from_residual.ensures.1 in
    let f = c.in_err-end_period.ensures.wrote.err in
    rw p.1 (wrote-failed (f.0 ∙ ap (λ n. n + 1) v.quiet)
    (ended-front k.watcher.style k.every c.ending._told (ends_before k.every u c.args.to) u (omega arith)
    (period-is v.style v.every v.state) v.grew f.1))

pub ending-preserved : goal.ending-preserved
ending-preserved g c =
    let k = c.args.self.now in
    let v = c.ending.invariant in
    let u = with_period k.watcher.state k.period in
    let r = c.end_period.ensures in
    record {
      style = r.style ∙ v.style;
      lasts = r.lasts ∙ v.lasts;
      every = r.every ∙ v.every;
      state = c.in_ok-end_period.ensures.state ∙ next-is v.every v.state ∙ sym (periods-more k.every c.ending._told u);
      grew = grew-is (ended-lines k.watcher.style k.every c.ending._told u)
          (grew-join v.grew (grew-is (period-is v.style v.every v.state) c.in_ok-end_period.ensures.wrote.grew));
      quiet = c.in_ok-end_period.ensures.wrote.no_failure ∙ v.quiet;
    }

pub returns-clause-few : goal.returns-clause-few
returns-clause-few g c =
    let k = c.args.self.now in
    let n = c.ending.self in
    loop-few k.every c.ending._told c.saturating_sub.result
    (with_period k.watcher.state k.period) (with_period n.watcher.state n.period)
    c.args.to c.requires.some c.saturating_sub.ensures (omega arith) c.ending.invariant.state

pub returns-clause-state : goal.returns-clause-state
returns-clause-state g c =
    let k = c.args.self.now in
    let u = with_period k.watcher.state k.period in
    let e = ends-is k.every u c.args.to c.saturating_sub.result c.ending._told c.saturating_sub.ensures (omega arith) in
    c.ending.invariant.state ∙ ap (λ n. periods k.every n u) e

pub returns-clause-wrote : goal.returns-clause-wrote
returns-clause-wrote g c =
    let k = c.args.self.now in
    let u = with_period k.watcher.state k.period in
    let e = ends-is k.every u c.args.to c.saturating_sub.result c.ending._told c.saturating_sub.ensures (omega arith) in
    record {
      grew = grew-is (ap (λ n. notice_lines k.watcher.style (periods_told k.every n u)) e) c.ending.invariant.grew;
      no_failure = c.ending.invariant.quiet;
      err = tt;
    }
