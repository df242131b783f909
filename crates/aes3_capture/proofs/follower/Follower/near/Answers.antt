use Rattle.std.proofs.Common.{ap, refl, arith, ◌≡◌, ◌+◌, ◌-◌, ◌*◌}
use Rattle.aes3_capture.proofs.Nearness.{counted-near}
use Rattle.aes3_capture.proofs.follower.Follower.near.Goals as goal

pub returns : goal.returns
returns c =
    let f = c.args.self.now in
    let behind = c.if-time-told.false in
    let ahead = c.if-time-told-2.false in
    let within = c.if-not-is_within.ensures.0 refl in
    let apart = c.if-not-is_within-2.ensures.0 refl in
    let samples = c.from.ensures in
    let cells : c.from-2.result * f.period ≡ c.args.cells * f.period = ap (λ n. n * f.period) c.from-2.ensures in
    let least = c.if-period-low.false in
    let most = c.if-period-self.false in
    let same = c.place_nearer-same.ensures.nearer in
    record {
      counted = counted-near f _ c.args.samples c.args.cells (65536 * c.args.samples + f.other - c.args.cells * f.period)
          (record {
            quiet = omega arith;
            few = omega arith;
            behind = omega (arith, behind, samples, cells);
            ahead = omega (arith, behind, ahead, samples, cells);
            place_is = omega (arith, behind, within, samples, cells);
            from = omega (arith, behind, within, samples, cells);
            below = omega (arith, behind, within, samples, cells);
            bounds_is = refl;
            elapsed_is = omega arith;
            same_is = omega (arith, behind, within, samples, cells, same);
            other_is = omega (arith, behind, within, apart, samples, cells, same);
            period_is = omega (arith, behind, within, samples, cells, least);
            least = omega (arith, least);
            most = omega (arith, most);
            other_bound = omega (arith, behind, within, apart, samples, cells, same);
          });
      few = omega arith;
      bounds_is = refl;
      together = omega (arith, apart);
    }
