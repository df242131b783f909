use Rattle.std.proofs.Common.{ℕ, ◌≤◌, ◌/◌, arith}
use Rattle.aes3_capture_recovery.proofs.period.bounds_within.Goals as goal

part-small : (n part : ℕ) → 512 ≤ part → n / part ≤ n / 512
part-small n part least = grind (arith, least)

pub invariant_of-result : goal.invariant_of-result
invariant_of-result c =
    let small = part-small c.args.period c.args.part c.requires.part in
    let least = c.if-period-lt-SHORTEST_PERIOD.false in
    let most = c.if-period-gt-LONGEST_PERIOD.false in
    record {
      ordered = omega (arith, small);
      slim = omega (arith, small);
      least = omega (arith, small, least);
      most = omega (arith, small, most);
    }
