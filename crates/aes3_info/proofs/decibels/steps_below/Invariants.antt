use Rattle.std.proofs.Common.{◌≡◌, ◌+◌, ◌-◌, ◌≤◌}
use Rattle.aes3_info.specs.Levels.{decade, half_step, steps_below}
use Rattle.aes3_info.proofs.decibels.steps_below.Given as goal

abbrev pub invariant-loop-steps : goal.invariant-loop-steps
invariant-loop-steps l = record {
  steps : steps_below decade half_step l.fn.power l.full
      ≡ l.steps + steps_below (decade - l.steps) l.limit l.fn.power l.full;
  few : l.limit ≤ 2147483648;
}
