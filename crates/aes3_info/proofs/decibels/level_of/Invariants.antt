use Rattle.std.proofs.Common.{◌≡◌, ◌+◌, ◌-◌, ◌*◌}
use Rattle.aes3_info.specs.Levels.{decades, level_of, tenths_below}
use Rattle.aes3_info.proofs.decibels.level_of.Given as goal

abbrev pub invariant-loop-decade : goal.invariant-loop-decade
invariant-loop-decade l = record {
  level : level_of l.fn.power l.full ≡ 100 * l.decade + tenths_below (decades - l.decade) l.power l.full;
}
